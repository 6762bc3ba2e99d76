use Rattle.std.proofs.Common.{rules, ◌+◌}
use Rattle.oo7_objects.specs.Wholes.{name_at}
use Rattle.oo7_objects.proofs.Knowing.{kept_then, known_both, known_later, known_so}
use Rattle.oo7_objects.proofs.Rows.{row_then}
use Rattle.oo7_index.specs.Departures.{Departs, LacksLeaf}
use Rattle.oo7_index.specs.Descents.{IsOnWayTo}
use Rattle.oo7_index.proofs.Blaming.{classes_later, fault_by}
use Rattle.oo7_index.proofs.Landing.{from_leaf, leaf_departs, none_from}
use Rattle.oo7_index.proofs.trees.seek.Goals as goal

pub returns-then-not-found-clause-told : goal.returns-then-not-found-clause-told
returns-then-not-found-clause-told g c = known_so (c.in-Ok.ensures.none (search rules)) (λ st w height rest from. none_from w (name_at c.args.txn.now st c.args.tree) c.args.key rest height from)

pub first_from-requires-clause-classes : goal.first_from-requires-clause-classes
first_from-requires-clause-classes g c = classes_later c.descend.ensures.kept c.requires.classes

pub first_from-requires-clause-some : goal.first_from-requires-clause-some
first_from-requires-clause-some g c = known_so (c.in-Ok.ensures.told (search rules)) (λ st w on. on.some)

pub returns-in-Ok-None-clause-told : goal.returns-in-Ok-None-clause-told
returns-in-Ok-None-clause-told g c =
    known_both (c.in-Ok.ensures.told (search rules)) c.first_from.ensures.kept (rw c.in-Ok-None.field-0-is at c.in-Ok-None.ensures.told)
    (λ st w on none rest from. none rest (from_leaf w (name_at c.args.txn.now st c.args.tree) c.args.key (name_at c.descend.new.txn st c.args.leaf) rest on from))

pub returns-in-Ok-Some-clause-told : goal.returns-in-Ok-Some-clause-told
returns-in-Ok-Some-clause-told g c =
    known_both (c.in-Ok.ensures.told (search rules)) c.first_from.ensures.kept (rw c.in-Ok-Some.field-0-is at c.in-Ok-Some.ensures.told)
    (λ st w on next. (next.0, λ rest from. next.1 rest (from_leaf w (name_at c.args.txn.now st c.args.tree) c.args.key (name_at c.descend.new.txn st c.args.leaf) rest on from)))

pub returns-in-Err-first_from-clause-refused : goal.returns-in-Err-first_from-clause-refused
returns-in-Err-first_from-clause-refused g c =
    fault_by c.args.txn.now c.descend.new.txn c.first_from.new.txn
    (λ st w. IsOnWayTo w (name_at c.args.txn.now st c.args.tree) c.args.key 0 (name_at c.descend.new.txn st c.args.leaf))
    (λ st w. LacksLeaf w (name_at c.descend.new.txn st c.args.leaf)) (λ st w. Departs w (name_at c.args.txn.now st c.args.tree)) c.descend.ensures.kept
    (known_later (c.in-Ok.ensures.told (search rules)) c.first_from.ensures.kept)
    (λ st w n on is. leaf_departs w (name_at c.args.txn.now st c.args.tree) c.args.key (name_at c.descend.new.txn st c.args.leaf) n on is) c.in-Err-first_from.fault c.in-Err-first_from.ensures.refused

pub returns-in-Ok-None-clause-kept : goal.returns-in-Ok-None-clause-kept
returns-in-Ok-None-clause-kept g c = kept_then c.descend.ensures.kept c.first_from.ensures.kept

pub returns-in-Ok-None-clause-row : goal.returns-in-Ok-None-clause-row
returns-in-Ok-None-clause-row g c = row_then c.args.txn.now c.descend.new.txn c.first_from.new.txn c.args.leaf (c.args.leaf + 1) c.descend.ensures.kept.heap c.descend.ensures.row c.first_from.ensures.row

pub returns-in-Ok-Some-clause-kept : goal.returns-in-Ok-Some-clause-kept
returns-in-Ok-Some-clause-kept g c = kept_then c.descend.ensures.kept c.first_from.ensures.kept

pub returns-in-Ok-Some-clause-row : goal.returns-in-Ok-Some-clause-row
returns-in-Ok-Some-clause-row g c = row_then c.args.txn.now c.descend.new.txn c.first_from.new.txn c.args.leaf (c.args.leaf + 1) c.descend.ensures.kept.heap c.descend.ensures.row c.first_from.ensures.row

pub returns-in-Err-first_from-clause-kept : goal.returns-in-Err-first_from-clause-kept
returns-in-Err-first_from-clause-kept g c = kept_then c.descend.ensures.kept c.first_from.ensures.kept

pub returns-in-Err-first_from-clause-row : goal.returns-in-Err-first_from-clause-row
returns-in-Err-first_from-clause-row g c = row_then c.args.txn.now c.descend.new.txn c.first_from.new.txn c.args.leaf (c.args.leaf + 1) c.descend.ensures.kept.heap c.descend.ensures.row c.first_from.ensures.row
