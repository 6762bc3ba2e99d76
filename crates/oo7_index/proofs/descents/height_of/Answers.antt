use Rattle.std.proofs.Common.{rules, ◌≡◌, ◌≢◌, ℕ, inr, arith}
use Rattle.pm3_types.specs.declared.places.Place.TheVariants.{Word}
use Rattle.pm3_types.specs.Graph.{Part}
use Rattle.pm3_history.specs.State.{State}
use Rattle.oo7_objects.specs.Wholes.{HasPlace, IsOfClass, name_at}
use Rattle.oo7_objects.proofs.Knowing.{kept_same, kept_then, known_always, known_later, known_place, known_so}
use Rattle.oo7_objects.proofs.Rows.{refused_before, row_then}
use Rattle.oo7_index.specs.Looks.{LooksTree}
use Rattle.oo7_index.proofs.Blaming.{classes_later, departs_at, fault_by, known_now}
use Rattle.oo7_index.proofs.Looking.{entries_place, height_place}
use Rattle.oo7_index.proofs.Seeking.{tree_departs, tree_seen}
use Rattle.oo7_index.proofs.descents.height_of.Goals as goal

pub returns-in-Err-clause-refused : goal.returns-in-Err-clause-refused
returns-in-Err-clause-refused g c =
    fault_by c.args.txn.now c.args.txn.now c.expect.new.txn (λ st w. Unit {0}) (λ st w n. (n ≡ name_at c.args.txn.now st c.args.tree) × (IsOfClass w n 11 → ⊥))
    (λ st w n. (n ≡ name_at c.args.txn.now st c.args.tree) × (LooksTree w n → ⊥)) (kept_same c.args.txn.now) (known_always c.expect.new.txn (λ st w. tt))
    (λ st w n k is. (is.0, λ tree. is.1 tree.is)) c.in-Err.fault c.in-Err.ensures.refused

pub word-requires-clause-there : goal.word-requires-clause-there
word-requires-clause-there g c =
    known_now (λ (st : State) (w : Part) (n : ℕ). HasPlace w n (Word 0)) c.args.tree 0 0 c.expect.ensures.kept c.expect.ensures.row (inr (omega arith))
    (known_so c.in_default.ensures.told (λ st w of. height_place w (name_at c.args.txn.now st c.args.tree) of))

pub returns-in-Err-word-clause-refused : goal.returns-in-Err-word-clause-refused
returns-in-Err-word-clause-refused g c = refused_before c.expect.ensures.kept c.in-Err-word.fault c.in-Err-word.ensures.refused

pub word-requires-2-clause-there : goal.word-requires-2-clause-there
word-requires-2-clause-there g c =
    known_now (λ (st : State) (w : Part) (n : ℕ). HasPlace w n (Word 1)) c.args.tree 0 0 (kept_then c.expect.ensures.kept c.word.ensures.kept)
    (row_then c.args.txn.now c.expect.new.txn c.word.new.txn 0 0 c.expect.ensures.kept.heap c.expect.ensures.row c.word.ensures.row) (inr (omega arith))
    (known_later (known_so c.in_default.ensures.told (λ st w of. entries_place w (name_at c.args.txn.now st c.args.tree) of)) c.word.ensures.kept)

pub returns-in-Err-word-2-clause-refused : goal.returns-in-Err-word-2-clause-refused
returns-in-Err-word-2-clause-refused g c = refused_before (kept_then c.expect.ensures.kept c.word.ensures.kept) c.in-Err-word-2.fault c.in-Err-word-2.ensures.refused

pub spot_of-spot-requires-clause-some : goal.spot_of-spot-requires-clause-some
spot_of-spot-requires-clause-some g c =
    known_place (λ (st : State) (w : Part) (n : ℕ). n ≢ 0) c.args.tree 0 0 c.requires.some (kept_then c.expect.ensures.kept (kept_then c.word.ensures.kept c.word-2.ensures.kept))
    (row_then c.args.txn.now c.expect.new.txn c.word-2.new.txn 0 0 c.expect.ensures.kept.heap c.expect.ensures.row
    (row_then c.expect.new.txn c.word.new.txn c.word-2.new.txn 0 0 c.word.ensures.kept.heap c.word.ensures.row c.word-2.ensures.row)) (inr (omega arith))

pub returns-then-not-may_be-clause-refused : goal.returns-then-not-may_be-clause-refused
returns-then-not-may_be-clause-refused g c =
    departs_at (λ (st : State) (w : Part) (n : ℕ). (n ≡ name_at c.args.txn.now st c.args.tree) × (LooksTree w n → ⊥)) c.args.tree 0 0 c.spot_of-spot.result.page c.spot_of-spot.result.word
    (kept_then c.expect.ensures.kept (kept_then c.word.ensures.kept c.word-2.ensures.kept))
    (row_then c.args.txn.now c.expect.new.txn c.word-2.new.txn 0 0 c.expect.ensures.kept.heap c.expect.ensures.row
    (row_then c.expect.new.txn c.word.new.txn c.word-2.new.txn 0 0 c.word.ensures.kept.heap c.word.ensures.row c.word-2.ensures.row)) (inr (omega arith))
    c.spot_of-spot.ensures.kept c.spot_of-spot.ensures.told
    (tree_departs c.args.tree c.in-Ok.height c.in-Ok-word.entries c.requires.some c.expect.ensures.kept c.expect.ensures.row c.word.ensures.kept c.word.ensures.row c.word-2.ensures.kept
    c.in_default.ensures.told c.in-Ok.ensures.told c.in-Ok-word.ensures.told (search rules))

pub returns-clause-told : goal.returns-clause-told
returns-clause-told g c =
    tree_seen c.args.tree c.in-Ok.height c.in-Ok-word.entries c.requires.some c.expect.ensures.kept c.expect.ensures.row c.word.ensures.kept c.word.ensures.row c.word-2.ensures.kept
    c.in_default.ensures.told c.in-Ok.ensures.told c.in-Ok-word.ensures.told (search rules) (search rules)

pub returns-in-Err-word-clause-kept : goal.returns-in-Err-word-clause-kept
returns-in-Err-word-clause-kept g c = kept_then c.expect.ensures.kept c.word.ensures.kept

pub returns-in-Err-word-clause-row : goal.returns-in-Err-word-clause-row
returns-in-Err-word-clause-row g c = row_then c.args.txn.now c.expect.new.txn c.word.new.txn 0 0 c.expect.ensures.kept.heap c.expect.ensures.row c.word.ensures.row

pub returns-in-Err-word-2-clause-kept : goal.returns-in-Err-word-2-clause-kept
returns-in-Err-word-2-clause-kept g c = kept_then c.expect.ensures.kept (kept_then c.word.ensures.kept c.word-2.ensures.kept)

pub returns-in-Err-word-2-clause-row : goal.returns-in-Err-word-2-clause-row
returns-in-Err-word-2-clause-row g c = row_then c.args.txn.now c.expect.new.txn c.word-2.new.txn 0 0 c.expect.ensures.kept.heap c.expect.ensures.row (row_then c.expect.new.txn c.word.new.txn c.word-2.new.txn 0 0 c.word.ensures.kept.heap c.word.ensures.row c.word-2.ensures.row)

pub returns-then-not-may_be-clause-kept : goal.returns-then-not-may_be-clause-kept
returns-then-not-may_be-clause-kept g c = kept_then c.expect.ensures.kept (kept_then c.word.ensures.kept (kept_then c.word-2.ensures.kept c.spot_of-spot.ensures.kept))

pub returns-then-not-may_be-clause-row : goal.returns-then-not-may_be-clause-row
returns-then-not-may_be-clause-row g c = row_then c.args.txn.now c.expect.new.txn c.spot_of-spot.new.txn 0 0 c.expect.ensures.kept.heap c.expect.ensures.row (row_then c.expect.new.txn c.word.new.txn c.spot_of-spot.new.txn 0 0 c.word.ensures.kept.heap c.word.ensures.row (row_then c.word.new.txn c.word-2.new.txn c.spot_of-spot.new.txn 0 0 c.word-2.ensures.kept.heap c.word-2.ensures.row c.spot_of-spot.ensures.row))

pub returns-clause-kept : goal.returns-clause-kept
returns-clause-kept g c = kept_then c.expect.ensures.kept (kept_then c.word.ensures.kept c.word-2.ensures.kept)

pub returns-clause-row : goal.returns-clause-row
returns-clause-row g c = row_then c.args.txn.now c.expect.new.txn c.word-2.new.txn 0 0 c.expect.ensures.kept.heap c.expect.ensures.row (row_then c.expect.new.txn c.word.new.txn c.word-2.new.txn 0 0 c.word.ensures.kept.heap c.word.ensures.row c.word-2.ensures.row)

pub word-requires-clause-classes : goal.word-requires-clause-classes
word-requires-clause-classes g c = classes_later c.expect.ensures.kept c.requires.classes

pub word-requires-2-clause-classes : goal.word-requires-2-clause-classes
word-requires-2-clause-classes g c = classes_later (kept_then c.expect.ensures.kept c.word.ensures.kept) c.requires.classes
