use Rattle.oo7_index.proofs.Blaming.{classes_later}
use Rattle.std.proofs.Common.{◌+◌, ℕ, inr, arith}
use Rattle.pm3_types.specs.declared.places.Place.TheVariants.{Reference}
use Rattle.pm3_types.specs.Graph.{Part}
use Rattle.pm3_history.specs.State.{State}
use Rattle.oo7_objects.specs.Wholes.{HasPlace}
use Rattle.oo7_objects.proofs.Knowing.{kept_then, known_place}
use Rattle.oo7_objects.proofs.Rows.{refused_before, row_then, row_wider, tag_still}
use Rattle.oo7_index.proofs.Following.{followed, nil_there}
use Rattle.oo7_index.proofs.nodes.follow.Goals as goal

pub reference-requires-clause-there : goal.reference-requires-clause-there
reference-requires-clause-there g c =
    known_place (λ (st : State) (w : Part) (n : ℕ). HasPlace w n (Reference c.args.f)) c.args.i 0 0 c.requires.there c.spot_of-spot.ensures.kept c.spot_of-spot.ensures.row (inr (omega arith))

pub returns-in-Err-clause-refused : goal.returns-in-Err-clause-refused
returns-in-Err-clause-refused g c = refused_before c.spot_of-spot.ensures.kept c.in-Err.fault c.in-Err.ensures.refused

pub returns-then-is_nil-clause-refused : goal.returns-then-is_nil-clause-refused
returns-then-is_nil-clause-refused g c =
    nil_there c.args.i c.args.j c.args.f c.spot_of-spot.result.page c.spot_of-spot.result.word c.is_nil.result c.requires.some c.spot_of-spot.ensures.kept c.spot_of-spot.ensures.row c.spot_of-spot.ensures.told
    c.reference.ensures.kept c.reference.ensures.row c.in_default.ensures.told c.is_nil.ensures.kept c.is_nil.ensures.row c.is_nil.ensures.nil c.if-is_nil.true

pub returns-clause-told : goal.returns-clause-told
returns-clause-told g c =
    followed c.args.i c.args.j c.args.f c.spot_of-spot.result.page c.spot_of-spot.result.word c.is_nil.result c.requires.some c.spot_of-spot.ensures.kept c.spot_of-spot.ensures.row c.spot_of-spot.ensures.told
    c.reference.ensures.kept c.reference.ensures.row c.in_default.ensures.told c.is_nil.ensures.kept c.is_nil.ensures.row c.is_nil.ensures.nil c.if-is_nil.false

pub returns-clause-tag : goal.returns-clause-tag
returns-clause-tag g c = tag_still c.args.j 0 0 c.is_nil.ensures.row (inr (omega arith)) c.in_default.ensures.tag

pub returns-in-Err-clause-kept : goal.returns-in-Err-clause-kept
returns-in-Err-clause-kept g c = kept_then c.spot_of-spot.ensures.kept c.reference.ensures.kept

pub returns-in-Err-clause-row : goal.returns-in-Err-clause-row
returns-in-Err-clause-row g c = row_then c.args.txn.now c.spot_of-spot.new.txn c.reference.new.txn c.args.j (c.args.j + 1) c.spot_of-spot.ensures.kept.heap (row_wider c.args.j (c.args.j + 1) c.spot_of-spot.ensures.row) c.reference.ensures.row

pub returns-then-is_nil-clause-kept : goal.returns-then-is_nil-clause-kept
returns-then-is_nil-clause-kept g c = kept_then c.spot_of-spot.ensures.kept (kept_then c.reference.ensures.kept c.is_nil.ensures.kept)

pub returns-then-is_nil-clause-row : goal.returns-then-is_nil-clause-row
returns-then-is_nil-clause-row g c = row_then c.args.txn.now c.spot_of-spot.new.txn c.is_nil.new.txn c.args.j (c.args.j + 1) c.spot_of-spot.ensures.kept.heap (row_wider c.args.j (c.args.j + 1) c.spot_of-spot.ensures.row) (row_then c.spot_of-spot.new.txn c.reference.new.txn c.is_nil.new.txn c.args.j (c.args.j + 1) c.reference.ensures.kept.heap c.reference.ensures.row (row_wider c.args.j (c.args.j + 1) c.is_nil.ensures.row))

pub returns-clause-kept : goal.returns-clause-kept
returns-clause-kept g c = kept_then c.spot_of-spot.ensures.kept (kept_then c.reference.ensures.kept c.is_nil.ensures.kept)

pub returns-clause-row : goal.returns-clause-row
returns-clause-row g c = row_then c.args.txn.now c.spot_of-spot.new.txn c.is_nil.new.txn c.args.j (c.args.j + 1) c.spot_of-spot.ensures.kept.heap (row_wider c.args.j (c.args.j + 1) c.spot_of-spot.ensures.row) (row_then c.spot_of-spot.new.txn c.reference.new.txn c.is_nil.new.txn c.args.j (c.args.j + 1) c.reference.ensures.kept.heap c.reference.ensures.row (row_wider c.args.j (c.args.j + 1) c.is_nil.ensures.row))

pub reference-requires-clause-classes : goal.reference-requires-clause-classes
reference-requires-clause-classes g c = classes_later c.spot_of-spot.ensures.kept c.requires.classes
