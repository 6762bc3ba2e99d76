use Rattle.oo7_objects.proofs.Rows.{row_then}
use Rattle.std.proofs.Common.{◌≡◌, ◌≢◌, ℕ, inr, refl, arith}
use Rattle.pm3_types.specs.Graph.{Part}
use Rattle.pm3_history.specs.State.{State}
use Rattle.oo7_objects.specs.Wholes.{IsOfClass, name_at}
use Rattle.oo7_objects.proofs.Knowing.{kept_then, known_place, known_so}
use Rattle.oo7_index.proofs.Blaming.{departs_at}
use Rattle.oo7_index.proofs.Looking.{one_class}
use Rattle.oo7_index.proofs.nodes.expect.Goals as goal

pub spot_of-spot-requires-clause-some : goal.spot_of-spot-requires-clause-some
spot_of-spot-requires-clause-some g c = known_place (λ (st : State) (w : Part) (n : ℕ). n ≢ 0) c.args.at 0 0 c.requires.some c.type_of.ensures.kept c.type_of.ensures.row (inr (omega arith))

pub returns-then-found-class-clause-refused : goal.returns-then-found-class-clause-refused
returns-then-found-class-clause-refused g c =
    departs_at (λ (st : State) (w : Part) (n : ℕ). (n ≡ name_at c.args.txn.now st c.args.at) × (IsOfClass w n c.args.class → ⊥)) c.args.at 0 0 c.spot_of-spot.result.page c.spot_of-spot.result.word
    c.type_of.ensures.kept c.type_of.ensures.row (inr (omega arith)) c.spot_of-spot.ensures.kept c.spot_of-spot.ensures.told
    (known_so c.in-Ok.ensures.told (λ st w found. (refl, λ wanted. c.if-found-class.true (one_class w (name_at c.args.txn.now st c.args.at) c.in-Ok.found c.args.class found wanted))))

pub returns-then-found-class-clause-kept : goal.returns-then-found-class-clause-kept
returns-then-found-class-clause-kept g c = kept_then c.type_of.ensures.kept c.spot_of-spot.ensures.kept

pub returns-then-found-class-clause-row : goal.returns-then-found-class-clause-row
returns-then-found-class-clause-row g c = row_then c.args.txn.now c.type_of.new.txn c.spot_of-spot.new.txn 0 0 c.type_of.ensures.kept.heap c.type_of.ensures.row c.spot_of-spot.ensures.row
