-- A view once the pages that a pass promoted were settled.
use Rattle.std.proofs.Common.{◌≡◌, ◌∙◌, ◌||◌, ◌&&◌, ℕ, Bool, true, false, not, List, refl, ap}
use Rattle.pm3_table.specs.declared.view.Deed.{Deed}
use Rattle.pm3_table.specs.declared.view.Told.{Told}
use Rattle.pm3_table.specs.Deeds.{marks_of}
use Rattle.pm3_table.specs.Holds.{holds_of, is_in}
use Rattle.pm3_table.specs.Words.{turn_unit}
use Rattle.pm3_txn.specs.CarriedPass.{HasPromoted}
use Rattle.pm3_txn.specs.PassEnds.{HasSettled}
use Rattle.pm3_txn.specs.PassSteps.{set_aside}
use Rattle.pm3_txn.specs.States.{MutatorState}
use Rattle.pm3_txn.proofs.PassDraws.{still_held}

or_first : (a b : Bool) → a ≡ true → (a || b) ≡ true
or_first a b is = ap (λ (x : Bool). x || b) is

or_second : (a b : Bool) → b ≡ true → (a || b) ≡ true
or_second true b is = refl
or_second false b is = is

module _ {R : Type 0} (told : Told) (m n : MutatorState R) (log : List Deed) (promoted : ℕ → Bool) (turn : holds_of m.pass.1.holds (turn_unit told.pages) ≡ true) (settled : HasSettled told.pages m n promoted) where
  pub has_promoted : HasPromoted told (set_aside told m log).pass.1 m.pass.1.log promoted n.pass.1
  has_promoted = record {
    seen = ap (λ (x : MutatorState R). x.pass.1.seen) settled.rest;
    names = ap (λ (x : MutatorState R). x.pass.1.names) settled.rest;
    turn = settled.holds (turn_unit told.pages) ∙ or_second (promoted (turn_unit told.pages)) (holds_of m.pass.1.holds (turn_unit told.pages)) turn;
    holds = λ u is. settled.holds u ∙ or_second (promoted u) (holds_of m.pass.1.holds u) (still_held m.pass.1 (turn_unit told.pages) u is);
    held = λ q is. settled.holds q ∙ or_first (promoted q) (holds_of m.pass.1.holds q) is;
    spans = settled.spans;
    steady = λ q is. settled.steady q ∙ or_first (promoted q) (is_in q m.pass.1.steady) is;
    read = settled.read;
    marked = settled.marked;
    cleared = λ q off is. (
      settled.marks q ∙ ap (λ (b : Bool). not b && marks_of m.pass.1.log q) off ∙ is.0,
      λ k low. settled.reads q off k ∙ is.1 k low,
    );
  }
