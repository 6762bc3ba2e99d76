-- What a pass and a table show, over their fields.
use Rattle.std.proofs.Common.{◌≡◌, ℕ, true, false, List, [], ◌∷◌, Option, refl, sym, ◌∙◌, subst}
use Rattle.pm3_history.specs.Entry.{Done}
use Rattle.pm3_table.specs.declared.view.Told.{Told}
use Rattle.pm3_table.specs.declared.view.View.{View}
use Rattle.std.proofs.Common.{arith}
use Rattle.std.proofs.lemmas.Bool.Decides.{nat_tests}
use Rattle.pm3_table.specs.declared.view.Hold.{Hold}
use Rattle.pm3_table.specs.Carried.{IsIdle, Carries, slots_in, dropped}
use Rattle.pm3_table.specs.Holds.{holds_of, is_in}
use Rattle.pm3_table.specs.Ops.{gave, turned}
use Rattle.pm3_table.proofs.Carrying.{carries_gave}

-- what a contract says of a pass and a table holds of their fields
pub within : {A B : Type 0} (a : A) (b : B) (v : View) (t : Told) (p : A × View) (s : B × Told) → (a, v) ≡ p → (b, t) ≡ s → (P : Told → View → Type 0) → P s.1 p.1 → P t v
within a b v t p s vp ts P x = subst (λ (z : Told × View). P z.0 z.1) (λ i. ((sym ts i).1, (sym vp i).1)) x

-- what a pass is once it gave a unit back
pub idle_gave : {V : Type 0} (v : View) (row joined : ℕ) (c : List (ℕ × Option V)) (u : ℕ) → holds_of v.holds u ≡ true → IsIdle v row joined c → IsIdle (gave v u) row joined (dropped u c)
idle_gave v row joined c u holds i = record {
  live = i.live;
  row_is = i.row_is;
  low = i.low;
  drawing = i.drawing;
  rows = i.rows;
  last = i.last;
  tally = i.tally;
  carries = carries_gave v.holds c u holds i.carries;
}

pub idle_turned : {V : Type 0} (v : View) (row joined : ℕ) (c : List (ℕ × Option V)) (turn : ℕ) (more failed : List Done) (faults : ℕ) → holds_of v.holds turn ≡ true → IsIdle v row joined c → IsIdle (turned turn v more failed faults) row joined (dropped turn c)
idle_turned v row joined c turn more failed faults holds i = record {
  live = i.live;
  row_is = i.row_is;
  low = i.low;
  drawing = i.drawing;
  rows = i.rows;
  last = i.last;
  tally = i.tally;
  carries = carries_gave v.holds c turn holds i.carries;
}

-- what is shown of fields holds of what a contract says
pub outside : {A B : Type 0} (a : A) (b : B) (v : View) (t : Told) (p : A × View) (s : B × Told) → (a, v) ≡ p → (b, t) ≡ s → (P : A × View → B × Told → Type 0) → P (a, v) (b, t) → P p s
outside {A = A} {B = B} a b v t p s vp ts P x = subst (λ (z : (A × View) × (B × Told)). P z.0 z.1) (λ i. (vp i, ts i)) x

-- a pass that holds nothing carries nothing
pub none_carried : {V : Type 0} (holds : List Hold) (c : List (ℕ × Option V)) → ((u : ℕ) → holds_of holds u ≡ false) → Carries holds c → c ≡ []
none_carried holds [] bare k = refl
none_carried holds (x ∷ xs) bare k = let a : is_in x.0 (x.0 ∷ slots_in xs) ≡ false = k.same x.0 ∙ bare x.0 in absurd (differs x.0 (slots_in xs) a)
  where
    differs : (n : ℕ) (l : List ℕ) → is_in n (n ∷ l) ≡ false → ⊥
    differs n l e = grind (arith, nat_tests, e)
