-- A set within another has no more members.
use Rattle.std.proofs.Common.{◌≡◌, ◌<◌, ◌≤◌, ◌-◌, ◌∙◌, ◌&&◌, ◌||◌, inl, inr, ℕ, zero, suc, Bool, true, false, not, cond, List, [], ◌∷◌, refl, sym, ap, arith}
use Rattle.std.specs.List.{list_any}
use Rattle.std.specs.FinSet.{FinSet, contains, remove, len, items, empty, contains-items, contains-remove, contains-empty, len-remove, len-empty, empty_of_len, same_set, nat_cmp-IsAntisymmetric}
use Rattle.std.specs.Ordering.{nat_cmp, eq_by_cmp}
use Rattle.std.specs.Cmp.{nat_cmp_total, unsigned_tied}
use Rattle.std.proofs.lemmas.Bool.{cases_eq, eq-eqb, false≢true}

none_left : (s : FinSet nat_cmp) → items s ≡ [] → len s ≡ 0
none_left s none =
    ap len (same_set nat_cmp_total nat_cmp-IsAntisymmetric s empty (λ q. contains-items s q ∙ ap (list_any (eq_by_cmp nat_cmp q)) none ∙ sym (contains-empty nat_cmp q))) ∙ len-empty nat_cmp

first_there : (s : FinSet nat_cmp) (k : ℕ) (ks : List ℕ) → items s ≡ k ∷ ks → contains s k ≡ true
first_there s k ks is =
    contains-items s k ∙ ap (list_any (eq_by_cmp nat_cmp k)) is ∙ ap (λ b. b || list_any (eq_by_cmp nat_cmp k) ks) (unsigned_tied k k ∙ eq-eqb k k refl)

some_there : (s : FinSet nat_cmp) (k : ℕ) → contains s k ≡ true → 0 < len s
some_there s k there = elim (cases_eq (len s) 0) [
  | inl none ↦ absurd (false≢true (sym (contains-empty nat_cmp k) ∙ sym (ap (λ t. contains t k) (empty_of_len s none)) ∙ there))
  | inr some ↦ omega arith
]

one_less : (s : FinSet nat_cmp) (k : ℕ) → contains s k ≡ true → len (remove s k) ≡ len s - 1
one_less s k there = len-remove nat_cmp_total s k ∙ ap (λ b. cond b (len s - 1) (len s)) there

both_less : (b x y : Bool) → (x ≡ true → y ≡ true) → (not b && x) ≡ true → (not b && y) ≡ true
both_less true x y within is = is
both_less false x y within is = within is

Within : FinSet nat_cmp → FinSet nat_cmp → Type 0
Within s t = (p : ℕ) → contains s p ≡ true → contains t p ≡ true

less_within : (k : ℕ) (s t : FinSet nat_cmp) → Within s t → Within (remove s k) (remove t k)
unfolding Within
less_within k s t within p has =
    contains-remove nat_cmp_total t k p ∙ both_less (eq_by_cmp nat_cmp p k) (contains s p) (contains t p) (within p) (sym (contains-remove nat_cmp_total s k p) ∙ has)

-- one member less of each
fewer_step : (n : ℕ) (s t : FinSet nat_cmp) → len s ≡ suc n → Within s t → ((k : ℕ) → len (remove s k) ≡ n → Within (remove s k) (remove t k) → n ≤ len (remove t k))
    → (ks : List ℕ) → items s ≡ ks → suc n ≤ len t
unfolding Within
fewer_step n s t size within rest [] none = (let zero_long = none_left s none in absurd (omega arith))
fewer_step n s t size within rest (k ∷ ks) is =
    let there = first_there s k ks is in
    let there_too = within k there in
    let less = one_less s k there in
    let less_too = one_less t k there_too in
    let some = some_there t k there_too in
    let few = rest k (omega arith) (less_within k s t within) in
    omega arith

fewer : (n : ℕ) (s t : FinSet nat_cmp) → len s ≡ n → Within s t → n ≤ len t
fewer zero s t size within = omega arith
fewer (suc n) s t size within = fewer_step n s t size within (λ k. fewer n (remove s k) (remove t k)) (items s) refl

pub no_more : (s t : FinSet nat_cmp) → ((p : ℕ) → contains s p ≡ true → contains t p ≡ true) → len s ≤ len t
unfolding Within
no_more s t within = fewer (len s) s t refl within
