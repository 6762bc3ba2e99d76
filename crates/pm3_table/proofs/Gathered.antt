-- A list is gathered item by item.
use Rattle.std.proofs.Common.{◌≡◌, ℕ, zero, suc, ◌+◌, ◌<◌, ◌≤◌, Bool, true, false, List, [], ◌∷◌, ◌++◌, take, get_or, get_or-set_other, refl, sym, ap, ◌∙◌, arith}
use Rattle.std.proofs.Math.ListN.{set}
use mathlib.Core.Logic.{dite}
use native.Mathlib.Decide.{ℕ_discrete}
use mathlib.Core.Option.{some, some-injective, some-ne-none}
use lib.ListN.{get_elem?}

-- one item more
pub take_one : {A : Type 0} (xs : List A) (n : ℕ) (x : A) → get_elem? xs n ≡ some x → take n xs ++ x ∷ [] ≡ take (suc n) xs
take_one [] n x at = absurd (some-ne-none x (sym at))
take_one (y ∷ ys) zero x at = ap (λ z. z ∷ []) (sym (some-injective y x at))
take_one (y ∷ ys) (suc n) x at = ap (λ l. y ∷ l) (take_one ys n x at)

pub taken_one : {A : Type 0} (xs : List A) (n : ℕ) (x : A) (got : List A) → get_elem? xs n ≡ some x → got ≡ take n xs → got ++ x ∷ [] ≡ take (n + 1) xs
taken_one {A} xs n x got at is = ap (λ (l : List A). l ++ x ∷ []) is ∙ (take_one xs n x at ∙ ap (λ (k : ℕ). take k xs) (let e : suc n ≡ n + 1 = omega arith in e))

-- one place more is empty, and those above it are as before
set_false : (fs : List Bool) (n : ℕ) → get_or (set fs n false) n false ≡ false
set_false [] n = refl
set_false (x ∷ xs) zero = refl
set_false (x ∷ xs) (suc n) = set_false xs n

pub one_emptied : (fs gs : List Bool) (at : ℕ) → gs ≡ set fs at false → ((k : ℕ) → k < at → get_or fs k false ≡ false)
    → (k : ℕ) → k < at + 1 → get_or gs k false ≡ false
one_emptied fs gs at is empty k low = ap (λ (l : List Bool). get_or l k false) is ∙ dite (ℕ_discrete k at)
    (λ e. ap (λ (n : ℕ). get_or (set fs at false) n false) e ∙ set_false fs at)
    (λ o. get_or-set_other fs at k false false o ∙ empty k (omega (arith, low, o)))

pub still_filled : (fs gs : List Bool) (at top : ℕ) → gs ≡ set fs at false → ((k : ℕ) → at ≤ k → k < top → get_or fs k false ≡ true)
    → (k : ℕ) → at + 1 ≤ k → k < top → get_or gs k false ≡ true
still_filled fs gs at top is filled k above below = ap (λ (l : List Bool). get_or l k false) is
    ∙ (get_or-set_other fs at k false false (λ e. omega (arith, e, above)) ∙ filled k (omega (arith, above)) below)
