-- How many places are left to read off.
use Rattle.std.proofs.Common.{◌≡◌, ℕ, suc, zero, ◌<◌, Bool, true, false, not, cond, List, [], ◌∷◌, length, get_or, refl, arith}
use Rattle.std.specs.List.{count_by}
use Rattle.std.proofs.lemmas.List.Sums.{sum_by-cons}

-- where none is left, each is read off
pub none_left : (xs : List Bool) → count_by not xs ≡ 0 → (n : ℕ) → n < length xs → get_or xs n false ≡ true
none_left [] none n below = absurd (omega arith)
none_left (true ∷ xs) none zero below = refl
none_left (true ∷ xs) none (suc n) below =
    none_left xs (omega (arith, sum_by-cons (λ b. cond (not b) 1 0) true xs, none)) n (omega arith)
none_left (false ∷ xs) none n below =
    absurd (omega (arith, sum_by-cons (λ b. cond (not b) 1 0) false xs, none))

-- where each is read off, none is left
pub all_read : (xs : List Bool) → ((n : ℕ) → n < length xs → get_or xs n false ≡ true) → count_by not xs ≡ 0
all_read [] each = refl
all_read (true ∷ xs) each =
    let rest : count_by not xs ≡ 0 = all_read xs (λ n below. each (suc n) (omega arith)) in
    omega (arith, sum_by-cons (λ b. cond (not b) 1 0) true xs, rest)
all_read (false ∷ xs) each =
    let wrong : false ≡ true = each 0 (omega arith) in
    cc
