-- How many pages moved objects take, object by object.
use Rattle.std.proofs.Common.{◌≡◌, ◌<◌, ◌≤◌, ◌+◌, ◌*◌, ◌/◌, ◌∙◌, inl, inr, ℕ, zero, suc, nat_le, List, [], ◌∷◌, length, map, drop, get_or, refl, ap, arith}
use Rattle.std.specs.List.{All, sum}
use Rattle.std.proofs.lemmas.List.Sums.{sum_by-cons}
use Rattle.std.proofs.lemmas.Bool.{cases_Bool, cond-true, cond-false, leb-true, leb-false, le-leb}
use Rattle.pm3_types.specs.PassMoves.{pages_behind, pages_wanted}

pub fits_here : (s end : ℕ) (ss : List ℕ) → end + s ≤ 512 → pages_behind (s ∷ ss) end ≡ pages_behind ss (end + s)
fits_here s end ss low = cond-true (nat_le (end + s) 512) _ _ (le-leb (end + s) 512 low)

pub goes_on : (s end : ℕ) (ss : List ℕ) → 512 < end + s → pages_behind (s ∷ ss) end ≡ 1 + pages_behind ss (2 + s)
goes_on s end ss high = elim (cases_Bool (nat_le (end + s) 512)) [
  | inl is ↦ (let low = leb-true (end + s) 512 is in absurd (omega arith))
  | inr none ↦ cond-false (nat_le (end + s) 512) _ _ none
]

-- each page but the last holds more than 510 words with the first object of the next
bound_behind : (sizes : List ℕ) (end : ℕ) → All (λ s. (2 ≤ s) × (s ≤ 510)) sizes → end ≤ 512 → 510 * pages_behind sizes end ≤ 2 * sum sizes + end
bound_behind [] end all low = omega arith
bound_behind (s ∷ ss) end all low =
    let rest : All (λ s. (2 ≤ s) × (s ≤ 510)) ss = λ k d below. all (suc k) d (omega arith) in
    let first : (2 ≤ s) × (s ≤ 510) = all 0 0 (omega arith) in
    let total : sum (s ∷ ss) ≡ s + sum ss = sum_by-cons (λ x. x) s ss in
    elim (cases_Bool (nat_le (end + s) 512)) [
      | inl is ↦ (
          let fits = leb-true (end + s) 512 is in
          let step = fits_here s end ss fits in
          let more = bound_behind ss (end + s) rest fits in
          omega (arith, total))
      | inr none ↦ (
          let high = leb-false (end + s) 512 none in
          let step = goes_on s end ss high in
          let more = bound_behind ss (2 + s) rest (omega (arith, first.1)) in
          omega (arith, total))
    ]

-- the bound on the pages that objects of these sizes want, and none where there is no object
pub wanted_bound : (sizes : List ℕ) → All (λ s. (2 ≤ s) × (s ≤ 510)) sizes → pages_wanted sizes ≤ 1 + 2 * sum sizes / 510
wanted_bound [] all = omega arith
wanted_bound (s ∷ ss) all =
    let first : (2 ≤ s) × (s ≤ 510) = all 0 0 (omega arith) in
    let rest : All (λ s. (2 ≤ s) × (s ≤ 510)) ss = λ k d below. all (suc k) d (omega arith) in
    let step = goes_on s 512 ss (omega (arith, first.0)) in
    let more = bound_behind ss (2 + s) rest (omega (arith, first.1)) in
    let total = sum_by-cons (λ x. x) s ss in
    omega (arith, first.0, total)

-- no more pages than objects
pub no_more : (sizes : List ℕ) (end : ℕ) → pages_behind sizes end ≤ length sizes
no_more [] end = omega arith
no_more (s ∷ ss) end = elim (cases_Bool (nat_le (end + s) 512)) [
  | inl is ↦ (let step = cond-true (nat_le (end + s) 512) (pages_behind ss (end + s)) (1 + pages_behind ss (2 + s)) is in let more = no_more ss (end + s) in omega arith)
  | inr none ↦ (let step = cond-false (nat_le (end + s) 512) (pages_behind ss (end + s)) (1 + pages_behind ss (2 + s)) none in let more = no_more ss (2 + s) in omega arith)
]

-- what is left of the sizes of a list
pub drop_sizes : (f : ℕ → ℕ) (xs : List ℕ) (i : ℕ) → i < length xs → map f (drop i xs) ≡ f (get_or xs i 0) ∷ map f (drop (i + 1) xs)
drop_sizes f [] i low = absurd (omega arith)
drop_sizes f (x ∷ xs) zero low = refl
drop_sizes f (x ∷ xs) (suc i) low =
    let e : suc (i + 1) ≡ suc i + 1 = omega arith in
    drop_sizes f xs i (omega arith) ∙ ap (λ (n : ℕ). f (get_or xs i 0) ∷ map f (drop n (x ∷ xs))) e

-- one object more is counted
pub count_here : (pages end w now_pages now_end total : ℕ) (rest : List ℕ) → pages + pages_behind (w ∷ rest) end ≡ total → end + w ≤ 512 → now_pages ≡ pages → now_end ≡ end
    → now_pages + pages_behind rest (now_end + w) ≡ total
count_here pages end w now_pages now_end total rest so_far fits same_pages same_end =
    let step = fits_here w end rest fits in
    let e = ap (λ n. pages_behind rest (n + w)) same_end in
    omega arith

pub count_next : (pages end w now_pages now_end total : ℕ) (rest : List ℕ) → pages + pages_behind (w ∷ rest) end ≡ total → 512 < end + w → now_pages ≡ pages + 1 → now_end ≡ 2
    → now_pages + pages_behind rest (now_end + w) ≡ total
count_next pages end w now_pages now_end total rest so_far high more_pages at_two =
    let step = goes_on w end rest high in
    let e = ap (λ n. pages_behind rest (n + w)) at_two in
    omega arith

pub drop_past : (f : ℕ → ℕ) (xs : List ℕ) (i : ℕ) → length xs ≤ i → map f (drop i xs) ≡ []
drop_past f [] zero low = refl
drop_past f [] (suc i) low = refl
drop_past f (x ∷ xs) zero low = absurd (omega arith)
drop_past f (x ∷ xs) (suc i) low = drop_past f xs i (omega arith)
