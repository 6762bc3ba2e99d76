-- Sums over the mutators' numbers.
use Rattle.std.proofs.Common.{◌≡◌, ℕ, zero, suc, ◌+◌, ◌<◌, ◌≤◌, refl, ap, arith}
use native.Mathlib.Decide.{ℕ_discrete}
use mathlib.Core.Logic.{dite}
use Rattle.pm3_core.specs.Machine.{put}
use Rattle.pm3_table.specs.Crew.{total}
use Rattle.pm3_table.proofs.Put.{put_at, put_else}

-- a value that is put past the sum does not count
total_past : (n : ℕ) (f : ℕ → ℕ) (k x : ℕ) → n ≤ k → total n (put f k x) ≡ total n f
total_past zero f k x past = refl
total_past (suc n) f k x past =
    let rest : total n (put f k x) ≡ total n f = total_past n f k x (omega arith) in
    let here : put f k x n ≡ f n = put_else f k x n (λ e. omega (arith, e, past)) in
    λ i. here i + rest i

-- one value more or less
pub total_put : (n : ℕ) (f : ℕ → ℕ) (k x : ℕ) → k < n → total n (put f k x) + f k ≡ total n f + x
total_put zero f k x below = absurd (omega arith)
total_put (suc n) f k x below = dite (ℕ_discrete n k)
    (λ e. let here : put f k x n ≡ x = put_at f k x n e in
    let rest : total n (put f k x) ≡ total n f = total_past n f k x (omega (arith, e)) in
    let same : f n ≡ f k = ap f e in
    omega arith)
    (λ other. let here : put f k x n ≡ f n = put_else f k x n other in
    let rest : total n (put f k x) + f k ≡ total n f + x = total_put n f k x (omega (arith, other, below)) in
    omega arith)

-- one summand is at most the sum
pub total_part : (n : ℕ) (f : ℕ → ℕ) (k : ℕ) → k < n → f k ≤ total n f
total_part zero f k below = absurd (omega arith)
total_part (suc n) f k below = dite (ℕ_discrete n k)
    (λ e. let same : f n ≡ f k = ap f e in omega arith)
    (λ other. let rest : f k ≤ total n f = total_part n f k (omega (arith, other, below)) in omega arith)

-- where each summand is at most 1, the sum is at most their number
pub total_ones : (n : ℕ) (f : ℕ → ℕ) → ((k : ℕ) → f k ≤ 1) → total n f ≤ n
total_ones zero f each = omega arith
total_ones (suc n) f each =
    let one : f n ≤ 1 = each n in
    let rest : total n f ≤ n = total_ones n f each in
    omega arith

-- the sum of what is 0 is 0
pub total_none : (n : ℕ) (f : ℕ → ℕ) → ((k : ℕ) → f k ≡ 0) → total n f ≡ 0
total_none zero f each = refl
total_none (suc n) f each =
    let one : f n ≡ 0 = each n in
    let rest : total n f ≡ 0 = total_none n f each in
    omega arith
