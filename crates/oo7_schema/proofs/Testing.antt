-- What tests of numbers and their joins say.
use Rattle.std.proofs.Common.{◌≡◌, ◌<◌, ◌≤◌, ℕ, Bool, true, false, ◌⊎◌, inl, inr, refl, arith, leb, nat_lt}
use Rattle.std.specs.Prelude.{◌==◌, ◌&&◌, ◌||◌}
use Rattle.std.proofs.lemmas.Bool.Decides.{nat_tests}

pub itself : (n : ℕ) → (n == n) ≡ true
itself n = grind (arith, nat_tests)

pub same_number : (a b : ℕ) → (a == b) ≡ true → a ≡ b
same_number a b is = grind (arith, nat_tests)

pub apart_numbers : (a b : ℕ) → (a == b) ≡ false → a ≡ b → ⊥
apart_numbers a b is same = grind (arith, nat_tests)

pub turned_test : (a b : ℕ) → (a == b) ≡ false → (b == a) ≡ false
turned_test a b is = grind (arith, nat_tests)

pub test_false : (a b : ℕ) → (a ≡ b → ⊥) → (a == b) ≡ false
test_false a b apart = by_test (a == b) refl
  where
    by_test : (c : Bool) → (a == b) ≡ c → (a == b) ≡ false
    by_test true is = absurd (apart (same_number a b is))
    by_test false is = is

pub at_most : (a b : ℕ) → leb a b ≡ true → a ≤ b
at_most a b is = grind (arith, nat_tests)

pub below : (a b : ℕ) → nat_lt a b ≡ true → a < b
below a b is = grind (arith, nat_tests)

pub and_first : (a b : Bool) → a && b ≡ true → a ≡ true
and_first true b is = refl
and_first false b is = cc

pub and_second : (a b : Bool) → a && b ≡ true → b ≡ true
and_second true b is = is
and_second false b is = cc

pub or_cases : (a b : Bool) → a || b ≡ true → (a ≡ true) ⊎ (b ≡ true)
or_cases true b is = inl refl
or_cases false b is = inr is

pub or_first : (a b : Bool) → a ≡ true → a || b ≡ true
or_first true b is = refl
or_first false b is = cc

pub or_second : (a b : Bool) → b ≡ true → a || b ≡ true
or_second true b is = refl
or_second false b is = is

-- neither holds
pub first_fails : (a b : Bool) → a || b ≡ false → a ≡ false
first_fails false b is = refl
first_fails true b is = cc

pub second_fails : (a b : Bool) → a || b ≡ false → b ≡ false
second_fails false b is = is
second_fails true b is = cc
