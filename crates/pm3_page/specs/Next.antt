-- The next page of a set.
use Rattle.std.specs.Prelude.{◌≡◌, ℕ, ◌<◌, ◌≤◌, Bool, true, false, Option, MatchOption}

-- page is the least number from `start` on that passes the test
pub record IsLeast (has : ℕ → Bool) (start : ℕ) (page : ℕ) : Type 0 where
  pub reached : start ≤ page
  pub there : has page ≡ true
  pub least : (q : ℕ) → start ≤ q → q < page → has q ≡ false

-- None exactly where no number from `start` on passes the test, and else the least that does
abbrev pub IsNext : (ℕ → Bool) → ℕ → Option ℕ → Type 0
IsNext has start next = MatchOption next ((q : ℕ) → start ≤ q → has q ≡ false) (IsLeast has start)
