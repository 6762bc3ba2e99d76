use Rattle.std.proofs.Common.{◌≡◌, ◌≤◌, ◌<◌, ◌-◌, ℕ, true, None}
use Rattle.std.specs.FinMap as map
use Rattle.pm3_copy.proofs.pass_tests.are_apart.Given as goal

abbrev pub invariant-loop-page : goal.invariant-loop-page
invariant-loop-page l = record {
  apart : (p : ℕ) → p < l.from → map.contains_key l.first.images p ≡ true → map.get l.second.images p ≡ None;
  low : l.from ≤ 16384;
}

abbrev pub decreases-loop-page : goal.decreases-loop-page
decreases-loop-page l = 16384 - l.from
