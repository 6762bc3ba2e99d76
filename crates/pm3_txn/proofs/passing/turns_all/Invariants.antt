use Rattle.std.proofs.Common.{◌≡◌, ◌-◌, ◌<◌, ◌≤◌, ℕ, true}
use Rattle.std.specs.FinSet as set
use Rattle.pm3_txn.proofs.passing.turns_all.Given as goal

abbrev pub invariant-loop-page : goal.invariant-loop-page
invariant-loop-page l = record {
  all : (p : ℕ) → p < l.from → set.contains l.named p ≡ true → set.contains l.plan.turned p ≡ true;
  low : l.from ≤ 16384;
}

abbrev pub decreases-loop-page : goal.decreases-loop-page
decreases-loop-page l = 16384 - l.from
