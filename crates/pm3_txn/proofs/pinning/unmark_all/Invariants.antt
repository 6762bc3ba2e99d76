use Rattle.std.proofs.Common.{◌≤◌, ◌-◌, ◌&&◌, nat_le}
use Rattle.std.specs.FinMap.{contains_key}
use Rattle.pm3_txn.specs.Pinning.{HasMarked}
use Rattle.pm3_txn.proofs.pinning.unmark_all.Given as goal

abbrev pub invariant-loop-page : goal.invariant-loop-page
invariant-loop-page g l = record {
  marked : HasMarked l.initial.mutator l.mutator (λ p. nat_le l.from p && contains_key l.volatile.images p);
  low : l.from ≤ 16384;
}

abbrev pub decreases-loop-page : goal.decreases-loop-page
decreases-loop-page g l = 16384 - l.from
