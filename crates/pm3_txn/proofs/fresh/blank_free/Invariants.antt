use Rattle.std.proofs.Common.{◌≡◌, ◌+◌, ◌-◌, ◌≤◌}
use Rattle.std.specs.FinMap as map
use Rattle.pm3_txn.proofs.Freshness.{AreTo}
use Rattle.pm3_txn.proofs.fresh.blank_free.Given as goal

abbrev pub invariant-loop-alloc : goal.invariant-loop-alloc
invariant-loop-alloc l = record {
  to : AreTo l.parted.rest.space l.fresh.images l.from;
  room : l.fresh.spare + map.len l.fresh.images ≡ l.initial.fresh.spare;
  most : map.len l.fresh.images ≤ l.wanted;
  low : l.from ≤ 16384;
}

abbrev pub decreases-loop-alloc : goal.decreases-loop-alloc
decreases-loop-alloc l = 16384 - l.from
