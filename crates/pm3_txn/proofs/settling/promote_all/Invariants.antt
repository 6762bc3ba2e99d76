use Rattle.std.proofs.Common.{◌≤◌, ◌-◌, ◌&&◌, nat_lt}
use Rattle.pm3_txn.specs.PassEnds.{HasSettled, is_promoted}
use Rattle.pm3_txn.proofs.settling.promote_all.Given as goal

abbrev pub invariant-loop-page : goal.invariant-loop-page
invariant-loop-page g l = record {
  settled : HasSettled l.heap.1.pages l.fn.mutator l.mutator (λ q. nat_lt q l.from && is_promoted l.parted q);
  low : l.from ≤ 16384;
}

abbrev pub decreases-loop-page : goal.decreases-loop-page
decreases-loop-page g l = 16384 - l.from
