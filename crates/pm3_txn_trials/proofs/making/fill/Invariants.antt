use Rattle.std.proofs.Common.{◌≡◌}
use Rattle.pm3_txn_trials.proofs.making.fill.Given as goal

abbrev pub invariant-loop-made : goal.invariant-loop-made
invariant-loop-made g l = l.txn.heap ≡ l.fn.txn.heap
