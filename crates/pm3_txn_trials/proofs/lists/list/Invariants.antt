use Rattle.std.proofs.Common.{◌≡◌}
use Rattle.pm3_txn_trials.proofs.lists.list.Given as goal

abbrev pub invariant-loop : goal.invariant-loop
invariant-loop g l = l.txn.heap ≡ l.fn.txn.heap
