use Rattle.std.proofs.Common.{◌≡◌}
use Rattle.pm3_txn_trials.proofs.lists.list_all.Given as goal

abbrev pub invariant-loop-slot : goal.invariant-loop-slot
invariant-loop-slot g l = l.txn.heap ≡ l.fn.txn.heap
