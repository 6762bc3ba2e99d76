use Rattle.std.proofs.Common.{◌≡◌}
use Rattle.pm3_txn_trials.proofs.steps.make_calls.Given as goal

abbrev pub invariant-loop-call : goal.invariant-loop-call
invariant-loop-call g l = l.txn.heap ≡ l.fn.txn.heap
