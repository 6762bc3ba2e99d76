use Rattle.pm3_txn.specs.Underway.{Belongs, HoldsNothing}
use Rattle.pm3_txn_trials.proofs.trails.leave_trail.Given as goal

abbrev pub invariant-loop-count : goal.invariant-loop-count
invariant-loop-count g l = Belongs g.D.Reader.Reader.content l.heap l.mutator × HoldsNothing l.mutator
