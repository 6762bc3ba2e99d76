use Rattle.pm3_txn.specs.Underway.{Belongs, HoldsNothing}
use Rattle.pm3_txn_trials.proofs.beside.add_all.Given as goal

abbrev pub invariant-loop-tag : goal.invariant-loop-tag
invariant-loop-tag g l = Belongs g.D.Reader.Reader.content l.heap l.mutator × HoldsNothing l.mutator
