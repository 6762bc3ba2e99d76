use Rattle.pm3_txn.specs.Underway.{Belongs, HoldsNothing}
use Rattle.pm3_txn_trials.proofs.lists.carry_out.Given as goal

abbrev pub invariant-loop : goal.invariant-loop
invariant-loop g l = Belongs g.D.Reader.Reader.content l.heap l.mutator × HoldsNothing l.mutator
