use Rattle.pm3_txn.specs.Underway.{Belongs, HoldsNothing}
use Rattle.pm3_txn_trials.proofs.steps.perform_each.Given as goal

abbrev pub invariant-loop-steps : goal.invariant-loop-steps
invariant-loop-steps g l = record {
  belongs : Belongs g.D.Reader.Reader.content l.heap l.mutator;
  bare : HoldsNothing l.mutator;
}
