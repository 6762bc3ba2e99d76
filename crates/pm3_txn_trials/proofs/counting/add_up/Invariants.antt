use Rattle.std.proofs.Common.{◌≤◌}
use Rattle.pm3_txn.specs.Underway.{Belongs, HoldsNothing}
use Rattle.pm3_txn_trials.proofs.counting.add_up.Given as goal

abbrev pub invariant-loop-n : goal.invariant-loop-n
invariant-loop-n g l = record {
  belongs : Belongs g.D.Reader.Reader.content l.heap l.mutator;
  bare : HoldsNothing l.mutator;
  few : l.refused ≤ l.n;
}
