use Rattle.std.proofs.Common.{◌≡◌}
use Rattle.pm3_txn.specs.Underway.{Belongs}
use Rattle.pm3_txn_trials.proofs.forks.make_often.Given as goal

abbrev pub invariant-loop-made : goal.invariant-loop-made
invariant-loop-made g l = record {
  of : Belongs g.D.Reader.Reader.content l.heap l.first;
  reads : g.D.Reader.Reader.content l.reader ≡ l.heap.1.opening.file;
}
