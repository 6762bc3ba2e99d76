use Rattle.pm3_txn.proofs.Admitting.{transactions_begin, pages_are_admitted}
use Rattle.pm3_txn.proofs.Changing.{reads_go_on, reads_are_known, writes_go_on, root_reads_go_on, root_writes_go_on, objects_are_there}
use Rattle.pm3_txn.proofs.Entering.{transactions_commit}
use Rattle.pm3_txn.proofs.Going.{transactions_go_on}
use Rattle.pm3_txn.proofs.laws.transaction_law.Goals as goal

pub returns : goal.returns
returns c = record {
  begins = transactions_begin;
  admits = pages_are_admitted c.frame_of_runs.ensures;
  there = objects_are_there;
  reads = reads_go_on;
  known = reads_are_known;
  writes = writes_go_on;
  root_reads = root_reads_go_on;
  root_writes = root_writes_go_on;
  goes_on = transactions_go_on;
  commits = transactions_commit c.frame_of_runs.ensures;
}
