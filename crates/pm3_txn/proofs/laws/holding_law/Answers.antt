use Rattle.pm3_txn.proofs.OwnerAnswers.{known_are_here, holdings_read, holdings_write, holdings_read_root, holdings_write_root}
use Rattle.pm3_txn.proofs.OwnerGoes.{holdings_begin, holdings_go_on}
use Rattle.pm3_txn.proofs.OwnerTakes.{holdings_alone, holdings_take_pages, holdings_take_spaces}
use Rattle.pm3_txn.proofs.laws.holding_law.Goals as goal

pub returns : goal.returns
returns c = record {
  begins = holdings_begin;
  alone = holdings_alone;
  goes_on = holdings_go_on;
  takes_pages = holdings_take_pages c.frame_of_runs.ensures;
  takes_spaces = holdings_take_spaces c.frame_of_runs.ensures;
  known = known_are_here;
  reads = holdings_read;
  writes = holdings_write;
  root_reads = holdings_read_root;
  root_writes = holdings_write_root;
}
