use Rattle.pm3_txn.proofs.WorksAdmit.{works_admit}
use Rattle.pm3_txn.proofs.WorksBegin.{works_begin, works_alone}
use Rattle.pm3_txn.proofs.WorksChange.{objects_are_held, works_read, works_write, works_read_root, works_write_root}
use Rattle.pm3_txn.proofs.WorksGo.{works_go_on}
use Rattle.pm3_txn.proofs.WorksDraw.{works_grow, works_free}
use Rattle.pm3_txn.proofs.WorksMake.{works_make}
use Rattle.pm3_txn.proofs.WorksSpace.{works_take_space}
use Rattle.pm3_txn.proofs.laws.works_law.Goals as goal

pub returns : goal.returns
returns c = record {
  begins = works_begin;
  alone = works_alone;
  admits = works_admit c.frame_of_runs.ensures;
  takes_space = works_take_space c.frame_of_runs.ensures;
  grows = works_grow;
  frees = works_free;
  makes = works_make;
  there = objects_are_held;
  reads = works_read;
  writes = works_write;
  root_reads = works_read_root;
  root_writes = works_write_root;
  goes_on = works_go_on;
}
