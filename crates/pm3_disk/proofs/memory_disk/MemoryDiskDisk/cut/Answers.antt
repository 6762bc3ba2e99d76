use Rattle.pm3_disk.proofs.Recorded.{passes_cut, single_call}
use Rattle.pm3_disk.proofs.memory_disk.MemoryDiskDisk.cut.Goals as goal

pub returns-clause-crash : goal.returns-clause-crash
returns-clause-crash c = passes_cut c.args.len _ _ c.cut_to.result c.cut_to.ensures.call

pub returns-clause-single : goal.returns-clause-single
returns-clause-single c = single_call _ _ _ _ c.cut_to.result c.cut_to.ensures.call
