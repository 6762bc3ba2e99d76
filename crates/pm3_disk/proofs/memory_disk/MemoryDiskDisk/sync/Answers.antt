use Rattle.pm3_disk.proofs.Recorded.{passes_sync, single_call}
use Rattle.pm3_disk.proofs.memory_disk.MemoryDiskDisk.sync.Goals as goal

pub returns-clause-crash : goal.returns-clause-crash
returns-clause-crash c = passes_sync _ _ c.settle.result c.settle.ensures.call

pub returns-clause-single : goal.returns-clause-single
returns-clause-single c = single_call _ _ _ _ c.settle.result c.settle.ensures.call
