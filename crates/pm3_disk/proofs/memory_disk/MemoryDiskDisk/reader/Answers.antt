use Rattle.pm3_disk.proofs.Recorded.{passes_look, single_call}
use Rattle.pm3_disk.proofs.memory_disk.MemoryDiskDisk.reader.Goals as goal

pub returns-clause-crash : goal.returns-clause-crash
returns-clause-crash c = passes_look _ _ c.read_back.result c.read_back.ensures.call

pub returns-clause-single : goal.returns-clause-single
returns-clause-single c = single_call _ _ _ _ c.read_back.result c.read_back.ensures.call
