use Rattle.pm3_disk.proofs.Recorded.{passes_look, single_call}
use Rattle.pm3_disk.proofs.memory_disk.MemoryDiskDisk.read_at.Goals as goal

pub returns-in-Ok-clause-crash : goal.returns-in-Ok-clause-crash
returns-in-Ok-clause-crash c = passes_look _ _ c.look.result c.look.ensures.call

pub returns-in-Err-clause-crash : goal.returns-in-Err-clause-crash
returns-in-Err-clause-crash c = passes_look _ _ c.look.result c.look.ensures.call

pub returns-in-Ok-clause-single : goal.returns-in-Ok-clause-single
returns-in-Ok-clause-single c = single_call _ _ _ _ c.look.result c.look.ensures.call

pub returns-in-Err-clause-single : goal.returns-in-Err-clause-single
returns-in-Err-clause-single c = single_call _ _ _ _ c.look.result c.look.ensures.call
