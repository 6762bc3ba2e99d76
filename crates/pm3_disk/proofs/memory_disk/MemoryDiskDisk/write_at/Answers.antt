use Rattle.std.proofs.Common.{refl}
use Rattle.pm3_disk.proofs.Recorded.{passes_write, torn_write, single_call}
use Rattle.pm3_disk.proofs.memory_disk.MemoryDiskDisk.write_at.Goals as goal

pub returns-clause-crash : goal.returns-clause-crash
returns-clause-crash c = passes_write c.args.at c.args.bytes.now _ _ c.write.result (c.requires _ refl) c.write.ensures.call

pub returns-clause-torn : goal.returns-clause-torn
returns-clause-torn c = torn_write c.args.at c.args.bytes.now _ _ c.write.result (c.requires _ refl) c.write.ensures.call

pub returns-clause-single : goal.returns-clause-single
returns-clause-single c = single_call _ _ _ _ c.write.result c.write.ensures.call
