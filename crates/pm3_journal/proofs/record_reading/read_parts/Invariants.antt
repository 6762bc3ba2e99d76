use Rattle.std.proofs.Common.{All, ◌≡◌, ◌<◌, ◌≤◌, length, vec_len, vec_capacity}
use Rattle.pm3_disk.specs.Content.{IfTold}
use Rattle.pm3_disk.specs.Devices.{HasNotFailed, OnlyReads}
use Rattle.pm3_journal.specs.Offsets.{AreNoted, IsTable}
use Rattle.pm3_journal.specs.Windows.{IsWindowOn}
use Rattle.pm3_journal.proofs.Noting.{PartsSoFar}
use Rattle.pm3_journal.proofs.record_reading.read_parts.Given as goal

abbrev pub invariant-loop-i : goal.invariant-loop-i
invariant-loop-i g l = record {
  window : IsWindowOn l.window (g.D.Disk.content l.disk);
  reads : OnlyReads g.D.Disk l.fn.disk l.disk;
  honest : HasNotFailed g.D.Disk l.fn.disk l.disk;
  size : length l.offsets ≡ length l.fn.offsets;
  table : IsTable l.offsets;
  room : l.count ≤ vec_capacity l.numbers;
  len : vec_len l.numbers ≡ l.i;
  least : 1 ≤ l.last;
  below : l.last < length l.fn.offsets;
  pages : All (λ page. page < length l.fn.offsets) l.numbers.items;
  above : All (λ page. 2 ≤ page) l.numbers.items;
  noted : AreNoted l.numbers.items l.fn.offsets l.offsets;
  so_far : IfTold (g.D.Disk.content l.fn.disk) (λ bytes. PartsSoFar l.count (length l.fn.offsets) l.at l.i l.last bytes l.numbers.items l.fn.offsets l.offsets);
}
