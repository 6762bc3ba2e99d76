use Rattle.std.proofs.Common.{◌≡◌, ◌≤◌, take, drop}
use Rattle.pm3_disk.specs.Content.{IfTold}
use Rattle.pm3_disk.specs.Devices.{HasNotFailed, OnlyReads}
use Rattle.pm3_journal.specs.Pages.{AreBelow}
use Rattle.pm3_journal.specs.Offsets.{images_at, number_of_offsets}
use Rattle.pm3_journal.specs.Windows.{IsWindowOn}
use Rattle.pm3_journal.proofs.Picturing.{HasBelow}
use Rattle.pm3_journal.proofs.image_reading.read_images.Given as goal

abbrev pub invariant-loop-page : goal.invariant-loop-page
invariant-loop-page g l = record {
  window : IsWindowOn l.window (g.D.Disk.content l.disk);
  reads : OnlyReads g.D.Disk l.fn.disk l.disk;
  honest : HasNotFailed g.D.Disk l.fn.disk l.disk;
  below : AreBelow l.page l.images.items;
  room : number_of_offsets (drop l.page l.offsets) ≤ l.images.room;
  has : HasBelow l.page l.offsets l.images.items;
  so_far : IfTold (g.D.Disk.content l.fn.disk) (λ bytes. l.images.items ≡ images_at 0 (take l.page l.offsets) bytes);
}
