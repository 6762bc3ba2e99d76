use Rattle.std.proofs.Common.{◌≡◌, ◌-◌, ◌≤◌, [], length, None, IfSome}
use Rattle.pm3_disk.specs.Content.{IfTold}
use Rattle.pm3_disk.specs.Devices.{HasNotFailed, OnlyReads}
use Rattle.pm3_journal.specs.Findings.{HasList}
use Rattle.pm3_journal.specs.Offsets.{AreHeld, IsTable}
use Rattle.pm3_journal.specs.Windows.{IsWindowOn}
use Rattle.pm3_journal.proofs.list_reading.read_list.Given as goal

abbrev pub invariant-loop-end : goal.invariant-loop-end
invariant-loop-end g l = record {
  window : IsWindowOn l.window (g.D.Disk.content l.disk);
  reads : OnlyReads g.D.Disk l.fn.disk l.disk;
  honest : HasNotFailed g.D.Disk l.fn.disk l.disk;
  size : length l.offsets ≡ length l.fn.offsets;
  table : IsTable l.offsets;
  within : l.end ≤ l.len;
  pages : l.entries.pages ≡ length l.fn.offsets;
  first : l.entries.summaries ≡ [] → l.due ≡ None;
  positive : IfSome l.due (λ due. 1 ≤ due);
  held : AreHeld l.entries.summaries l.offsets;
  so_far : IfTold (g.D.Disk.content l.fn.disk) (HasList (length l.fn.offsets) l.end l.due l.entries.summaries l.offsets);
}

abbrev pub decreases-loop-end : goal.decreases-loop-end
decreases-loop-end g l = l.len - l.end
