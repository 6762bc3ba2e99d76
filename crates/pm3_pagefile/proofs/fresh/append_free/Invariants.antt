use Rattle.std.proofs.Common.{◌≡◌, ◌*◌, ◌-◌, ◌++◌, length, option_map}
use Rattle.pm3_disk.specs.Content.{Anything, IfTold}
use Rattle.pm3_disk.specs.Devices.{HasNotFailed, MakesAtMost, Takes}
use Rattle.pm3_types.specs.PageOne.{zeros}
use Rattle.pm3_pagefile.proofs.fresh.append_free.Given as goal

-- so many pages are there, the free ones behind what was there before
abbrev pub invariant-loop-number : goal.invariant-loop-number
invariant-loop-number g l = record {
  written : g.D.Disk.content l.disk ≡ option_map (λ bytes. bytes ++ zeros (4096 * (l.number - 3))) (g.D.Disk.content l.fn.disk);
  len : IfTold (g.D.Disk.content l.disk) (λ bytes. length bytes ≡ 4096 * l.number);
  told : Takes g.D.Disk l.fn.disk l.disk Anything;
  single : MakesAtMost g.D.Disk (l.number - 3) l.fn.disk l.disk;
  faults : HasNotFailed g.D.Disk l.fn.disk l.disk;
}
