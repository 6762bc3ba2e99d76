use Rattle.std.proofs.Common.{◌-◌, ◌^◌}
use Rattle.pm3_core.specs.declared.naming.TheConstants.{BASE}
use Rattle.pm3_disk.specs.Devices.{HasNotFailed, Leaves, MakesAtMost, Takes}
use Rattle.pm3_pagefile.specs.PageBytes.{ChangesOnly, IsReplaced}
use Rattle.pm3_pagefile.specs.Writing.{images_given}
use Rattle.pm3_pagefile.proofs.EarlierImages.{images_before}
use Rattle.pm3_pagefile.proofs.Rising.{below}
use Rattle.pm3_pagefile.proofs.writing.write_pages.Given as goal

-- the pages below `start` that have images are written
abbrev pub invariant-loop-page : goal.invariant-loop-page
invariant-loop-page g l = record {
  replaced : Takes g.D.Disk l.fn.disk l.disk (IsReplaced (below l.start (images_given l.catalog BASE l.images.images)));
  crash : Leaves g.D.Disk l.fn.disk l.disk (ChangesOnly (images_given l.catalog BASE l.images.images));
  single : MakesAtMost g.D.Disk (images_before l.start l.images.images) l.fn.disk l.disk;
  faults : HasNotFailed g.D.Disk l.fn.disk l.disk;
}

abbrev pub decreases-loop-page : goal.decreases-loop-page
decreases-loop-page g l = 2 ^ 32 - l.start
