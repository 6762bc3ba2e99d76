use Rattle.std.proofs.Common.{◌∙◌, refl, arith}
use Rattle.pm3_disk.proofs.Contents.{told_on, told_same}
use Rattle.pm3_types.specs.PageOne.{zeros}
use Rattle.pm3_pagefile.proofs.Growing.{none_free, one_more_free}
use Rattle.pm3_pagefile.proofs.fresh.append_free.Goals as goal

pub loop-number-init : goal.loop-number-init
loop-number-init g c = record {
  written = none_free (g.D.Disk.content c.args.disk.now);
  len = c.requires.three;
  told = told_same (g.D.Disk.content c.args.disk.now);
  single = omega arith;
  faults = refl;
}

pub loop-number-preserved : goal.loop-number-preserved
unfolding zeros
loop-number-preserved g c = record {
  written = one_more_free _ _ _ c.loop-number.number (c.loop-number.auto.number) c.loop-number.invariant.written c.in_ok-append.ensures.ok;
  len = c.in_ok-append.ensures.len;
  told = told_on c.loop-number.invariant.told c.in_ok-append.ensures.told;
  single = omega (arith, c.loop-number.invariant.single, c.in_ok-append.ensures.single, c.loop-number.auto.number);
  faults = c.in_ok-append.ensures.cause.calm ∙ c.loop-number.invariant.faults;
}
