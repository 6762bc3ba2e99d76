use Rattle.std.proofs.Common.{◌≡◌, Some, sym, ◌∙◌}
use Rattle.std.specs.FinMap.{get}
use Rattle.pm3_core.specs.declared.naming.TheConstants.{BASE}
use Rattle.pm3_page.specs.PageBytes.{file_bytes}
use Rattle.pm3_pagefile.specs.Writing.{images_given, only}
use Rattle.pm3_pagefile.proofs.EarlierImages.{calls_in_all, calls_until, one_call_more}
use Rattle.pm3_pagefile.proofs.Replacing.{then_write}
use Rattle.pm3_pagefile.proofs.Rising.{more_replaced, none_given, one_more, only_within, some_given}
use Rattle.pm3_pagefile.proofs.writing.write_pages.Goals as goal

pub loop-page-preserved : goal.loop-page-preserved
loop-page-preserved g c =
    let there : get c.args.images.now.images c.in-Some.page ≡ Some c.in-Some-get.image.now = sym c.in-Some-get.ensures in
    let given = images_given c.args.catalog.now BASE c.args.images.now.images in
    let bytes = file_bytes c.args.catalog.now BASE c.in-Some-get.image.now in
    let is : given c.in-Some.page ≡ Some bytes = some_given (file_bytes c.args.catalog.now BASE) (get c.args.images.now.images c.in-Some.page) c.in-Some-get.image.now there in
    let joins = one_more given c.loop-page.start c.in-Some.page bytes c.in-Some.ensures.next.reached
    (λ q from until. none_given (file_bytes c.args.catalog.now BASE) (get c.args.images.now.images q) (c.in-Some.ensures.next.least q from until)) is in
    record {
      replaced = more_replaced given c.loop-page.start c.in-Some.page bytes (g.D.Disk.content c.args.disk.now) (g.D.Disk.content c.loop-page.disk) (g.D.Disk.content c.write_image.new.disk) joins
          c.loop-page.invariant.replaced c.in-Ok.ensures.ok;
      crash = then_write (only c.in-Some.page bytes) given _ _ _ _ _ _ (only_within given c.in-Some.page bytes is) c.loop-page.invariant.crash c.write_image.ensures.crash;
      single = one_call_more c.args.images.now.images c.loop-page.start c.in-Some.page (g.D.Disk.moment c.args.disk.now) (g.D.Disk.moment c.loop-page.disk)
          (g.D.Disk.moment c.write_image.new.disk) c.in-Some-get.image.now c.in-Some.ensures.next.reached there c.loop-page.invariant.single c.write_image.ensures.single;
      faults = c.in-Ok.ensures.cause.calm ∙ c.loop-page.invariant.faults;
    }

pub returns-in_default-write_image-clause-single : goal.returns-in_default-write_image-clause-single
returns-in_default-write_image-clause-single g c =
    calls_until c.args.images.now.images c.loop-page.start c.in-Some.page (g.D.Disk.moment c.args.disk.now) (g.D.Disk.moment c.loop-page.disk) (g.D.Disk.moment c.write_image.new.disk)
    c.in-Some-get.image.now c.in-Some.ensures.next.reached (sym c.in-Some-get.ensures) c.loop-page.invariant.single c.write_image.ensures.single

pub returns-clause-single : goal.returns-clause-single
returns-clause-single g c =
    calls_in_all c.args.images.now.images c.loop-page.start (g.D.Disk.moment c.args.disk.now) (g.D.Disk.moment c.loop-page.disk) c.loop-page.invariant.single
