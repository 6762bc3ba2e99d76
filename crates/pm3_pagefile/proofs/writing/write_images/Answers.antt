use Rattle.std.proofs.Common.{ap, ◌∙◌}
use Rattle.pm3_core.specs.declared.naming.TheConstants.{BASE}
use Rattle.pm3_types.specs.PageOne.{padded}
use Rattle.pm3_pagefile.specs.Writing.{images_given}
use Rattle.pm3_pagefile.proofs.HeadLast.{head_replaced, not_yet, turned, both_calls}
use Rattle.pm3_pagefile.proofs.writing.write_images.Goals as goal

pub returns-clause-ok : goal.returns-clause-ok
returns-clause-ok g c =
    head_replaced c.args.marks (images_given c.args.catalog.now BASE c.args.images.now.images) c.padded_page-head.result _ _ _ _
    (c.padded_page-head.ensures ∙ ap (padded 4096) c.encode.ensures) c.in-Ok.ensures.ok c.in-Ok-write_page.ensures.ok c.in-Ok-sync.ensures.same

pub returns-in_default-clause-order : goal.returns-in_default-clause-order
returns-in_default-clause-order g c = not_yet g.D.Disk _ c.in_default.ensures.crash

pub returns-in_default-write_page-clause-order : goal.returns-in_default-write_page-clause-order
returns-in_default-write_page-clause-order g c =
    turned g.D.Disk _ c.in-Ok.ensures.crash c.in_default-write_page.ensures.crash c.in-Ok.ensures.ok
    (λ bytes told. g.met.D.Disk.leaves_what_it_reads c.write_pages.new.disk bytes told)

pub returns-in_default-sync-clause-order : goal.returns-in_default-sync-clause-order
returns-in_default-sync-clause-order g c =
    let given = images_given c.args.catalog.now BASE c.args.images.now.images in
    turned g.D.Disk given c.in-Ok.ensures.crash (both_calls g.D.Disk given c.in-Ok-write_page.ensures.crash c.in_default-sync.ensures.crash) c.in-Ok.ensures.ok
    (λ bytes told. g.met.D.Disk.leaves_what_it_reads c.write_pages.new.disk bytes told)

pub returns-clause-order : goal.returns-clause-order
returns-clause-order g c =
    let given = images_given c.args.catalog.now BASE c.args.images.now.images in
    turned g.D.Disk given c.in-Ok.ensures.crash (both_calls g.D.Disk given c.in-Ok-write_page.ensures.crash c.in-Ok-sync.ensures.crash) c.in-Ok.ensures.ok
    (λ bytes told. g.met.D.Disk.leaves_what_it_reads c.write_pages.new.disk bytes told)
