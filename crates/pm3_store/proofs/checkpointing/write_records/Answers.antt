use Rattle.pm3_core.specs.declared.naming.TheConstants.{BASE}
use Rattle.pm3_journal.specs.Summaries.{has_page}
use Rattle.pm3_store.proofs.Moving.{whole_again}
use Rattle.pm3_store.proofs.Recording.{changed_as, given_is, leaves_as, replaced_as, writable_mine}
use Rattle.pm3_store.proofs.checkpointing.write_records.Goals as goal

pub write_images-written-requires-clause-images : goal.write_images-written-requires-clause-images
write_images-written-requires-clause-images g c =
    writable_mine (has_page c.args.entries.now.summaries) c.args.catalog.now BASE c.args.marks.pages c.args.images.now.images c.set_apart.new.images.images c.set_apart.new.others.images
    c.set_apart.ensures.parted c.requires.images

pub returns-in-Ok-clause-same : goal.returns-in-Ok-clause-same
returns-in-Ok-clause-same g c =
    whole_again (has_page c.args.entries.now.summaries) c.args.images.now.images c.set_apart.new.images.images c.set_apart.new.others.images c.rejoin.new.images.images
    c.set_apart.ensures.parted c.rejoin.ensures

pub returns-in-Ok-clause-ok : goal.returns-in-Ok-clause-ok
returns-in-Ok-clause-ok g c =
    let same = given_is c.args.entries.now.summaries c.args.marks c.args.catalog.now BASE c.args.images.now.images c.set_apart.new.images.images c.set_apart.new.others.images c.set_apart.ensures.parted in
    replaced_as _ _ _ _ same c.in-Ok.ensures.ok

pub returns-in-Ok-clause-crash : goal.returns-in-Ok-clause-crash
returns-in-Ok-clause-crash g c =
    let same = given_is c.args.entries.now.summaries c.args.marks c.args.catalog.now BASE c.args.images.now.images c.set_apart.new.images.images c.set_apart.new.others.images c.set_apart.ensures.parted in
    leaves_as g.D.Disk _ _ _ _ same c.in-Ok.ensures.crash

pub returns-clause-same : goal.returns-clause-same
returns-clause-same g c =
    whole_again (has_page c.args.entries.now.summaries) c.args.images.now.images c.set_apart.new.images.images c.set_apart.new.others.images c.rejoin.new.images.images
    c.set_apart.ensures.parted c.rejoin.ensures

pub returns-clause-torn : goal.returns-clause-torn
returns-clause-torn g c =
    let same = given_is c.args.entries.now.summaries c.args.marks c.args.catalog.now BASE c.args.images.now.images c.set_apart.new.images.images c.set_apart.new.others.images c.set_apart.ensures.parted in
    λ _. changed_as _ _ _ _ same c.in-Err.ensures.torn

pub returns-clause-crash : goal.returns-clause-crash
returns-clause-crash g c =
    let same = given_is c.args.entries.now.summaries c.args.marks c.args.catalog.now BASE c.args.images.now.images c.set_apart.new.images.images c.set_apart.new.others.images c.set_apart.ensures.parted in
    leaves_as g.D.Disk _ _ _ _ same c.in-Err.ensures.crash
