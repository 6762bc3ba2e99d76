use Rattle.std.proofs.Common.{ap}
use Rattle.pm3_core.specs.declared.naming.TheConstants.{BASE}
use Rattle.pm3_store.proofs.Pictures.{pictures_from}
use Rattle.pm3_store.proofs.picturing.read_images.Goals as goal

pub returns-in-Ok-clause-pictures : goal.returns-in-Ok-clause-pictures
returns-in-Ok-clause-pictures g c =
    pictures_from c.args.catalog.now BASE c.args.journal.now.pages _ c.args.journal.now.images _ c.add_images.new.images.images (ap (λ k. k.pages) c.take_images-items.ensures.none)
    c.take_images-items.ensures.taken c.in-Ok.ensures.pictures
