use Rattle.pm3_page.proofs.PageMaps.{no_images}
use Rattle.pm3_page.proofs.pages.Pages.new.Goals as goal

pub returns-clause-images : goal.returns-clause-images
returns-clause-images c = rw (c.new.ensures.slots, c.new-2.ensures.items) no_images
