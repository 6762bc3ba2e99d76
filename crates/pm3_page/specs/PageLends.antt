-- What the images end as, once a reference to one of them has ended.
use Rattle.std.specs.Prelude.{ℕ, Option}
use Rattle.std.specs.Borrow.{Fml, MutBor, LendsIf}
use Rattle.std.specs.FinMap as map
use Rattle.pm3_types.specs.Layout.{PageImage}
use Rattle.pm3_page.specs.PageMap.{PageMap}
use Rattle.pm3_page.specs.contracts.pages.Pages.{the_row as pages_row}
use Rattle.pm3_page.specs.contracts.images.Image.{the_row as image_row}

-- the images with this one under the page
abbrev pub with_image : PageMap → ℕ → PageImage → PageMap
with_image pages page image = record { images = map.insert pages.images page image; spare = pages.spare }

-- the page has the last image that was written through r, and at `None` all is as it was
abbrev pub lends_image : MutBor PageMap → ℕ → Option (MutBor PageImage) → Fml
lends_image pages page r = LendsIf pages_row image_row pages r (with_image pages.now page) pages.now
