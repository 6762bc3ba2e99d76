-- Objects of images.
use Rattle.std.specs.Prelude.{ℕ, ◌≡◌, true, Some}
use Rattle.std.specs.FinMap as map
use Rattle.pm3_types.specs.Layout.{PageImage, page_in, begins_at}
use Rattle.pm3_page.specs.PageMap.{Images}

-- an object of an image that is there begins at the address
pub record IsObjectOf (base : ℕ) (images : Images) (a : ℕ) : Type 0 where
  pub image : PageImage
  pub on : map.get images (page_in base a) ≡ Some image
  pub begins : begins_at base image a ≡ true
