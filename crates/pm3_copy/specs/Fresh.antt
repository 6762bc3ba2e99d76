-- Blank pages, in order.
use Rattle.std.specs.Prelude.{ℕ, ◌≡◌, ◌+◌, ◌<◌, ◌≤◌, Bool, List, [], ◌∷◌, Some}
use Rattle.std.specs.FinMap as map
use Rattle.pm3_types.specs.Layout.{PageImage, blank_sheet}
use Rattle.pm3_page.specs.Next.{IsLeast}
use Rattle.pm3_page.specs.PageMap.{Images}

-- the image of a page without objects
abbrev pub blank : ℕ → PageImage
blank page = record { page = page; sheet = blank_sheet }

-- each image is that of a page without objects, which is none of the first three
abbrev pub AreBlank : Images → Type 0
AreBlank images = (p : ℕ) (image : PageImage) → map.get images p ≡ Some image → (3 ≤ p) × (p < 16384) × (image ≡ blank p)

-- these are the least numbers from one on that pass the test
abbrev pub AreLeast : (ℕ → Bool) → ℕ → List ℕ → Type 0
AreLeast has start [] = Unit {0}
AreLeast has start (p ∷ ps) = IsLeast has start p × AreLeast has (p + 1) ps

-- these are the next pages of the images from a number on, and they have no objects
abbrev pub AreNext : Images → ℕ → List ℕ → Type 0
AreNext images start [] = Unit {0}
AreNext images start (p ∷ ps) = IsLeast (map.contains_key images) start p × (3 ≤ p) × (map.get images p ≡ Some (blank p)) × AreNext images (p + 1) ps
