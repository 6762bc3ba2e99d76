-- The sheets of images, by their pages, and images that have the form.
use Rattle.std.specs.Prelude.{ℕ, ◌≡◌, ◌<◌, true, List, [], ◌∷◌, Option, Some}
use Rattle.std.specs.FinMap as map
use Rattle.std.specs.FinMap.{insert, empty, entries}
use Rattle.std.specs.Option.{option_map}
use Rattle.pm3_types.specs.Fields.{Fields}
use Rattle.pm3_types.specs.Layout.{Sheet, PageImage}
use Rattle.pm3_types.specs.PageForm.{IsSound}
use Rattle.pm3_types.specs.Shown as shown
use Rattle.pm3_page.specs.PageMap.{Images, IsAtHome}

-- the sheet of an image, if there is one
abbrev pub sheet_in : Option PageImage → Option Sheet
sheet_in o = option_map (λ image. image.sheet) o

-- the sheets of these images laid over others, which they hide
abbrev pub sheets_over : List (ℕ × PageImage) → shown.Images → shown.Images
sheets_over [] sheets = sheets
sheets_over (e ∷ es) sheets = insert (sheets_over es sheets) e.0 e.1.sheet

-- the sheets of images
abbrev pub sheets_of : Images → shown.Images
sheets_of images = sheets_over (entries images) empty

-- each image stands under its own page, which a store can have, and has the form under the catalog, in a store of so many pages
pub record AreSoundPages (catalog : List Fields) (base pages : ℕ) (images : Images) : Type 0 where
  pub home : IsAtHome images
  pub low : (page : ℕ) → map.contains_key images page ≡ true → page < 16384
  pub form : (page : ℕ) (image : PageImage) → map.get images page ≡ Some image → IsSound catalog base pages image
