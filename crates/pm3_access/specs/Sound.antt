-- Which values and images leave the form of what is held.
use Rattle.std.specs.Prelude.{ℕ, ◌≡◌, ◌<◌, ◌^◌, Bool, true, false, List, Option, None, Some}
use Rattle.pm3_types.specs.Fields.{Fields}
use Rattle.pm3_types.specs.Layout.{PageImage, page_in, word_in}
use Rattle.pm3_types.specs.PageForm.{map_at, is_memory_reference}
use Rattle.pm3_page.specs.PageMap.{Images}
use Rattle.std.specs.FinMap as map
use Rattle.pm3_access.specs.declared.places.Place.{Place}
use Rattle.pm3_access.specs.Spots.{has_names}
use Rattle.pm3_access.specs.Access.{ImageHasForm}
use Rattle.pm3_access.specs.Holding.{Holding, image_in}

-- each of these images has the form under the catalog, with this test of references
abbrev pub ImagesHaveForm : List Fields → (ℕ → Bool) → Images → Type 0
ImagesHaveForm catalog refers images = (page : ℕ) (image : PageImage) → map.get images page ≡ Some image → ImageHasForm catalog refers image

-- the image, if there is one, is that of a page with a number of 32 bits
abbrev pub HasLowPage : Option PageImage → Type 0
HasLowPage o = (image : PageImage) → o ≡ Some image → image.page < 2 ^ 32

-- addresses stand at this place of an object with this map: a reference field, or an item of a tail of references
abbrev pub refers_by : Option Fields → Place → Bool
refers_by None place = false
refers_by (Some map) place = has_names map place

-- the same of the object at a word of an image
abbrev pub refers_in : List Fields → Option PageImage → ℕ → Place → Bool
refers_in catalog None at place = false
refers_in catalog (Some image) at place = refers_by (map_at catalog image.sheet at) place

-- the same of the object at an address
abbrev pub refers_held : List Fields → ℕ → Holding → ℕ → Place → Bool
refers_held catalog base h a place = refers_in catalog (image_in h (page_in base a)) (word_in base a) place

-- the value passes the test of references if the place is that of one
abbrev pub IsReferenceFor : List Fields → ℕ → (ℕ → Bool) → Holding → ℕ → Place → ℕ → Type 0
IsReferenceFor catalog base refers h a place v = refers_held catalog base h a place ≡ true → refers v ≡ true

-- the same where the references are those of a store of so many pages
abbrev pub IsSoundValue : List Fields → ℕ → ℕ → Holding → ℕ → Place → ℕ → Type 0
IsSoundValue catalog base pages h a place v = IsReferenceFor catalog base (is_memory_reference base pages) h a place v
