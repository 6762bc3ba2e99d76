-- Reads and writes of what is held.
use Rattle.std.specs.Prelude.{ℕ, ◌≡◌, Bool, false, cond, List, Option, None, Some}
use Rattle.std.specs.Option.{option_map}
use Rattle.std.specs.FinMap as map
use Rattle.pm3_types.specs.Fields.{Fields}
use Rattle.pm3_types.specs.Layout.{PageImage, begins_at, page_in, word_in}
use Rattle.pm3_types.specs.PageForm.{HasForm, is_memory_reference}
use Rattle.pm3_access.specs.declared.places.Place.{Place}
use Rattle.pm3_access.specs.Holding.{Holding, HeldImages, HeldSpaceState, image_in, with_image, space_with}
use Rattle.pm3_access.specs.Spots.{value_at_place, with_value_at_place}

-- an object begins at the address in the image of its page
abbrev pub begins_in : ℕ → Option PageImage → ℕ → Bool
begins_in base None a = false
begins_in base (Some image) a = begins_at base image a

abbrev pub is_object_held : ℕ → Holding → ℕ → Bool
is_object_held base h a = begins_in base (image_in h (page_in base a)) a

-- an image has the form of pages under the catalog, with this test of references
abbrev pub ImageHasForm : List Fields → (ℕ → Bool) → PageImage → Type 0
ImageHasForm catalog refers image = HasForm catalog refers image.page image.sheet

-- each image that is held has it
abbrev pub HaveForm : List Fields → (ℕ → Bool) → Holding → Type 0
HaveForm catalog refers h = (page : ℕ) (image : PageImage) → image_in h page ≡ Some image → ImageHasForm catalog refers image

-- the same where the references are those of a store of so many pages
abbrev pub AreSound : List Fields → ℕ → ℕ → Holding → Type 0
AreSound catalog base pages h = HaveForm catalog (is_memory_reference base pages) h

-- the value at a place of the object at a word, or nothing where there is no such place
abbrev pub value_by : List Fields → Option PageImage → ℕ → Place → Option ℕ
value_by catalog None at place = None
value_by catalog (Some image) at place = value_at_place catalog image at place

abbrev pub value_held : List Fields → ℕ → Holding → ℕ → Place → Option ℕ
value_held catalog base h a place = value_by catalog (image_in h (page_in base a)) (word_in base a) place

-- the image with that value there, or nothing where there is no such place
abbrev pub written_by : List Fields → Option PageImage → ℕ → Place → ℕ → Option PageImage
written_by catalog None at place v = None
written_by catalog (Some image) at place v = with_value_at_place catalog image at place v

-- the same among images of which only that one changes
abbrev pub images_written : List Fields → ℕ → HeldImages → ℕ → ℕ → Place → ℕ → Option HeldImages
images_written catalog base h page a place v = option_map (with_image h page) (written_by catalog (map.get h.left page) (word_in base a) place v)

-- the same in the held space
abbrev pub space_written : List Fields → ℕ → HeldSpaceState → ℕ → ℕ → Place → ℕ → Option HeldSpaceState
space_written catalog base s page a place v = option_map (space_with s page) (written_by catalog (map.get s.images.left page) (word_in base a) place v)

abbrev pub written_in_space : List Fields → ℕ → HeldImages → Option HeldSpaceState → ℕ → ℕ → Place → ℕ → Option Holding
written_in_space catalog base pages None page a place v = None
written_in_space catalog base pages (Some s) page a place v = option_map (λ t. record { pages = pages; space = Some t }) (space_written catalog base s page a place v)

abbrev pub written_alone : List Fields → ℕ → Holding → ℕ → ℕ → Place → ℕ → Option Holding
written_alone catalog base h page a place v = option_map (λ pages. record { pages = pages; space = h.space }) (images_written catalog base h.pages page a place v)

-- what is held after a value was written to the place: a page that is held alone, or one of the space, has another image
abbrev pub value_written : List Fields → ℕ → Holding → ℕ → Place → ℕ → Option Holding
value_written catalog base h a place v = cond (map.contains_key h.pages.left (page_in base a))
    (written_alone catalog base h (page_in base a) a place v)
    (written_in_space catalog base h.pages h.space (page_in base a) a place v)
