-- The places of an object's body, and the references in them.
use Rattle.std.specs.Prelude.{ℕ, ◌≡◌, zero, suc, ◌+◌, ◌<◌, ◌≤◌, List, [], ◌∷◌, ◌++◌, Bool, true, cond, nat_lt, Option, Some, None, slice_index}
use Rattle.std.specs.FinMap.{get}
use Rattle.pm3_core.specs.declared.naming.TheConstants.{BASE}
use Rattle.pm3_types.specs.Fields.{Fields, has_refs, is_reference}
use Rattle.pm3_types.specs.Layout.{PageImage, page_in, word_in}
use Rattle.pm3_types.specs.Numbering.{names_of}
use Rattle.pm3_types.specs.PageForm.{is_memory_reference}
use Rattle.pm3_types.specs.Shown as shown
use Rattle.pm3_page.specs.PageMap.{Images}
use Rattle.oo7_dump.specs.Held.{AreAmong}
use Rattle.oo7_dump.specs.Raw.{raw_at}

-- the fields, and behind them the references of the tail, if it has references
abbrev pub places_of : Fields → ℕ → ℕ
places_of map tail = map.count + cond (has_refs map.tail) tail 0

-- one of these places has a reference
abbrev pub is_place : Fields → ℕ → Bool
is_place map place = cond (nat_lt place map.count) (is_reference map place) true

-- the references in so many places, whose words these are
abbrev pub references_in : Fields → (ℕ → ℕ) → ℕ → List ℕ
references_in map word zero = []
references_in map word (suc place) = references_in map word place ++ cond (is_place map place) (word place ∷ []) []

-- a word of an image, or 0 where there is none
abbrev pub word_on : Option PageImage → ℕ → ℕ
word_on None i = 0
word_on (Some image) i = slice_index image.sheet.words i

-- the word in a place of the object at an address
abbrev pub place_word : Images → ℕ → ℕ → ℕ
place_word images at place = word_on (get images (page_in BASE at)) (word_in BASE at + 2 + place)

-- of the object at an address: the map of its type, and how many places its references may stand in
pub record HasPlaces (catalog : List Fields) (pages : ℕ) (images : Images) (at : ℕ) (map : Fields) (places : ℕ) : Type 0 where
  pub names : (all : shown.Images) → AreAmong images all → names_of catalog (raw_at catalog BASE all at) ≡ references_in map (place_word images at) places
  pub within : word_in BASE at + 2 + places ≤ 512
  pub refer : (place : ℕ) → place < places → is_place map place ≡ true → is_memory_reference BASE pages (place_word images at place) ≡ true
