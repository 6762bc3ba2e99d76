-- What images refer to, image by image.
use Rattle.std.specs.Prelude.{ℕ, ◌≡◌, ◌≢◌, ◌⊎◌, ◌+◌, ◌-◌, ◌<◌, ◌≤◌, true, List, Option, None, Some, slice_index}
use Rattle.std.specs.FinMap as map
use Rattle.pm3_types.specs.Fields.{Fields}
use Rattle.pm3_types.specs.Layout.{Sheet, PageImage, word_in, begins_at}
use Rattle.pm3_types.specs.PageForm.{IsReferenceIn, IsTailReference, map_at, tail_at}
use Rattle.pm3_page.specs.PageMap.{Images}

-- the first reference of an object's tail from a place on, or None where there is none
abbrev pub IsNextInTail : Fields → ℕ → ℕ → Option ℕ → Type 0
IsNextInTail map len from None = (k : ℕ) → from ≤ k → map.count ≤ k → IsTailReference map.tail len (k - map.count) → ⊥
IsNextInTail map len from (Some place) =
    (from ≤ place) × (map.count ≤ place) × IsTailReference map.tail len (place - map.count) × ((k : ℕ) → from ≤ k → map.count ≤ k → k < place → ⊥)

-- the first reference of an object from a place on, or None where there is none
abbrev pub IsNextReference : Fields → ℕ → ℕ → Option ℕ → Type 0
IsNextReference map len from None = (k : ℕ) → from ≤ k → IsReferenceIn (Some map) len k → ⊥
IsNextReference map len from (Some place) =
    (from ≤ place) × IsReferenceIn (Some map) len place × ((k : ℕ) → from ≤ k → k < place → IsReferenceIn (Some map) len k → ⊥)

-- the object at a word of a sheet has this word in a reference place
pub record RefersIn (catalog : List Fields) (sheet : Sheet) (s b : ℕ) : Type 0 where
  pub place : ℕ
  pub reference : IsReferenceIn (map_at catalog sheet s) (tail_at sheet s) place
  pub is : slice_index sheet.words (s + 2 + place) ≡ b

-- a root slot of the page of roots has this word
abbrev pub RootsOn : PageImage → ℕ → Type 0
RootsOn image b = (slot : ℕ) × (slot < 16) × (slice_index image.sheet.words (2 + slot) ≡ b)

-- an object of the image refers to it
abbrev pub ObjectsOn : List Fields → ℕ → PageImage → ℕ → Type 0
ObjectsOn catalog base image b = (a : ℕ) × (begins_at base image a ≡ true) × RefersIn catalog image.sheet (word_in base a) b

-- the image refers to it
abbrev pub RefersOn : List Fields → ℕ → PageImage → ℕ → Type 0
RefersOn catalog base image b = ((image.page ≡ 2) × RootsOn image b) ⊎ ((image.page ≢ 2) × ObjectsOn catalog base image b)

-- some image refers to it
abbrev pub RefersFrom : List Fields → ℕ → Images → ℕ → Type 0
RefersFrom catalog base images b = (page : ℕ) × (image : PageImage) × (map.get images page ≡ Some image) × RefersOn catalog base image b
