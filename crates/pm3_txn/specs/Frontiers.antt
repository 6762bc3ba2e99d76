-- The least number above all pages that images have or name.
use Rattle.std.specs.Prelude.{ℕ, ◌≡◌, ◌⊎◌, ◌+◌, ◌<◌, ◌≤◌, true, List, Option, Some, slice_index}
use Rattle.std.specs.FinMap.{get}
use Rattle.pm3_core.specs.Naming.{page_in}
use Rattle.pm3_types.specs.Fields.{Fields}
use Rattle.pm3_types.specs.Layout.{Sheet, PageImage, is_start}
use Rattle.pm3_types.specs.PageForm.{IsReferenceIn, map_at, tail_at}
use Rattle.pm3_page.specs.PageMap.{Images}

-- the greatest of a first number and one above each number that is named
pub record IsTop (named : ℕ → Type 0) (least top : ℕ) : Type 0 where
  pub most : least ≤ top
  pub above : (p : ℕ) → named p → p < top
  pub met : (top ≡ least) ⊎ ((p : ℕ) × named p × (top ≡ p + 1))

-- one of the first n names it
abbrev pub Below : (ℕ → ℕ → Type 0) → ℕ → ℕ → Type 0
Below named n p = (k : ℕ) × (k < n) × named k p

-- the word at a place of an object's body is a reference to the page
abbrev pub IsPlaceNamed : Option Fields → ℕ → Sheet → ℕ → ℕ → ℕ → Type 0
IsPlaceNamed map len sheet s k p = IsReferenceIn map len k × (page_in (slice_index sheet.words (s + 2 + k)) ≡ p)

-- so is one in the object that begins at a word
abbrev pub IsObjectNamed : List Fields → Sheet → ℕ → ℕ → Type 0
IsObjectNamed catalog sheet s p = (is_start sheet s ≡ true) × ((k : ℕ) × IsPlaceNamed (map_at catalog sheet s) (tail_at sheet s) sheet s k p)

-- the root in a slot refers to the page
abbrev pub IsSlotNamed : Sheet → ℕ → ℕ → Type 0
IsSlotNamed sheet slot p = page_in (slice_index sheet.words (2 + slot)) ≡ p

abbrev pub IsRootNamed : PageImage → ℕ → Type 0
IsRootNamed image p = (image.page ≡ 2) × Below (IsSlotNamed image.sheet) 16 p

-- the image is of the page or refers to it
abbrev pub IsNamedOn : List Fields → PageImage → ℕ → Type 0
IsNamedOn catalog image p = (image.page ≡ p) ⊎ (IsRootNamed image p ⊎ Below (IsObjectNamed catalog image.sheet) 512 p)

-- there is such an image under a number
abbrev pub IsNamedUnder : List Fields → Images → ℕ → ℕ → Type 0
IsNamedUnder catalog images q p = (image : PageImage) × (get images q ≡ Some image) × IsNamedOn catalog image p
