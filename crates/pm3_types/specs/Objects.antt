-- The objects of images, and what they refer to.
use Rattle.std.specs.Prelude.{ℕ, ◌≡◌, ◌+◌, ◌<◌, ◌&&◌, Bool, true, false, List, Option, Some, None, slice_index}
use Rattle.std.specs.FinMap.{get}
use Rattle.pm3_types.specs.Fields.{Fields}
use Rattle.pm3_types.specs.Layout.{Sheet, is_unmoved, page_in, word_in, is_address}
use Rattle.pm3_types.specs.PageForm.{IsReferenceIn, map_at, tail_at}
use Rattle.pm3_types.specs.Shown.{Images}

-- an object begins at a word of the page, if the page is there, and was not forwarded
abbrev pub is_unmoved_on : Option Sheet → ℕ → Bool
is_unmoved_on None at = false
is_unmoved_on (Some sheet) at = is_unmoved sheet at

-- an object of the images begins at the address, and was not forwarded
abbrev pub is_object_at : ℕ → Images → ℕ → Bool
is_object_at base images a = is_address base a && is_unmoved_on (get images (page_in base a)) (word_in base a)

-- the object at an address, on its page, has this word in a reference place
pub record RefersTo (catalog : List Fields) (base : ℕ) (images : Images) (a b : ℕ) : Type 0 where
  pub sheet : Sheet
  pub place : ℕ
  pub on : get images (page_in base a) ≡ Some sheet
  pub reference : IsReferenceIn (map_at catalog sheet (word_in base a)) (tail_at sheet (word_in base a)) place
  pub is : slice_index sheet.words (word_in base a + 2 + place) ≡ b

-- a root slot of page 2 has this word
pub record RootIs (images : Images) (b : ℕ) : Type 0 where
  pub sheet : Sheet
  pub slot : ℕ
  pub on : get images 2 ≡ Some sheet
  pub low : slot < 16
  pub is : slice_index sheet.words (2 + slot) ≡ b

-- an object to which the root slots lead, from one object to the next
pub data IsReachedAt (catalog : List Fields) (base : ℕ) (images : Images) : ℕ → Type 0 where
  root : (a : ℕ) → RootIs images a → is_object_at base images a ≡ true → IsReachedAt catalog base images a
  next : (a b : ℕ) → IsReachedAt catalog base images a → RefersTo catalog base images a b → is_object_at base images b ≡ true → IsReachedAt catalog base images b
