-- What a write does to the images that are held: it changes one word of one object's body.
use Rattle.std.specs.Prelude.{ℕ, ◌≡◌, ◌≢◌, ◌+◌, ◌<◌, ◌≤◌, List, Some, true}
use Rattle.pm3_types.specs.Fields.{Fields}
use Rattle.pm3_types.specs.Layout.{PageImage, page_in, size_at, with_word_at, word_in}
use Rattle.pm3_access.specs.declared.places.Place.{Place}
use Rattle.pm3_access.specs.Access.{is_object_held, value_written}
use Rattle.pm3_access.specs.Holding.{Holding, image_in}

-- one word of the body of the object at an address is another, and all else is as it was
pub record IsBodyWrite (catalog : List Fields) (base : ℕ) (old new : Holding) (a : ℕ) : Type 0 where
  pub image : PageImage
  pub word : ℕ
  pub value : ℕ
  pub was : image_in old (page_in base a) ≡ Some image
  pub behind : word_in base a + 2 ≤ word
  pub within : word < word_in base a + size_at catalog image.sheet (word_in base a)
  pub is : image_in new (page_in base a) ≡ Some (with_word_at image word value)
  pub others : (page : ℕ) → page ≢ page_in base a → image_in new page ≡ image_in old page

-- a write changes one word of one body
abbrev pub WritesChangeOneWord : Type 0
WritesChangeOneWord = (catalog : List Fields) (base : ℕ) (h new : Holding) (a : ℕ) (place : Place) (v : ℕ)
    → is_object_held base h a ≡ true → value_written catalog base h a place v ≡ Some new → IsBodyWrite catalog base h new a
