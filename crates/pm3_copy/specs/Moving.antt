-- Objects that have been copied to other pages.
use Rattle.std.specs.Prelude.{ℕ, ◌≡◌, ◌≢◌, ◌⊎◌, ◌+◌, ◌<◌, ◌≤◌, true, List, length, Some, slice_index}
use Rattle.std.specs.List.{Contains}
use Rattle.std.specs.FinMap as map
use Rattle.pm3_types.specs.Fields.{Fields}
use Rattle.pm3_types.specs.Layout.{Sheet, PageImage, address, is_address, begins_at, is_start, page_in, word_in, size_at}
use Rattle.pm3_types.specs.PageForm.{is_memory_reference}
use Rattle.pm3_types.specs.PassMoves.{sizes, settled}
use Rattle.pm3_page.specs.PageMap.{Images}
use Rattle.pm3_page.specs.PageSheets.{sheets_of}
use Rattle.pm3_copy.specs.Copies.{IsCopied}

-- at word t of a sheet stand the words of the object at word s of another
pub record IsSameObject (catalog : List Fields) (sheet : Sheet) (s : ℕ) (now : Sheet) (t : ℕ) : Type 0 where
  pub start : is_start now t ≡ true
  pub words : (k : ℕ) → k < size_at catalog sheet s → slice_index now.words (t + k) ≡ slice_index sheet.words (s + k)

-- the object at an address of some images stands at an address of others too
pub record IsCopyAt (catalog : List Fields) (base : ℕ) (images copies : Images) (a b : ℕ) : Type 0 where
  pub source : PageImage
  pub copy : PageImage
  pub on : map.get images (page_in base a) ≡ Some source
  pub begins : begins_at base source a ≡ true
  pub now : map.get copies (page_in base b) ≡ Some copy
  pub same : IsSameObject catalog source.sheet (word_in base a) copy.sheet (word_in base b)

-- the object at an address is copied behind the last object of a page, and all other images are as they were
pub record PutsCopy (catalog : List Fields) (base : ℕ) (images : Images) (a page : ℕ) (old new : Images) : Type 0 where
  pub source : PageImage
  pub target : PageImage
  pub now : PageImage
  pub on : map.get images (page_in base a) ≡ Some source
  pub begins : begins_at base source a ≡ true
  pub was : map.get old page ≡ Some target
  pub is : map.get new page ≡ Some now
  pub copied : IsCopied source.sheet (word_in base a) (size_at catalog source.sheet (word_in base a)) target now
  pub others : (p : ℕ) → p ≢ page → map.get new p ≡ map.get old p

-- an object begins at a word of a page
pub record BeginsOn (images : Images) (page word : ℕ) : Type 0 where
  pub image : PageImage
  pub on : map.get images page ≡ Some image
  pub start : is_start image.sheet word ≡ true

-- the first of the objects have been copied to these addresses, on pages that were there, and no other object has come there
pub record AreCopied (catalog : List Fields) (base : ℕ) (space : Images) (olds news : List ℕ) (old new : Images) : Type 0 where
  pub each : (i : ℕ) → i < length news → IsCopyAt catalog base space new (slice_index olds i) (slice_index news i)
  pub references : (i : ℕ) → i < length news → (is_memory_reference base 16384 (slice_index news i) ≡ true) × (is_address base (slice_index news i) ≡ true)
  pub only : (p w : ℕ) → BeginsOn new p w → BeginsOn old p w ⊎ Contains news (address base p w)
  pub pages : (p : ℕ) → map.contains_key new p ≡ map.contains_key old p

-- they fill these pages, up to the last
pub record AreSettled (catalog : List Fields) (base : ℕ) (space : Images) (olds news pages : List ℕ) (last : ℕ) : Type 0 where
  pub are : news ≡ settled base (sizes catalog base (sheets_of space) olds) pages
  pub up_to : (i : ℕ) → i < length news → page_in base (slice_index news i) ≤ last

-- the objects of two lists have been copied to their new addresses, all others stay, and no other object has come to the pages
pub record AreMoved (catalog : List Fields) (base : ℕ) (space : Images) (promoted kept : List ℕ) (to : ℕ → ℕ) (old new : Images) : Type 0 where
  pub moved : (a : ℕ) → Contains promoted a ⊎ Contains kept a
      → IsCopyAt catalog base space new a (to a) × (is_memory_reference base 16384 (to a) ≡ true) × (is_address base (to a) ≡ true)
  pub others : (a : ℕ) → (Contains promoted a → ⊥) → (Contains kept a → ⊥) → to a ≡ a
  pub only : (p w : ℕ) → BeginsOn new p w → BeginsOn old p w ⊎ ((a : ℕ) × (Contains promoted a ⊎ Contains kept a) × (to a ≡ address base p w))
  pub pages : (p : ℕ) → map.contains_key new p ≡ map.contains_key old p
