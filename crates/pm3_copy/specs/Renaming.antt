-- New words in some places of a page.
use Rattle.std.specs.Prelude.{ℕ, ◌≡◌, ◌≢◌, ◌+◌, ◌<◌, true, List, Option, None, Some, length, slice_index}
use Rattle.std.specs.FinMap as map
use Rattle.pm3_types.specs.Fields.{Fields}
use Rattle.pm3_types.specs.Layout.{Sheet, PageImage, is_start}
use Rattle.pm3_page.specs.PageMap.{Images}
use Rattle.pm3_types.specs.PageForm.{IsReferenceIn, is_memory_reference, map_at, tail_at}

-- the words in these places are renamed, and nothing else has changed
pub record IsRenamed (Places : ℕ → Type 0) (to : ℕ → ℕ) (sheet now : Sheet) : Type 0 where
  pub starts : now.starts ≡ sheet.starts
  pub words : length now.words ≡ length sheet.words
  pub places : (i : ℕ) → Places i → slice_index now.words i ≡ to (slice_index sheet.words i)
  pub others : (i : ℕ) → (Places i → ⊥) → slice_index now.words i ≡ slice_index sheet.words i

-- one of the first n words of a body at word s is a reference, and this is it
pub record IsPlaceBelow (o : Option Fields) (len s n i : ℕ) : Type 0 where
  pub place : ℕ
  pub low : place < n
  pub reference : IsReferenceIn o len place
  pub is : i ≡ s + 2 + place

-- a reference of the object at a word of the page
pub record IsPlaceOf (catalog : List Fields) (sheet : Sheet) (s i : ℕ) : Type 0 where
  pub place : ℕ
  pub reference : IsReferenceIn (map_at catalog sheet s) (tail_at sheet s) place
  pub is : i ≡ s + 2 + place

-- a reference of some object of the page
pub record IsPlaceIn (catalog : List Fields) (sheet : Sheet) (i : ℕ) : Type 0 where
  pub from : ℕ
  pub start : is_start sheet from ≡ true
  pub at : IsPlaceOf catalog sheet from i

-- a root slot
abbrev pub IsRootPlace : ℕ → Type 0
IsRootPlace i = (slot : ℕ) × (slot < 16) × (i ≡ 2 + slot)

-- the references of an image are renamed: those in the root slots of page 2, and those of the objects of any other
pub record IsUpdated (catalog : List Fields) (to : ℕ → ℕ) (old new : PageImage) : Type 0 where
  pub roots : old.page ≡ 2 → IsRenamed IsRootPlace to old.sheet new.sheet
  pub objects : old.page ≢ 2 → IsRenamed (IsPlaceIn catalog old.sheet) to old.sheet new.sheet

-- references are renamed to references
abbrev pub KeepsReferences : ℕ → (ℕ → ℕ) → Type 0
KeepsReferences base to = (w : ℕ) → is_memory_reference base 16384 w ≡ true → is_memory_reference base 16384 (to w) ≡ true

-- the image of one page is updated, and all others are as they were
pub record UpdatesPage (catalog : List Fields) (to : ℕ → ℕ) (page : ℕ) (old new : Images) : Type 0 where
  pub here : (image : PageImage) → map.get old page ≡ Some image
      → (now : PageImage) × (map.get new page ≡ Some now) × (now.page ≡ image.page) × IsUpdated catalog to image now
  pub others : (p : ℕ) → p ≢ page → map.get new p ≡ map.get old p

-- each image is updated, and there are no others
pub record AreUpdated (catalog : List Fields) (to : ℕ → ℕ) (old new : Images) : Type 0 where
  pub each : (p : ℕ) (image : PageImage) → map.get old p ≡ Some image
      → (now : PageImage) × (map.get new p ≡ Some now) × (now.page ≡ image.page) × IsUpdated catalog to image now
  pub none : (p : ℕ) → map.get old p ≡ None → map.get new p ≡ None
