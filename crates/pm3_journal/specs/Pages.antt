-- What clauses see of the pages of an entry.
use Rattle.std.specs.Prelude.{ℕ, ◌<◌, List, [], ◌∷◌, Option, Some, None, ◌==◌, if◌then◌else◌, length, get_or}

-- page numbers with the 4096 bytes of each, and how many further pages there is room for
pub record PageList : Type 0 where
  pub items : List (ℕ × List ℕ)
  pub room : ℕ

-- the number of the page at an index
abbrev pub page_at : List (ℕ × List ℕ) → ℕ → ℕ
page_at items i = (get_or items i (0, [])).0

-- each number is above those before it
abbrev pub IsRising : List (ℕ × List ℕ) → Type 0
IsRising items = (i j : ℕ) → i < j → j < length items → page_at items i < page_at items j

-- each number is below this one
abbrev pub AreBelow : ℕ → List (ℕ × List ℕ) → Type 0
AreBelow page items = (i : ℕ) → i < length items → page_at items i < page

-- the image of a page
abbrev pub image_of : ℕ → List (ℕ × List ℕ) → Option (List ℕ)
image_of page [] = None
image_of page (item ∷ items) = if item.0 == page then Some item.1 else image_of page items
