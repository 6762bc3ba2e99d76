-- The root slots of page 2, where it is held alone, read and written as operations on the part of a graph that is left.
use Rattle.std.specs.Prelude.{ℕ, ◌≡◌, ◌+◌, ◌<◌, Bool, List, Option, Some, slice_index}
use Rattle.std.specs.Option.{option_map}
use Rattle.std.specs.FinMap as map
use Rattle.pm3_types.specs.Fields.{Fields}
use Rattle.pm3_types.specs.Layout.{with_word_at}
use Rattle.pm3_types.specs.Shown.{Book, FitsImages, IsKnown, name_by}
use Rattle.pm3_graph.specs.Operation.{IsStep}
use Rattle.pm3_graph.specs.declared.operations.Op.TheVariants as ops
use Rattle.pm3_access.specs.Access.{HaveForm}
use Rattle.pm3_access.specs.Acts.{AreInPlace, left_images, left_part}
use Rattle.pm3_access.specs.Holding.{Holding, HeldImages, with_image}

-- the address in a root slot, or nothing where page 2 is not held alone
abbrev pub root_held : Holding → ℕ → Option ℕ
root_held h slot = option_map (λ image. slice_index image.sheet.words (2 + slot)) (map.get h.pages.left 2)

-- the images with this address in the slot, or nothing where page 2 is not among them
abbrev pub images_rooted : HeldImages → ℕ → ℕ → Option HeldImages
images_rooted h slot a = option_map (λ image. with_image h 2 (with_word_at image (2 + slot) a)) (map.get h.left 2)

-- what is held after the address was written to the slot
abbrev pub root_written : Holding → ℕ → ℕ → Option Holding
root_written h slot a = option_map (λ pages. record h { pages = pages }) (images_rooted h.pages slot a)

-- under every book, a read that gave a is the read of that slot, which answers the name of a; a book that fits has a
abbrev pub IsRootRead : List Fields → ℕ → Holding → ℕ → ℕ → Type 0
IsRootRead catalog base h slot a = (book : Book)
    → IsStep catalog (ops.Root slot) (left_part catalog base book h) (name_by book a) (left_part catalog base book h)
    × (FitsImages catalog base book (left_images h) → IsKnown book a)

-- under every book, where what is held has the form of pages, a write of a is the write of its name to that slot; a book that fitted
-- and has a still fits
abbrev pub IsRootWrite : List Fields → ℕ → Holding → ℕ → ℕ → Holding → Type 0
IsRootWrite catalog base h slot a new = (book : Book) (refers : ℕ → Bool) → HaveForm catalog refers h
    → IsStep catalog (ops.SetRoot slot (name_by book a)) (left_part catalog base book h) 0 (left_part catalog base book new)
    × (FitsImages catalog base book (left_images h) → IsKnown book a → FitsImages catalog base book (left_images new))

-- what is read in a root slot is read in the graph
abbrev pub RootReadsAreSteps : Type 0
RootReadsAreSteps = (catalog : List Fields) (base : ℕ) (h : Holding) (slot a : ℕ) → slot < 16
    → root_held h slot ≡ Some a → IsRootRead catalog base h slot a

-- and what is written there is written there
abbrev pub RootWritesAreSteps : Type 0
RootWritesAreSteps = (catalog : List Fields) (base : ℕ) (h new : Holding) (slot a : ℕ) → slot < 16 → AreInPlace h
    → root_written h slot a ≡ Some new → IsRootWrite catalog base h slot a new

-- what is held stays in place
abbrev pub RootsStayInPlace : Type 0
RootsStayInPlace = (h new : Holding) (slot a : ℕ) → AreInPlace h → root_written h slot a ≡ Some new → AreInPlace new
