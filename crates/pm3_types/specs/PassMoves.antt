-- Where a pass moves objects to.
use Rattle.std.specs.Prelude.{ℕ, ◌≡◌, ◌+◌, ◌<◌, ◌==◌, false, cond, nat_le, List, [], ◌∷◌, ◌++◌, length, map, take, drop, Option, Some, None, slice_index}
use Rattle.std.specs.List.{Contains}
use Rattle.std.specs.FinMap.{get}
use Rattle.pm3_types.specs.Fields.{Fields}
use Rattle.pm3_types.specs.Layout.{Sheet, address, page_in, word_in, size_at}
use Rattle.pm3_types.specs.PassSets.{Before, is_pinned, Promoted, Kept}
use Rattle.pm3_types.specs.Shown.{Images}

-- the numbers rise
abbrev pub IsRising : List ℕ → Type 0
IsRising list = (i j : ℕ) → i < j → j < length list → slice_index list i < slice_index list j

-- the members of a set, each once, in rising order
pub record IsListOf (InSet : ℕ → Type 0) (list : List ℕ) : Type 0 where
  pub rising : IsRising list
  pub only : (a : ℕ) → Contains list a → InSet a
  pub all : (a : ℕ) → InSet a → Contains list a

-- the members of a set of objects that lie on no pinned page, in order of page and offset
abbrev pub AreMovers : ℕ → Before → (ℕ → Type 0) → List ℕ → Type 0
AreMovers base before InSet list = IsListOf (λ a. InSet a × (is_pinned base before a ≡ false)) list

-- the words of the objects at these addresses
abbrev pub size_on : List Fields → Option Sheet → ℕ → ℕ
size_on catalog None s = 0
size_on catalog (Some sheet) s = size_at catalog sheet s

abbrev pub size_from : List Fields → ℕ → Images → ℕ → ℕ
size_from catalog base images a = size_on catalog (get images (page_in base a)) (word_in base a)

abbrev pub sizes : List Fields → ℕ → Images → List ℕ → List ℕ
sizes catalog base images list = map (size_from catalog base images) list

-- where objects of these sizes go: behind the end of the page that is being filled where they fit, or else to the next page
abbrev pub settle : ℕ → List ℕ → ℕ → ℕ → List ℕ → List ℕ
settle base [] page end pages = []
settle base (s ∷ ss) page end [] = cond (nat_le (end + s) 512) (address base page end ∷ settle base ss page (end + s) []) []
settle base (s ∷ ss) page end (p ∷ ps) =
    cond (nat_le (end + s) 512) (address base page end ∷ settle base ss page (end + s) (p ∷ ps)) (address base p 2 ∷ settle base ss p (2 + s) ps)

-- the same on these pages alone: the page before the first is full
abbrev pub settled : ℕ → List ℕ → List ℕ → List ℕ
settled base sizes pages = settle base sizes 0 512 pages

-- how many pages objects of these sizes take behind the end of one, and from the first page on
abbrev pub pages_behind : List ℕ → ℕ → ℕ
pages_behind [] end = 0
pages_behind (s ∷ ss) end = cond (nat_le (end + s) 512) (pages_behind ss (end + s)) (1 + pages_behind ss (2 + s))

abbrev pub pages_wanted : List ℕ → ℕ
pages_wanted sizes = pages_behind sizes 512

-- an old address and a new one
pub record Move : Type 0 where
  pub from : ℕ
  pub to : ℕ

abbrev pub paired : List ℕ → List ℕ → List Move
paired [] news = []
paired (old ∷ olds) [] = []
paired (old ∷ olds) (new ∷ news) = record { from = old; to = new } ∷ paired olds news

-- the new address of what is at this one
abbrev pub moved_by : List Move → ℕ → ℕ
moved_by [] a = a
moved_by (m ∷ ms) a = cond (m.from == a) m.to (moved_by ms a)

module _ (catalog : List Fields) (base : ℕ) (space : Images) where
  -- the moves of these objects on these pages
  abbrev pub moves_of : List ℕ → List ℕ → List Move
  moves_of olds pages = paired olds (settled base (sizes catalog base space olds) pages)

  -- how many pages these objects want
  abbrev pub wanted_by : List ℕ → ℕ
  wanted_by olds = pages_wanted (sizes catalog base space olds)

-- the moves of a pass: each object that is promoted or kept and lies on no pinned page, in order, first the promoted ones, on
-- the least of the fresh pages, and then those that stay in the space, on the others
pub record AreMoves (catalog : List Fields) (base : ℕ) (before : Before) (fresh : List ℕ) (moves : List Move) : Type 0 where
  pub promoted : List ℕ
  pub kept : List ℕ
  pub of_promoted : AreMovers base before (Promoted catalog base before) promoted
  pub of_kept : AreMovers base before (Kept catalog base before) kept
  pub are : moves
      ≡ moves_of catalog base before.space promoted (take (wanted_by catalog base before.space promoted) fresh)
      ++ moves_of catalog base before.space kept (drop (wanted_by catalog base before.space promoted) fresh)
