-- What holds of every pass that was carried out.
use Rattle.std.specs.Prelude.{ℕ, ◌≡◌, ◌⊎◌, true, List, Some, None}
use Rattle.std.specs.FinMap.{get}
use Rattle.std.specs.FinSet as set
use Rattle.std.specs.List.{Contains}
use Rattle.pm3_types.specs.Fields.{Fields}
use Rattle.pm3_types.specs.Layout.{page_in}
use Rattle.pm3_types.specs.PassMoves.{Move, AreMoves, moved_by}
use Rattle.pm3_types.specs.PassSets.{Before, IsDead, Promoted}
use Rattle.pm3_types.specs.PassShown.{AreJoined, IsBookAfter}
use Rattle.pm3_types.specs.Record.{Record}
use Rattle.pm3_types.specs.Shown.{Book, Images, FitsImages, shown, shown_records}
use Rattle.pm3_copy.specs.CarriedOut.{IsCarriedOut}
use Rattle.pm3_copy.specs.Planning.{PlanState, IsPlan}

-- a pass was carried out over images that a book fits, and the new book has what is not dead at its new address; no address of the
-- old book was on a fresh page
pub record IsPass (catalog : List Fields) (base : ℕ) (before : Before) (fresh : List ℕ) (all now space written : Images) (book new : Book) : Type 0 where
  pub done : IsCarriedOut catalog base before fresh all now space written
  pub joined : AreJoined before.space before.written all
  pub no_roots : get before.space 2 ≡ None
  pub fits : FitsImages catalog base book all
  pub after : IsBookAfter (moved_by done.moves) (IsDead catalog base before) book new
  pub apart : (a n : ℕ) → get book a ≡ Some n → get all (page_in base a) ≡ None → get now (page_in base a) ≡ None

-- the new book fits the images that the pass leaves
abbrev pub FitsAfter : Type 0
FitsAfter = (catalog : List Fields) (base : ℕ) (before : Before) (fresh : List ℕ) (all now space written : Images) (book new : Book)
    → IsPass catalog base before fresh all now space written book new → FitsImages catalog base new now

-- what is not dead is shown as it was
abbrev pub ShowsTheLiving : Type 0
ShowsTheLiving = (catalog : List Fields) (base : ℕ) (before : Before) (fresh : List ℕ) (all now space written : Images) (book new : Book)
    → IsPass catalog base before fresh all now space written book new → (a n : ℕ) → get book a ≡ Some n → (IsDead catalog base before a → ⊥)
    → get (shown_records catalog base new now) n ≡ get (shown_records catalog base book all) n

-- what is dead is not shown
abbrev pub ShowsNoDead : Type 0
ShowsNoDead = (catalog : List Fields) (base : ℕ) (before : Before) (fresh : List ℕ) (all now space written : Images) (book new : Book)
    → IsPass catalog base before fresh all now space written book new → (a n : ℕ) → get book a ≡ Some n → IsDead catalog base before a
    → get (shown_records catalog base new now) n ≡ None

-- nothing else is shown
abbrev pub ShowsNothingNew : Type 0
ShowsNothingNew = (catalog : List Fields) (base : ℕ) (before : Before) (fresh : List ℕ) (all now space written : Images) (book new : Book)
    → IsPass catalog base before fresh all now space written book new → (n : ℕ) (r : Record) → get (shown_records catalog base new now) n ≡ Some r
    → get (shown_records catalog base book all) n ≡ Some r

-- the roots stand for the names for which they stood
abbrev pub KeepsRoots : Type 0
KeepsRoots = (catalog : List Fields) (base : ℕ) (before : Before) (fresh : List ℕ) (all now space written : Images) (book new : Book)
    → IsPass catalog base before fresh all now space written book new → (shown catalog base new now).roots ≡ (shown catalog base book all).roots

-- nothing moved from a page, and nothing died on it
abbrev pub IsQuiet : List Fields → ℕ → Before → List Move → ℕ → Type 0
IsQuiet catalog base before moves p = (a : ℕ) → page_in base a ≡ p → (moved_by moves a ≡ a) × (IsDead catalog base before a → ⊥)

-- the new book keeps what the old one has on a quiet page
abbrev pub KeepsQuietPages : Type 0
KeepsQuietPages = (catalog : List Fields) (base : ℕ) (before : Before) (fresh : List ℕ) (all now space written : Images) (book new : Book)
    → (pass : IsPass catalog base before fresh all now space written book new) → (a n : ℕ) → get book a ≡ Some n
    → IsQuiet catalog base before pass.done.moves (page_in base a) → get new a ≡ Some n

-- pinned pages are quiet, and so are those that are none of the space
abbrev pub PinnedIsQuiet : Type 0
PinnedIsQuiet = (catalog : List Fields) (base : ℕ) (before : Before) (fresh : List ℕ) (moves : List Move) → AreMoves catalog base before fresh moves
    → (p : ℕ) → set.contains before.pinned p ≡ true → IsQuiet catalog base before moves p

abbrev pub OthersAreQuiet : Type 0
OthersAreQuiet = (catalog : List Fields) (base : ℕ) (before : Before) (fresh : List ℕ) (moves : List Move) → AreMoves catalog base before fresh moves
    → (p : ℕ) → get before.space p ≡ None → IsQuiet catalog base before moves p

-- what a pass promoted, a later one over the space that it left neither moves nor lets die, whatever it pins and whatever is written
abbrev pub PromotedStays : Type 0
PromotedStays = (catalog : List Fields) (base : ℕ) (before : Before) (fresh : List ℕ) (all now space written : Images)
    → (done : IsCarriedOut catalog base before fresh all now space written) → AreJoined space written now
    → (later : Before) (more : List ℕ) (moves : List Move) → later.space ≡ space → AreMoves catalog base later more moves
    → (a : ℕ) → Promoted catalog base before a
    → (moved_by moves (moved_by done.moves a) ≡ moved_by done.moves a) × (IsDead catalog base later (moved_by done.moves a) → ⊥)

-- no plan of such a pass names it
abbrev pub PlansPassItBy : Type 0
PlansPassItBy = (catalog : List Fields) (base : ℕ) (before : Before) (fresh : List ℕ) (all now space written : Images)
    → (done : IsCarriedOut catalog base before fresh all now space written) → AreJoined space written now
    → (later : Before) (plan : PlanState) → later.space ≡ space → IsPlan catalog base later plan
    → (a : ℕ) → Promoted catalog base before a → Contains plan.promoted (moved_by done.moves a) ⊎ Contains plan.kept (moved_by done.moves a) → ⊥
