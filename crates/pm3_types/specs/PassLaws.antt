-- What a pass leaves of what images show: the statements of its laws.
use Rattle.std.specs.Prelude.{ℕ, ◌≡◌, ◌⊎◌, List, Some, None}
use Rattle.std.specs.FinMap.{get}
use Rattle.std.specs.List.{Contains}
use Rattle.pm3_types.specs.Fields.{Fields}
use Rattle.pm3_types.specs.Layout.{page_in}
use Rattle.pm3_types.specs.PassMoves.{AreMovers}
use Rattle.pm3_types.specs.PassSets.{Before, IsDead, Promoted, Kept}
use Rattle.pm3_types.specs.PassShown.{AreAddresses, AreCarried, AreJoined, IsBookAfter}
use Rattle.pm3_types.specs.Record.{Record}
use Rattle.pm3_types.specs.Shown.{Book, Images, FitsImages, shown, shown_records}

-- A pass over all images of a space and of written pages: it gives each object that is not dead a new address or leaves it where
-- it is, and all references follow. The new book is any that has the new addresses of what is not dead, and no address of the old
-- one is on a page that is new.
pub record IsPass (catalog : List Fields) (base : ℕ) (before : Before) (to : ℕ → ℕ) (all now : Images) (book new : Book) : Type 0 where
  pub joined : AreJoined before.space before.written all
  pub no_roots : get before.space 2 ≡ None
  pub addresses : AreAddresses base to all
  pub carried : AreCarried catalog base to (IsDead catalog base before) all now
  pub after : IsBookAfter to (IsDead catalog base before) book new
  pub fits : FitsImages catalog base book all
  pub fresh : (a n : ℕ) → get book a ≡ Some n → get all (page_in base a) ≡ None → get now (page_in base a) ≡ None

-- the new book fits the images afterwards
abbrev pub FitsAfter : Type 0
FitsAfter =
    (catalog : List Fields) (base : ℕ) (before : Before) (to : ℕ → ℕ) (all now : Images) (book new : Book)
    → IsPass catalog base before to all now book new
    → FitsImages catalog base new now

-- what is not dead is shown as it was
abbrev pub ShowsTheLiving : Type 0
ShowsTheLiving =
    (catalog : List Fields) (base : ℕ) (before : Before) (to : ℕ → ℕ) (all now : Images) (book new : Book)
    → IsPass catalog base before to all now book new
    → (a n : ℕ) → get book a ≡ Some n → (IsDead catalog base before a → ⊥)
    → get (shown_records catalog base new now) n ≡ get (shown_records catalog base book all) n

-- what is dead is not shown
abbrev pub ShowsNoDead : Type 0
ShowsNoDead =
    (catalog : List Fields) (base : ℕ) (before : Before) (to : ℕ → ℕ) (all now : Images) (book new : Book)
    → IsPass catalog base before to all now book new
    → (a n : ℕ) → get book a ≡ Some n → IsDead catalog base before a
    → get (shown_records catalog base new now) n ≡ None

-- nothing is shown that was not
abbrev pub ShowsNothingNew : Type 0
ShowsNothingNew =
    (catalog : List Fields) (base : ℕ) (before : Before) (to : ℕ → ℕ) (all now : Images) (book new : Book)
    → IsPass catalog base before to all now book new
    → (n : ℕ) (r : Record) → get (shown_records catalog base new now) n ≡ Some r
    → get (shown_records catalog base book all) n ≡ Some r

-- the roots stand for the same names
abbrev pub KeepsRoots : Type 0
KeepsRoots =
    (catalog : List Fields) (base : ℕ) (before : Before) (to : ℕ → ℕ) (all now : Images) (book new : Book)
    → IsPass catalog base before to all now book new
    → (shown catalog base new now).roots ≡ (shown catalog base book all).roots

-- an address from which nothing moves stays in the book, if nothing on its page is dead
abbrev pub KeepsStandingPages : Type 0
KeepsStandingPages =
    (catalog : List Fields) (base : ℕ) (before : Before) (to : ℕ → ℕ) (book new : Book) (a n : ℕ)
    → IsBookAfter to (IsDead catalog base before) book new → get book a ≡ Some n → to a ≡ a
    → ((b : ℕ) → page_in base b ≡ page_in base a → IsDead catalog base before b → ⊥)
    → get new a ≡ Some n

-- a pass moves nothing that is on no page of its space
abbrev pub MovesWithinTheSpace : Type 0
MovesWithinTheSpace =
    (catalog : List Fields) (base : ℕ) (before : Before) (olds : List ℕ) (a : ℕ)
    → AreMovers base before (Promoted catalog base before) olds ⊎ AreMovers base before (Kept catalog base before) olds
    → get before.space (page_in base a) ≡ None → Contains olds a → ⊥
