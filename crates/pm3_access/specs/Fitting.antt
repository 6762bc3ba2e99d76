-- Books that fit what is held are had from nothing on, so that the premises of the other laws are met.
use Rattle.std.specs.Prelude.{ℕ, ◌≡◌, ◌≢◌, ◌^◌, ◌<◌, List, Some, slice_get}
use Rattle.std.specs.FinMap.{insert, empty}
use Rattle.pm3_types.specs.Fields.{Fields}
use Rattle.pm3_types.specs.Shown.{Book}
use Rattle.pm3_access.specs.Acts.{AreInPlace, IsHeldAs, IsNewName, MayBeMade}
use Rattle.pm3_access.specs.Holding.{Holding, nothing_held}
use Rattle.pm3_access.specs.Making.{IsMade, current_image}
use Rattle.pm3_access.specs.Sound.{HasLowPage}

-- where nothing is held the empty book fits, and has no name
abbrev pub NothingIsNamed : Type 0
NothingIsNamed = (catalog : List Fields) (base n : ℕ) → IsNewName catalog base empty nothing_held n

-- an object of this type was made at an address, under a name that the book did not have
pub record IsMadeAs (catalog : List Fields) (base : ℕ) (book : Book) (h new : Holding) (ty tail n a : ℕ) : Type 0 where
  pub places : AreInPlace h
  pub low : HasLowPage (current_image h.space)
  pub may : MayBeMade catalog ty tail n
  pub small : n < 2 ^ 62
  pub fresh : IsNewName catalog base book h n
  pub made : IsMade base catalog h ty tail n (Some a) new

-- it is held there as that name, under the book that has the name as well
abbrev pub MadeIsHeld : Type 0
MadeIsHeld = (catalog : List Fields) (base : ℕ) (book : Book) (h new : Holding) (ty tail n a : ℕ) (map : Fields)
    → IsMadeAs catalog base book h new ty tail n a → slice_get catalog ty ≡ Some map → IsHeldAs catalog base (insert book a n) new a n map

-- and every other new name is still new
abbrev pub OthersStayNew : Type 0
OthersStayNew = (catalog : List Fields) (base : ℕ) (book : Book) (h new : Holding) (ty tail n a m : ℕ)
    → IsMadeAs catalog base book h new ty tail n a → m ≢ n → IsNewName catalog base book h m → IsNewName catalog base (insert book a n) new m
