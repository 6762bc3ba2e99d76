-- Which objects of a space a pass keeps, and of which kind they are.
use Rattle.std.specs.Prelude.{ℕ, ◌≡◌, ◌⊎◌, Bool, true, List}
use Rattle.std.specs.Ordering.{nat_cmp}
use Rattle.std.specs.FinSet as set
use Rattle.pm3_types.specs.Fields.{Fields}
use Rattle.pm3_types.specs.Layout.{page_in}
use Rattle.pm3_types.specs.Least.{Least}
use Rattle.pm3_types.specs.Objects.{is_object_at, RefersTo, RootIs}
use Rattle.pm3_types.specs.Shown.{Images}

-- the images of the space and the written images of persistent pages, just before a pass, and the pages that it pins
pub record Before : Type 0 where
  pub space : Images
  pub written : Images
  pub pinned : set.FinSet nat_cmp

-- an object of the space begins at the address
abbrev pub is_of_space : ℕ → Before → ℕ → Bool
is_of_space base before a = is_object_at base before.space a

-- the address lies on a pinned page
abbrev pub is_pinned : ℕ → Before → ℕ → Bool
is_pinned base before a = set.contains before.pinned (page_in base a)

module _ (catalog : List Fields) (base : ℕ) (before : Before) where
  -- a root slot or an object of a written image refers to this object of the space
  abbrev pub IsReferredTo : ℕ → Type 0
  IsReferredTo b = (is_of_space base before b ≡ true)
      × (RootIs before.written b ⊎ ((a : ℕ) × (is_object_at base before.written a ≡ true) × RefersTo catalog base before.written a b))

  -- with one object the pass promotes those that it refers to and, on a pinned page, those of its page
  abbrev pub BringsAlong : ℕ → ℕ → Type 0
  BringsAlong a b = (is_of_space base before b ≡ true)
      × (RefersTo catalog base before.space a b ⊎ ((is_pinned base before a ≡ true) × (page_in base b ≡ page_in base a)))

  -- the objects that turn persistent
  abbrev pub Promoted : ℕ → Type 0
  Promoted = Least IsReferredTo BringsAlong

  -- an object of a pinned page that stays in the space
  abbrev pub StaysPinned : ℕ → Type 0
  StaysPinned a = (is_of_space base before a ≡ true) × (is_pinned base before a ≡ true) × (Promoted a → ⊥)

  -- with one object the pass keeps those that it refers to and that are not promoted
  abbrev pub Keeps : ℕ → ℕ → Type 0
  Keeps a b = (is_of_space base before b ≡ true) × RefersTo catalog base before.space a b × (Promoted b → ⊥)

  -- the objects that stay in the space
  abbrev pub Kept : ℕ → Type 0
  Kept = Least StaysPinned Keeps

  -- the objects that are there after the pass, and those of the space that are not
  abbrev pub Live : ℕ → Type 0
  Live a = Promoted a ⊎ Kept a

  abbrev pub IsDead : ℕ → Type 0
  IsDead a = (is_of_space base before a ≡ true) × (Live a → ⊥)

  -- a pinned page turns persistent with a promoted object that lies on it
  abbrev pub Turns : ℕ → Type 0
  Turns p = (set.contains before.pinned p ≡ true) × ((a : ℕ) × (page_in base a ≡ p) × Promoted a)
