-- Objects that have been found, among all the objects of a space.
use Rattle.std.specs.Prelude.{ℕ, ◌≡◌, ◌⊎◌, ◌++◌, List}
use Rattle.std.specs.List.{Contains}

-- the objects of the space, and those that have been found, in the order of coming
pub record Finds : Type 0 where
  pub objects : List ℕ
  pub list : List ℕ

-- the objects that pass a test are found besides, and what was found before keeps its place
pub record Adds (Passes : ℕ → Type 0) (old new : Finds) : Type 0 where
  pub objects : new.objects ≡ old.objects
  pub front : (more : List ℕ) × (new.list ≡ old.list ++ more)
  pub has : (a : ℕ) → Contains old.objects a → Passes a → Contains new.list a
  pub only : (a : ℕ) → Contains new.list a → Contains old.list a ⊎ (Contains old.objects a × Passes a)

-- just the members of a set have been found
pub record AreFound (InSet : ℕ → Type 0) (found : Finds) : Type 0 where
  pub only : (a : ℕ) → Contains found.list a → InSet a
  pub all : (a : ℕ) → InSet a → Contains found.list a
