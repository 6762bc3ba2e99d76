-- What a pass carries: the slot of each unit that it holds, empty.
use Rattle.std.specs.Prelude.{◌≡◌, ℕ, ◌<◌, ◌==◌, ◌+◌, true, false, if◌then◌else◌, List, [], ◌∷◌, min, length, Option, None}
use Rattle.pm3_table.specs.declared.view.Hold.{Hold}
use Rattle.pm3_table.specs.declared.view.View.{View}
use Rattle.pm3_table.specs.Counts.{Distinct}
use Rattle.pm3_table.specs.Holds.{holds_of, is_in}

-- the numbers of the slots
abbrev pub slots_in : {V : Type 0} → List (ℕ × Option V) → List ℕ
slots_in [] = []
slots_in (x ∷ xs) = x.0 ∷ slots_in xs

-- each is empty
abbrev pub AreEmpty : {V : Type 0} → List (ℕ × Option V) → Type 0
AreEmpty [] = Unit {0}
AreEmpty (x ∷ xs) = (x.1 ≡ None) × AreEmpty xs

-- the slots without one of them
abbrev pub dropped : {V : Type 0} → ℕ → List (ℕ × Option V) → List (ℕ × Option V)
dropped u [] = []
dropped u (x ∷ xs) = if x.0 == u then xs else (x ∷ dropped u xs)

-- the slots of the units that are held, each once and empty
pub record Carries {V : Type 0} (holds : List Hold) (carried : List (ℕ × Option V)) : Type 0 where
  pub same : (u : ℕ) → is_in u (slots_in carried) ≡ holds_of holds u
  pub once : Distinct (slots_in carried)
  pub empty : AreEmpty carried

-- Between two calls a pass draws nothing, has no row for another, and carries the slots of what it holds. It counts itself
-- and the mutators that it keeps, up to one more than there can be.
pub record IsIdle {V : Type 0} (v : View) (row joined : ℕ) (carried : List (ℕ × Option V)) : Type 0 where
  pub live : v.live ≡ true
  pub row_is : v.row ≡ row
  pub low : row < 32
  pub drawing : v.drawing ≡ 0
  pub rows : v.rows ≡ []
  pub last : v.last ≡ false
  pub tally : joined ≡ min (length v.kept + 1) 33
  pub carries : Carries v.holds carried
