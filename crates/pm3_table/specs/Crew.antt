-- The views of a table's seats, by the numbers of the mutators that have them.
use Rattle.std.specs.Prelude.{◌≡◌, ℕ, zero, suc, ◌+◌, ◌<◌, true, List}
use mathlib.Core.Option.{some}
use lib.ListN.{get_elem?}
use Rattle.pm3_table.specs.declared.view.View.{View}

-- the seat has this view, and it is the view of a mutator
abbrev pub Lives : List View → ℕ → View → Type 0
Lives views id v = (get_elem? views id ≡ some v) × (v.live ≡ true)

-- each live view is that of its row's number, and no two have one row
pub record Seated (views : List View) (crew : ℕ → View) : Type 0 where
  pub knows : (id : ℕ) (v : View) → Lives views id v → crew v.row ≡ v
  pub sits : (k : ℕ) → (crew k).live ≡ true → (id : ℕ) × Lives views id (crew k) × ((crew k).row ≡ k)
  pub apart : (i j : ℕ) (v w : View) → Lives views i v → Lives views j w → v.row ≡ w.row → i ≡ j
  pub below : (k : ℕ) → (crew k).live ≡ true → k < 32

-- the sum of what f gives below a number
abbrev pub total : ℕ → (ℕ → ℕ) → ℕ
total zero f = 0
total (suc n) f = f n + total n f
