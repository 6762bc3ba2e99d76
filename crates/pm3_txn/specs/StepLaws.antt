-- Laws on what the steps of the table make of a view, as a transaction that may hold its space needs it.
use Rattle.std.specs.Prelude.{ℕ, ◌≡◌, ◌⊎◌, ◌==◌, ◌||◌, true, false, List}
use Rattle.pm3_history.specs.Entry.{Done}
use Rattle.pm3_table.specs.declared.view.Deed.{Deed}
use Rattle.pm3_table.specs.declared.view.Told.{Told}
use Rattle.pm3_table.specs.declared.view.View.{View}
use Rattle.pm3_table.specs.Holds.{holds_of, spans_of, is_in}
use Rattle.pm3_table.specs.Ops.{took, gave, settled_in, saw_full, drew_page, drew_name}
use Rattle.pm3_table.specs.Telling.{NoneNames, IsSound}
use Rattle.pm3_table.specs.Words.{turn_unit}
use Rattle.pm3_txn.specs.DrawnLaws.{IsAlike}
use Rattle.pm3_txn.specs.OwnerLaws.{GoesFurther}

-- A view that took a unit goes further, and holds that unit besides, with the pages of its value.
abbrev pub TakesGoFurther : Type 0
TakesGoFurther = (told : Told) (v : View) (u : ℕ) (between lost : List Done) (pages : List ℕ) (faults : ℕ)
    → holds_of v.holds u ≡ false → ((x : ℕ) → holds_of v.holds x ≡ true → NoneNames told between x)
    → IsSound told (took (turn_unit told.pages) v u between lost pages faults) lost
    → GoesFurther told v (took (turn_unit told.pages) v u between lost pages faults) between
    × (holds_of (took (turn_unit told.pages) v u between lost pages faults).holds u ≡ true)
    × ((x : ℕ) → holds_of (took (turn_unit told.pages) v u between lost pages faults).holds x ≡ true → (x ≡ u) ⊎ (holds_of v.holds x ≡ true))
    × ((p : ℕ) → spans_of (took (turn_unit told.pages) v u between lost pages faults).spans u p ≡ is_in p pages)

-- Once it gave back what it took since, it holds what it held.
abbrev pub GivesGoFurther : Type 0
GivesGoFurther = (told : Told) (v w : View) (u : ℕ) (between : List Done) → holds_of v.holds u ≡ false → GoesFurther told v w between
    → ((x : ℕ) → holds_of w.holds x ≡ true → (x ≡ u) ⊎ (holds_of v.holds x ≡ true))
    → GoesFurther told v (gave w u) between × ((x : ℕ) → holds_of (gave w u).holds x ≡ true → holds_of v.holds x ≡ true)

-- A draw leaves what a view has seen and holds, whether it gets a number or not.
abbrev pub DrawsAreAlike : Type 0
DrawsAreAlike = (v : View) (n : ℕ) → IsAlike v (saw_full n v) × IsAlike v (drew_page v n) × IsAlike v (drew_name v n) × (is_in n (drew_name v n).names ≡ true)

-- So does settling a page in a space, which is one of the space's pages then.
abbrev pub SettlesSpread : Type 0
SettlesSpread = (v : View) (page unit : ℕ) (log : List Deed) → IsAlike v (settled_in v page unit log)
    × ((p : ℕ) → spans_of (settled_in v page unit log).spans unit p ≡ ((p == page) || spans_of v.spans unit p))
