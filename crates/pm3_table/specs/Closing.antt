-- A table that is closed.
use Rattle.std.specs.Prelude.{◌≡◌, ℕ, ◌+◌, ◌<◌, ◌≤◌, ◌++◌, true, List, Option, length}
use Rattle.std.specs.Mem.Slots.{slots_items, IsFull}
use mathlib.Core.Option.{some}
use lib.ListN.{get_elem?}
use Rattle.atomic_table.specs.Seated.{TableId}
use Rattle.pm3_history.specs.Entry.{Done}
use Rattle.pm3_table.specs.declared.close_fault.CloseFault.{CloseFault}
use Rattle.pm3_table.specs.declared.close_fault.CloseFault.TheVariants.{NotAll, Memory}
use Rattle.pm3_table.specs.declared.view.Told.{Told}
use Rattle.pm3_table.specs.declared.view.View.{View}
use Rattle.pm3_table.specs.Counts.{counts, counted_under}
use Rattle.pm3_table.specs.Histories.{by}
use Rattle.pm3_table.specs.Ops.{saw_made}
use Rattle.pm3_table.specs.Passes.{Becomes}
use Rattle.pm3_table.specs.Rule.{count_view}
use Rattle.pm3_table.specs.Telling.{Good, Lawful, counted_in}
use Rattle.pm3_table.specs.Words.{turn_unit}

-- The last mutator has seen the whole history, which is lawful, also with the failed commits that it keeps. Each slot has a
-- value that stands for its unit after that history, and the turn's has counted no fewer faults than the mutator has seen. Each of
-- the `made` mutators is the last one or one that it keeps, with its commits.
pub record IsClosed {V : Type 0} (stands : Told → List Done → List Done → ℕ → V → Type 0) (counted : V → ℕ) (told : Told) (v : View) (made : ℕ) (slots : List (Option V)) : Type 0 where
  pub wide : length slots ≡ told.pages + 33
  pub lawful : Lawful told v.seen
  pub lawful_failed : Lawful told (v.seen ++ v.failed)
  pub stand : (u : ℕ) → u < told.pages + 33 → (x : Option V) × (get_elem? slots u ≡ some x) × Good stands told v.failed v.seen u x
  pub heard : (x : Option V) → get_elem? slots (turn_unit told.pages) ≡ some x → v.faults ≤ counted_in counted x
  pub kept : (k : ℕ) → k < made
      → (counts v.row (count_view v) k ≡ true) × (counted_under v.row (count_view v) k ≡ by k v.seen)

-- Why a table was not closed: more mutators were seen made than were joined, and the table and the pass come back; or there was
-- no memory, and the values come in plain slots.
abbrev pub IsCloseFault : {V : Type 0} → (Told → List Done → List Done → ℕ → V → Type 0) → (V → ℕ) → TableId × Told → TableId × View → CloseFault V → Type 0
IsCloseFault stands counted shared pass (NotAll made joined table last) =
    (joined ≡ length pass.1.kept + 1) × (joined < made) × (made < 33) × (table ≡ shared) × Becomes pass last (saw_made pass.1 made)
IsCloseFault stands counted shared pass (Memory homes) =
    IsFull homes.slots × IsClosed stands counted shared.1 pass.1 (length pass.1.kept + 1) (slots_items homes.slots)
