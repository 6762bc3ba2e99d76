-- What the calls on units make of a mutator.
use Rattle.std.specs.Prelude.{ℕ, ◌≡◌, ◌+◌, max, Option}
use Rattle.pm3_disk.specs.declared.outside.Disk.{Ghosts}
use Rattle.pm3_table.specs.declared.view.Told.{Told}
use Rattle.pm3_table.specs.declared.view.View.{View}
use Rattle.pm3_table.specs.Plays.{Taken}
use Rattle.pm3_txn.specs.declared.values.Value.{Value}
use Rattle.pm3_txn.specs.Slots.{stands_for, pages_in, faults_in}
use Rattle.pm3_txn.specs.States.{MutatorState}

-- the mutator with another view
abbrev pub with_view : {R : Type 0} → MutatorState R → View → MutatorState R
with_view m view = record m { pass = (m.pass.0, view) }

-- and once it has noted a name that it drew
abbrev pub with_name : {R : Type 0} → MutatorState R → View → ℕ → MutatorState R
with_name m view name = record m { pass = (m.pass.0, view); next_name = max m.next_name (name + 1) }

-- it has taken the unit and what was in its slot, and all but its view is as it was
pub record HasTaken {D R : Type 0} (g : Ghosts D R) (told : Told) (old new : MutatorState R) (unit : ℕ) (slot : Option (Value D R)) : Type 0 where
  pub rest : new ≡ with_view old new.pass.1
  pub taken : Taken (stands_for g) pages_in (faults_in g) told old.pass.1 new.pass.1 unit slot
