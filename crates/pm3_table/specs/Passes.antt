-- What contracts say of tables and passes.
use Rattle.std.specs.Prelude.{◌≡◌, ℕ, ◌+◌, ◌<◌}
use Rattle.atomic_table.specs.Seated.{TableId}
use Rattle.pm3_core.specs.declared.events.TheConstants.{PLACES}
use Rattle.pm3_table.specs.declared.view.Told.{Told}
use Rattle.pm3_table.specs.declared.view.View.{View}

-- the pass belongs to the table
abbrev pub IsOf : TableId × View → TableId × Told → Type 0
IsOf pass shared = pass.0 ≡ shared.0

-- the pass has this view now, and belongs to the same table
abbrev pub Becomes : TableId × View → TableId × View → View → Type 0
Becomes old new view = (new.0 ≡ old.0) × (new.1 ≡ view)

-- the table has a word for each place, unit and counter, and a slot for each unit
pub record IsLaidOut (table : TableId) (pages told_pages : ℕ) : Type 0 where
  pub words : table.words ≡ PLACES + (pages + 33) + 3
  pub slots : table.slots ≡ pages + 33
  pub pages_are : pages ≡ told_pages
  pub small : pages < 16385
