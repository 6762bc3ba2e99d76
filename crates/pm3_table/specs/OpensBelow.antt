-- What a table asks of an opening.
use Rattle.std.specs.Prelude.{ℕ, ◌≡◌, ◌<◌, true, Some}
use Rattle.std.specs.FinMap.{get}
use Rattle.pm3_core.specs.declared.naming.TheConstants.{BASE}
use Rattle.pm3_types.specs.Record.{Record}
use Rattle.pm3_history.specs.Opens.{Opens}
use Rattle.pm3_history.specs.State.{State}
use Rattle.pm3_table.specs.declared.view.Told.{Told}
use Rattle.pm3_table.specs.Entries.{images_refer}

-- the opened images have and name only pages below the first frontier, and a graph that is opened has only names below the
-- first next name
pub record OpensBelow (told : Told) : Type 0 where
  pub pages : (p : ℕ) → images_refer told.opening.catalog told.opening.images p ≡ true → p < told.frontier
  pub names : (st : State) → Opens BASE told.pages told.opening st
      → (n : ℕ) (r : Record) → get st.graph.records n ≡ Some r → n < told.next_name
