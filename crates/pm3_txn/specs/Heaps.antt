-- What holds of a heap.
use Rattle.std.specs.Prelude.{ℕ, ◌≡◌, ◌<◌, ◌≤◌, List, Some}
use Rattle.std.specs.FinMap.{get}
use Rattle.pm3_core.specs.declared.naming.TheConstants.{BASE}
use Rattle.pm3_types.specs.Fields.{Fields}
use Rattle.pm3_types.specs.Layout.{page_in}
use Rattle.pm3_types.specs.Record.{Record}
use Rattle.pm3_history.specs.Opens.{Opens}
use Rattle.pm3_history.specs.State.{State}
use Rattle.pm3_table.specs.declared.view.Told.{Told}

-- the graph to which the files opened has only names below the first next one, and objects below the frontier
pub record IsBelow (told : Told) : Type 0 where
  pub names : (st : State) → Opens BASE told.pages told.opening st → (n : ℕ) (r : Record) → get st.graph.records n ≡ Some r → n < told.next_name
  pub pages : (st : State) → Opens BASE told.pages told.opening st → (a n : ℕ) → get st.book a ≡ Some n → page_in BASE a < told.frontier

-- its catalog and its frontier are those that the table was told
pub record IsHeap (told : Told) (catalog : List Fields) (frontier : ℕ) : Type 0 where
  pub catalog_is : told.opening.catalog ≡ catalog
  pub frontier_is : told.frontier ≡ frontier
  pub small : told.pages < 16385
  pub first : 1 ≤ told.next_name
  pub least : 3 ≤ told.frontier
  pub most : told.frontier ≤ told.pages
  pub below : IsBelow told
