-- The values with which a table starts.
use Rattle.std.specs.Prelude.{◌≡◌, ℕ, ◌+◌, ◌^◌, ◌<◌, ◌≤◌, false, List, [], length, get_or, Option, None, Some}
use mathlib.Core.Option.{some}
use lib.ListN.{get_elem?}
use Rattle.pm3_history.specs.Entry.{Done}
use Rattle.pm3_history.specs.Opens.{Origin}
use Rattle.pm3_table.specs.declared.marks.Marks4.{Marks4}
use Rattle.pm3_table.specs.declared.view.Told.{Told}
use Rattle.pm3_table.specs.Holds.{is_in}
use Rattle.pm3_table.specs.Starting.{blank_origin}
use Rattle.pm3_table.specs.Telling.{Good, spans_in, counted_in}
use Rattle.pm3_table.specs.Words.{space_unit, turn_unit}

-- the home of the turn
abbrev pub turn_home : {V : Type 0} → Marks4 → List (Option V) → Option V
turn_home marks homes = get_or homes (turn_unit marks.pages) None

abbrev pub opening_in : {V : Type 0} → (V → Origin) → Option V → Origin
opening_in opening None = blank_origin
opening_in opening (Some x) = opening x

-- what a table is told by its marks and its homes: of the opening by the turn's value
abbrev pub told_by : {V : Type 0} → (V → Origin) → Marks4 → List (Option V) → Told
told_by opening marks homes = record {
  pages = marks.pages;
  frontier = marks.frontier;
  next_name = marks.next_name;
  opening = opening_in opening (turn_home marks homes);
}

-- the faults that the turn's value has counted
abbrev pub faults_in : {V : Type 0} → (V → ℕ) → Marks4 → List (Option V) → ℕ
faults_in counted marks homes = counted_in counted (turn_home marks homes)

-- Each unit has a value that stands for it after no commit, or is a page that may be without one. Pages from the frontier
-- on have none, and no page belongs to a space.
pub record FirstHomes {V : Type 0} (stands : Told → List Done → List Done → ℕ → V → Type 0) (spans : V → List ℕ) (told : Told) (homes : List (Option V)) : Type 0 where
  pub wide : length homes ≡ told.pages + 33
  pub good : (u : ℕ) → u < told.pages + 33 → (x : Option V) × (get_elem? homes u ≡ some x) × Good stands told [] [] u x
  pub bare : (p : ℕ) → told.frontier ≤ p → p < told.pages → get_elem? homes p ≡ some None
  pub spaces : (j : ℕ) → j < 32 → (x : Option V) → get_elem? homes (space_unit told.pages j) ≡ some x
      → (p : ℕ) → is_in p (spans_in spans x) ≡ false

-- 3 to 16,384 pages are told, a frontier among them, and a next name
pub record IsTold (told : Told) : Type 0 where
  pub least : 3 ≤ told.frontier
  pub frontier : told.frontier ≤ told.pages
  pub pages : told.pages < 16385
  pub name : (1 ≤ told.next_name) × (told.next_name ≤ 2 ^ 62)
