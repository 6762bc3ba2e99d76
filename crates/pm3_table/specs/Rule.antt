-- The rule of the running table, as a list of its parts.
use Rattle.std.specs.Prelude.{ℕ, ◌+◌, ◌^◌, ◌<◌, ◌≤◌, Bool, min, length, List, ◌++◌, Option, None}
use Rattle.atomic_table.specs.Table.{State}
use Rattle.pm3_core.specs.Machine.{Machine}
use Rattle.pm3_history.specs.Entry.{Done}
use Rattle.pm3_table.specs.declared.view.Told.{Told}
use Rattle.pm3_table.specs.declared.view.View.{View}
use Rattle.pm3_table.specs.Crew.{Seated}
use Rattle.pm3_table.specs.Words.{Encodes, turn_unit}
use Rattle.pm3_table.specs.Entries.{makes, keeps_in}
use Rattle.pm3_table.specs.OpensBelow.{OpensBelow}
use Rattle.pm3_table.specs.Rows.{RowView, RowsRule, moves_of}
use Rattle.pm3_table.specs.Units.{UnitView, UnitsRule}
use Rattle.pm3_table.specs.Pages.{PageView, PagesRule}
use Rattle.pm3_table.specs.Draws.{DrawView, DrawsRule}
use Rattle.pm3_table.specs.Names.{NameView, NamesRule}
use Rattle.pm3_table.specs.Counts.{CountView, CountsRule}
use Rattle.pm3_table.specs.Lost.{LostView, LostRule}
use Rattle.pm3_table.specs.Lasts.{LastView, LastRule}
use Rattle.pm3_table.specs.Telling.{limit, first, names, names_page, Lawful, Good, spans_in, counted_in}

-- what each part reads of a view
abbrev pub row_view : View → RowView
row_view v = record { live = v.live; log = v.log }

abbrev pub unit_view : View → UnitView
unit_view v = record { live = v.live; holds = v.holds; seen = v.seen; faults = v.faults }

abbrev pub page_view : View → PageView
page_view v = record { live = v.live; holds = v.holds; spans = v.spans; steady = v.steady; pages = v.pages }

abbrev pub draw_view : View → DrawView
draw_view v = record {
  live = v.live;
  drawing = v.drawing;
  filled = v.filled;
  drew_pages = v.drew_pages;
  drew_names = v.drew_names;
  rows = length v.kept + 1 + length v.rows;
}

abbrev pub name_view : View → NameView
name_view v = record { live = v.live; names = v.names }

abbrev pub count_view : View → CountView
count_view v = record { live = v.live; rows = v.rows; mine = v.mine; kept = v.kept }

abbrev pub lost_view : View → LostView
lost_view v = record { live = v.live; failed = v.failed; lost = v.lost }

abbrev pub last_view : View → LastView
last_view v = record { live = v.live; last = v.last }

module _ {V : Type 0} (stands : Told → List Done → List Done → ℕ → V → Type 0) (spans : V → List ℕ) (counted : V → ℕ) (told : Told) where
  pub record Ruled (s : State (Option V) View) : Type 0 where
    pub crew : ℕ → View
    pub seated : Seated s.views crew
    pub machine : Machine
    pub holder : ℕ → ℕ
    pub space : ℕ → ℕ
    pub used : ℕ → Bool
    pub counter : ℕ → ℕ
    pub history : List Done
    pub lost : List Done
    pub words : Encodes told.pages machine.word holder machine.mark space counter s.words
    pub rows : RowsRule told.pages (moves_of history) machine (λ k. row_view (crew k))
    pub units : UnitsRule (Good stands told lost) (counted_in counted) (turn_unit told.pages) (names told) holder history s.homes (λ k. unit_view (crew k))
    pub paged : PagesRule None (spans_in spans) told.pages told.frontier (names_page told) keeps_in (counter 0) used machine.mark space holder history s.homes (λ k. page_view (crew k))
    pub draws : DrawsRule (limit told) (first told) counter (λ k. draw_view (crew k))
    pub named : NamesRule makes told.next_name (counter 1) history (λ k. name_view (crew k))
    pub counts : CountsRule (min (counter 2) 32) history (λ k. count_view (crew k))
    pub failed : LostRule (holder (turn_unit told.pages)) lost (λ k. lost_view (crew k))
    pub lasts : LastRule (λ k. last_view (crew k))
    pub lawful : Lawful told history × Lawful told (history ++ lost)
    pub bounds : (told.pages < 16385) × (told.frontier ≤ told.pages) × (told.next_name ≤ 2 ^ 62) × OpensBelow told
