-- The start of a table.
use Rattle.std.specs.Prelude.{ℕ, Bool, true, false, [], None}
use Rattle.std.specs.FinMap.{empty}
use Rattle.pm3_history.specs.Opens.{Origin}
use Rattle.pm3_table.specs.declared.view.Told.{Told}
use Rattle.pm3_table.specs.declared.view.View.{View}

-- what the table is told
abbrev pub told_of : {V : Type 0} → (V → Origin) → ℕ → ℕ → ℕ → V → Told
told_of opening pages frontier next_name turn =
    record { pages = pages; frontier = frontier; next_name = next_name; opening = opening turn }

-- the view of mutator n with nothing done, which has seen this history and so many faults
abbrev pub bare_view : Bool → ℕ → ℕ → View
bare_view live row faults = record {
  live = live;
  row = row;
  log = [];
  holds = [];
  seen = [];
  faults = faults;
  spans = [];
  steady = [];
  pages = [];
  names = [];
  drawing = 0;
  filled = [];
  drew_pages = 0;
  drew_names = 0;
  rows = [];
  mine = [];
  kept = [];
  failed = [];
  lost = [];
  last = false;
  made = 0;
  refusals = [];
}

-- the view of the first mutator
abbrev pub first_view : ℕ → View
first_view faults = bare_view true 0 faults

-- the view of a mutator that has ended
abbrev pub spent_view : View
spent_view = bare_view false 0 0

-- an opening of which nothing is told
abbrev pub blank_origin : Origin
blank_origin = record { catalog = []; images = empty; summaries = []; due = 0; file = None; journal = None; faults = 0; stopped = None }

-- a table without pages
abbrev pub blank_told : Told
blank_told = record { pages = 0; frontier = 0; next_name = 0; opening = blank_origin }
