-- What a step makes of a view.
use Rattle.std.specs.Prelude.{ℕ, ◌+◌, ◌==◌, if◌then◌else◌, List, ◌∷◌, ◌++◌}
use Rattle.pm3_history.specs.Entry.{Done}
use Rattle.pm3_table.specs.declared.view.Deed.{Deed}
use Rattle.pm3_table.specs.declared.view.Hold.TheVariants.{Took, Gave}
use Rattle.pm3_table.specs.declared.view.Span.TheVariants.{Spread, Went}
use Rattle.pm3_table.specs.declared.view.View.{View}
use Rattle.pm3_table.specs.Entries.{makes}
use Rattle.pm3_table.specs.Histories.{some_has}
use Rattle.pm3_table.specs.Holds.{without_number}
use Rattle.pm3_table.specs.Names.{spare}

-- it did something with its row or with a mark
abbrev pub did : View → Deed → View
did v d = record v { log = d ∷ v.log }

-- it was refused a unit, for this word
abbrev pub refused : View → ℕ → ℕ → View
refused v u word = record v { refusals = record { unit = u; word = word } ∷ v.refusals }

-- it took a unit whose value has these pages and counts so many faults, and has seen more of the history and the failed commits
abbrev pub took : ℕ → View → ℕ → List Done → List Done → List ℕ → ℕ → View
took turn v u between lost pages faults = record v {
  holds = Took u ∷ v.holds;
  spans = Spread u pages ∷ v.spans;
  seen = v.seen ++ between;
  faults = if u == turn then faults else v.faults;
  lost = if u == turn then lost else v.lost;
}

-- it gave a unit back
abbrev pub gave : View → ℕ → View
gave v u = record v { holds = Gave u ∷ v.holds }

-- it gave the turn back with commits that joined the history, and with others that failed
abbrev pub turned : ℕ → View → List Done → List Done → ℕ → View
turned turn v more failed faults = record v {
  holds = Gave turn ∷ v.holds;
  seen = v.seen ++ more;
  faults = faults;
  names = spare (some_has makes more) v.names;
  mine = v.mine ++ more;
  failed = v.failed ++ failed;
  lost = v.lost ++ failed;
}

-- it knows a page to be persistent
abbrev pub knew : View → ℕ → View
knew v page = record v { steady = page ∷ v.steady }

-- a page of its own went to a space, under that space's unit
abbrev pub settled_in : View → ℕ → ℕ → List Deed → View
settled_in v page unit log = record v {
  log = log;
  spans = Went page (unit + 1) ∷ v.spans;
  pages = without_number page v.pages;
}

-- a page of its own became persistent, and it holds it
abbrev pub settled_held : View → ℕ → List Deed → View
settled_held v page log = record v {
  log = log;
  holds = Took page ∷ v.holds;
  spans = Went page 0 ∷ v.spans;
  steady = page ∷ v.steady;
  pages = without_number page v.pages;
}

-- it saw so many mutators made, not all of which are joined into it
abbrev pub saw_made : View → ℕ → View
saw_made v made = record v { made = made }

-- it stands between the load and the fetch of a draw
abbrev pub begins_draw : ℕ → View → View
begins_draw c v = record v { drawing = c + 1 }

-- it saw that a counter is full
abbrev pub saw_full : ℕ → View → View
saw_full c v = record v { drawing = 0; filled = c ∷ v.filled }

abbrev pub drew_page : View → ℕ → View
drew_page v n = record v { drawing = 0; drew_pages = v.drew_pages + 1; pages = n ∷ v.pages }

abbrev pub drew_name : View → ℕ → View
drew_name v n = record v { drawing = 0; drew_names = v.drew_names + 1; names = n ∷ v.names }

abbrev pub drew_row : View → ℕ → View
drew_row v n = record v { drawing = 0; rows = n ∷ v.rows }
