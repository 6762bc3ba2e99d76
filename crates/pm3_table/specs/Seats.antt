-- How a view is cut in two, and how two are made one.
use Rattle.std.specs.Prelude.{◌≡◌, ℕ, ◌+◌, ◌<◌, true, false, max, List, [], ◌∷◌, ◌++◌, length, drop}
use Rattle.pm3_core.specs.declared.events.TheConstants.{ROW_PLACES}
use Rattle.pm3_history.specs.Entry.{Done}
use Rattle.pm3_table.specs.declared.view.View.{View}
use Rattle.pm3_table.specs.Deeds.{word_of, marks_of}
use Rattle.pm3_table.specs.Holds.{holds_of}
use Rattle.pm3_table.specs.Starting.{bare_view}

-- the first number of a list, and the others
abbrev pub first_of : List ℕ → ℕ
first_of [] = 0
first_of (n ∷ ns) = n

abbrev pub rest_of : List ℕ → List ℕ
rest_of [] = []
rest_of (n ∷ ns) = ns

-- the view that split off keeps: the row that was drawn last goes
abbrev pub left_view : View → View
left_view v = record v { rows = rest_of v.rows; last = false }

-- a new mutator with the row n, which knows what the other knew
abbrev pub new_view : ℕ → View → View
new_view n v = record (bare_view true n v.faults) { seen = v.seen; steady = v.steady }

-- what the second list has behind as many commits as the first has
abbrev pub beyond : List Done → List Done → List Done
beyond a b = drop (length a) b

-- the view that knows what both knew, and keeps what the other counted
abbrev pub both_views : View → View → View
both_views v x = record v {
  seen = v.seen ++ beyond v.seen x.seen;
  faults = max v.faults x.faults;
  steady = v.steady ++ x.steady;
  pages = v.pages ++ x.pages;
  names = v.names ++ x.names;
  filled = v.filled ++ x.filled;
  drew_pages = v.drew_pages + x.drew_pages;
  drew_names = v.drew_names + x.drew_names;
  kept = record { mutator = x.row; commits = x.mine } ∷ (x.kept ++ v.kept);
  failed = v.failed ++ x.failed;
  last = false;
  refusals = x.refusals ++ v.refusals;
}

-- a view that holds no unit and no mark, and whose row is 0 everywhere
pub record IsBlank (v : View) : Type 0 where
  pub holds : (u : ℕ) → holds_of v.holds u ≡ false
  pub marks : (p : ℕ) → marks_of v.log p ≡ false
  pub row : (q : ℕ) → q < ROW_PLACES → word_of v.log q ≡ 0
