-- Homes of a table of sixteen pages.
use Rattle.std.specs.Prelude.{ℕ, ◌-◌, List, ◌++◌, replicate, Option, None, Some}
use Rattle.pm3_table_trials.specs.declared.tallies.Tally.{Tally}

abbrev pub blank : Tally
blank = record { count = 0 }

-- the first n homes have a value, and m have none
abbrev pub filled : ℕ → ℕ → List (Option Tally)
filled n m = replicate n (Some blank) ++ replicate m None

-- the homes of a table in which so many pages are used: a value for each of these, for each space and for the turn
abbrev pub first_of_used : ℕ → List (Option Tally)
first_of_used used = filled used (16 - used) ++ replicate 33 (Some blank)
