-- A scan of all places, row by row.
use Rattle.std.specs.Prelude.{ℕ, ◌+◌, ◌/◌, ◌%◌, List, [], ◌∷◌}
use Rattle.pm3_core.specs.declared.events.TheConstants.{ROW_PLACES}
use Rattle.pm3_table.specs.declared.view.Deed.{Deed}
use Rattle.pm3_table.specs.declared.view.Deed.TheVariants.{Found}

-- the log once these words were found at place n of all rows and at those behind it
abbrev pub scanned : ℕ → List ℕ → List Deed → List Deed
scanned n [] log = log
scanned n (w ∷ ws) log = scanned (n + 1) ws (Found (n / ROW_PLACES) (n % ROW_PLACES) w ∷ log)
