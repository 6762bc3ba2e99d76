-- The numbers of units.
use Rattle.std.specs.Prelude.{ℕ, ◌+◌, ◌<◌}
use Rattle.pm3_table.specs.declared.unit.Unit as table
use Rattle.pm3_table.specs.declared.unit.Unit.TheVariants.{Page, Space, Turn}

-- the pages come first, then the spaces, then the turn
abbrev pub number : ℕ → table.Unit → ℕ
number pages (Page page) = page
number pages (Space space) = pages + space
number pages Turn = pages + 32

-- the unit is one of the table's
abbrev pub IsUnit : ℕ → table.Unit → Type 0
IsUnit pages (Page page) = page < pages
IsUnit pages (Space space) = space < 32
IsUnit pages Turn = 0 < 1
