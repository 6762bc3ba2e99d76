use Rattle.std.specs.Prelude.{[]}
use Rattle.pm3_table.specs.Starting.{blank_told}
use Rattle.pm3_table.proofs.unit_steps.give_unit.Given as goal

abbrev pub ghosts-give_at : goal.ghosts-give_at
ghosts-give_at g a = record { told = blank_told; in_row = 0; at = a.unit; more = []; failed = [] }
