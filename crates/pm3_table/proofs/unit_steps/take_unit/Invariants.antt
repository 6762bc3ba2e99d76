use Rattle.std.specs.Prelude.{[]}
use Rattle.pm3_table.proofs.unit_steps.take_unit.Given as goal

abbrev pub ghosts-take_at : goal.ghosts-take_at
ghosts-take_at g a = record { told = a.shared.now.1; in_row = 0; at = a.unit; more = []; failed = [] }
