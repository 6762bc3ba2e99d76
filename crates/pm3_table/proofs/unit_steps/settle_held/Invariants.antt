use Rattle.std.specs.Prelude.{[]}
use Rattle.pm3_table.specs.Starting.{blank_told}
use Rattle.pm3_table.proofs.unit_steps.settle_held.Given as goal

abbrev pub ghosts-settle_held_at : goal.ghosts-settle_held_at
ghosts-settle_held_at g a = record { told = blank_told; in_row = 0; at = a.page; more = []; failed = [] }
