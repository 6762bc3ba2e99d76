use Rattle.std.specs.Prelude.{[]}
use Rattle.pm3_table.proofs.row_steps.look.Given as goal

abbrev pub ghosts-look_at : goal.ghosts-look_at
ghosts-look_at g a = record { told = a.shared.now.1; in_row = 0; at = a.page; more = []; failed = [] }
