use Rattle.std.specs.Prelude.{[]}
use Rattle.pm3_table.proofs.draw_steps.draw_name.Given as goal

abbrev pub ghosts-draw_name_at : goal.ghosts-draw_name_at
ghosts-draw_name_at g a = record { told = a.shared.now.1; in_row = 0; at = 1; more = []; failed = [] }
