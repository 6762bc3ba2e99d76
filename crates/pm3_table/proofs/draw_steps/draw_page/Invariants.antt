use Rattle.std.specs.Prelude.{[]}
use Rattle.pm3_table.proofs.draw_steps.draw_page.Given as goal

abbrev pub ghosts-draw_page_at : goal.ghosts-draw_page_at
ghosts-draw_page_at g a = record { told = a.shared.now.1; in_row = 0; at = 0; more = []; failed = [] }
