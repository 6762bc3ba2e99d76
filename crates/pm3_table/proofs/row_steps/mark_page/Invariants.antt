use Rattle.std.specs.Prelude.{[]}
use Rattle.pm3_table.specs.Starting.{blank_told}
use Rattle.pm3_table.proofs.row_steps.mark_page.Given as goal

abbrev pub ghosts-mark_at : goal.ghosts-mark_at
ghosts-mark_at g a = record { told = blank_told; in_row = 0; at = a.page; more = []; failed = [] }
