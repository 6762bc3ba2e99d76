use Rattle.std.specs.Prelude.{[]}
use Rattle.pm3_table.specs.Starting.{blank_told}
use Rattle.pm3_table.proofs.row_steps.read_word.Given as goal

abbrev pub ghosts-read_at : goal.ghosts-read_at
ghosts-read_at g a = record { told = blank_told; in_row = a.row; at = a.place; more = []; failed = [] }
