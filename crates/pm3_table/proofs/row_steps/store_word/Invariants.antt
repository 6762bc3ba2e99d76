use Rattle.std.specs.Prelude.{[]}
use Rattle.pm3_table.specs.Starting.{blank_told}
use Rattle.pm3_table.proofs.row_steps.store_word.Given as goal

abbrev pub ghosts-store_at : goal.ghosts-store_at
ghosts-store_at g a = record { told = blank_told; in_row = 0; at = a.place; more = []; failed = [] }
