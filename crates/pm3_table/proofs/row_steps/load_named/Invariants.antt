use Rattle.std.specs.Prelude.{[]}
use Rattle.pm3_table.proofs.row_steps.load_named.Given as goal

abbrev pub ghosts-validate_at : goal.ghosts-validate_at
ghosts-validate_at g a = record { told = a.shared.now.1; in_row = a.place; at = a.page; more = []; failed = [] }
