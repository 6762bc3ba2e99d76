use Rattle.std.specs.Prelude.{[]}
use Rattle.pm3_table.proofs.shared.Shared.split.Given as goal

abbrev pub ghosts-split_at : goal.ghosts-split_at
ghosts-split_at g a = record { told = a.shared.now.1; in_row = 0; at = 0; more = []; failed = [] }
