use Rattle.std.specs.Prelude.{[]}
use Rattle.pm3_table.proofs.shared.Shared.join.Given as goal

abbrev pub ghosts-join_at : goal.ghosts-join_at
ghosts-join_at g a = record { told = a.shared.now.1; in_row = 0; at = 0; more = []; failed = [] }
