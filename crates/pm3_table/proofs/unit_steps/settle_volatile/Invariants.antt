use Rattle.std.specs.Prelude.{[]}
use Rattle.pm3_table.specs.Starting.{blank_told}
use Rattle.pm3_table.specs.Words.{space_unit}
use Rattle.pm3_table.proofs.unit_steps.settle_volatile.Given as goal

abbrev pub ghosts-settle_in_at : goal.ghosts-settle_in_at
ghosts-settle_in_at g a = record { told = blank_told; in_row = space_unit a.shared.now.1.pages a.space; at = a.page; more = []; failed = [] }
