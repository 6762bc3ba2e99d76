use Rattle.pm3_table.specs.Starting.{blank_told}
use Rattle.pm3_table.specs.Words.{turn_unit}
use Rattle.pm3_table.proofs.unit_steps.give_turn.Given as goal

abbrev pub ghosts-turn_at : goal.ghosts-turn_at
ghosts-turn_at g a = record { told = blank_told; in_row = 0; at = turn_unit a.shared.now.1.pages; more = g.commits.0; failed = g.commits.1 }
