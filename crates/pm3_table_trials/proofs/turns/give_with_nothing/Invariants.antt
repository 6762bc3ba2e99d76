use Rattle.std.specs.Prelude.{[], ◌∷◌}
use Rattle.pm3_table_trials.specs.Tallies.{nothing_by}
use Rattle.pm3_table_trials.proofs.turns.give_with_nothing.Given as goal

abbrev pub ghost-give_turn : goal.ghost-give_turn
ghost-give_turn g a = (nothing_by a.pass.now.1.row ∷ [], [])
