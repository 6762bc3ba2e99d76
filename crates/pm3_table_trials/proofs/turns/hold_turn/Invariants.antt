use Rattle.std.specs.Prelude.{[]}
use Rattle.pm3_table_trials.proofs.turns.hold_turn.Given as goal

abbrev pub ghost-give_turn : goal.ghost-give_turn
ghost-give_turn g a = ([], [])
