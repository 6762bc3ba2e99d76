use Rattle.pm3_table_trials.proofs.turns.give_with_nothing.Goals as goal

pub give_turn-requires : goal.give_turn-requires
give_turn-requires g c κs within = (within, (c.requires.of, (c.requires.turn, (c.requires.good, (c.requires.heard, c.requires.may)))))
