use Rattle.pm3_txn.proofs.mutator.Mutator.give_back.Given as goal

abbrev pub ghost-give_turn : goal.ghost-give_turn
ghost-give_turn g a = g.commits
