use Rattle.pm3_txn.proofs.mutator.Mutator.end_turn.Given as goal

abbrev pub ghost-give_back : goal.ghost-give_back
ghost-give_back g a = g.commits
