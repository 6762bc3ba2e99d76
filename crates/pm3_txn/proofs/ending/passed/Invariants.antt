use Rattle.pm3_txn.proofs.ending.passed.Given as goal

abbrev pub ghost-end_pass : goal.ghost-end_pass
ghost-end_pass g a = g.commit
