use Rattle.pm3_txn.specs.Committing.{failed_by}
use Rattle.pm3_txn.proofs.space_commit.appended.Given as goal

abbrev pub ghost-passed : goal.ghost-passed
ghost-passed g a = g.commit

abbrev pub ghost-pass_failed : goal.ghost-pass_failed
ghost-pass_failed g a = failed_by a._fault g.commit
