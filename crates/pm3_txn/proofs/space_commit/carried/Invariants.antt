use Rattle.pm3_txn.specs.SpaceCommits.{commit_of}
use Rattle.pm3_txn.proofs.space_commit.carried.Given as goal

abbrev pub ghost-appended : goal.ghost-appended
ghost-appended g a = commit_of a.heap.now.1 a.mutator g.before.0 g.before.1 a.parted a.entry
