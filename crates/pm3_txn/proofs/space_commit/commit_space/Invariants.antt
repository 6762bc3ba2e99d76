use Rattle.std.specs.Prelude.{[]}
use Rattle.pm3_txn.proofs.space_commit.commit_space.Given as goal

abbrev pub ghost-carried : goal.ghost-carried
ghost-carried g a = (a.parted, a.prepared)

abbrev pub ghost-give_back : goal.ghost-give_back
ghost-give_back g a = ([], [])
