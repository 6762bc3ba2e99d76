use Rattle.std.specs.Prelude.{[]}
use Rattle.pm3_txn.proofs.ending.pass_failed.Given as goal

abbrev pub ghost-give_back : goal.ghost-give_back
ghost-give_back g a = ([], g.failed)
