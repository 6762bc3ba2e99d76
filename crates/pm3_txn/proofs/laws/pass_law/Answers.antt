use Rattle.pm3_txn.proofs.PassFollows.{passes_follow}
use Rattle.pm3_txn.proofs.PassPages.{space_pages_may_go}
use Rattle.pm3_txn.proofs.laws.pass_law.Goals as goal

pub returns : goal.returns
returns c = record {
  follows = passes_follow c.carried_law.ensures.fits c.carried_law.ensures.only c.carried_law.ensures.roots c.quiet_law.ensures.others;
  pages = space_pages_may_go;
}
