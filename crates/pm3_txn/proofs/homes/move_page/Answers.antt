use Rattle.pm3_txn.proofs.Filling.{others_left}
use Rattle.pm3_txn.proofs.homes.move_page.Goals as goal

pub returns-in_default-clause-others : goal.returns-in_default-clause-others
returns-in_default-clause-others g c = others_left c.take.new.self.images c.args.images.now.images c.args.page c.take.ensures.images

pub returns-clause-others : goal.returns-clause-others
returns-clause-others g c = others_left c.take.new.self.images c.args.images.now.images c.args.page c.take.ensures.images
