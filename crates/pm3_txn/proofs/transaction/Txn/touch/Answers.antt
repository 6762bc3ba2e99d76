use Rattle.std.specs.Prelude.{◌≡◌, None}
use Rattle.std.proofs.Common.{rules}
use Rattle.pm3_access.specs.Holding.{image_in}
use Rattle.pm3_txn.proofs.transaction.Txn.touch.Goals as goal

pub take_page-requires-clause-home : goal.take_page-requires-clause-home
take_page-requires-clause-home g c =
    let absent : image_in c.args.self.now.held c.args.page ≡ None = (search rules) in
    c.requires.home absent
