use Rattle.std.proofs.Common.{rules, ◌≡◌, Some}
use Rattle.std.specs.FinMap.{get}
use Rattle.pm3_txn.proofs.Named.{page_top}
use Rattle.pm3_txn.proofs.frontiers.above_page.Goals as goal

pub returns : goal.returns
returns c =
    let there : get c.args.images.now.images c.args.page ≡ Some c.in-Some.image.now = search rules in
    page_top c.args.catalog.now c.args.images.now.images c.args.page c.in-Some.image.now c.args.least c.above_image.result there c.above_image.ensures
