use Rattle.std.proofs.Common.{rules, ◌≡◌, ◌+◌, max}
use Rattle.pm3_txn.proofs.Named.{image_top}
use Rattle.pm3_txn.proofs.frontiers.above_image.Goals as goal

pub returns : goal.returns
returns c =
    let is : c.max-top.result ≡ max c.args.least (c.args.image.now.page + 1) = search rules in
    image_top c.args.catalog.now c.args.image.now c.args.least c.max-top.result _ _ is c.above_roots-top.ensures c.above_objects.ensures
