use Rattle.std.proofs.Common.{rules, Some}
use Rattle.pm3_types.specs.PageForm.{IsReferenceIn}
use Rattle.pm3_txn.proofs.Named.{place_top}
use Rattle.pm3_txn.proofs.frontiers.above_place.Goals as goal

pub returns : goal.returns
returns c =
    let reference : IsReferenceIn (Some c.args.map) c.args.len c.args.place = search rules in
    place_top (Some c.args.map) c.args.len c.args.image.now.sheet _ c.args.place c.args.least c.field.result _ reference c.field.ensures c.above_word.ensures
