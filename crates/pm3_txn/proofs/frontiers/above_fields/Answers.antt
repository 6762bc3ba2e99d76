use Rattle.std.proofs.Common.{rules, ◌≡◌, Some}
use Rattle.pm3_core.specs.declared.naming.TheConstants.{BASE}
use Rattle.pm3_types.specs.Layout.{word_in}
use Rattle.pm3_types.specs.PageForm.{map_at, tail_at}
use Rattle.pm3_txn.proofs.Named.{object_top}
use Rattle.pm3_txn.proofs.frontiers.above_fields.Goals as goal

pub returns : goal.returns
returns c =
    let map_is : Some c.in-Some.map ≡ map_at c.args.catalog.now c.args.image.now.sheet (word_in BASE c.args.at) = search rules in
    let len_is : c.tail_len-len.result ≡ tail_at c.args.image.now.sheet (word_in BASE c.args.at) = c.tail_len-len.ensures in
    object_top c.args.catalog.now c.args.image.now.sheet (word_in BASE c.args.at) (Some c.in-Some.map) c.tail_len-len.result c.args.least _ c.requires.whole.begins map_is len_is c.above_places.ensures
