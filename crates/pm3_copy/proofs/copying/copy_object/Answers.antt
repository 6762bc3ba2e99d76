use Rattle.pm3_core.specs.declared.naming.TheConstants.{BASE}
use Rattle.pm3_types.specs.Layout.{word_in}
use Rattle.pm3_copy.proofs.Copies.{copy_made}
use Rattle.pm3_copy.proofs.copying.copy_object.Goals as goal

pub returns-clause-copied : goal.returns-clause-copied
returns-clause-copied c =
    (copy_made c.args.catalog.now BASE c.args.source.now (word_in BASE c.args.at) c.requires.whole c.requires.source c.args.target.now c.requires.target c.requires.page c.requires.low
    c.requires.fits c.place_copy.new.self c.size_of-size.result c.size_of-size.ensures.size c.place_copy.ensures.placed).0

pub returns-clause-sound : goal.returns-clause-sound
returns-clause-sound c =
    (copy_made c.args.catalog.now BASE c.args.source.now (word_in BASE c.args.at) c.requires.whole c.requires.source c.args.target.now c.requires.target c.requires.page c.requires.low
    c.requires.fits c.place_copy.new.self c.size_of-size.result c.size_of-size.ensures.size c.place_copy.ensures.placed).1
