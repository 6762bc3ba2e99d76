use Rattle.std.proofs.Common.{◌≡◌, rules}
use Rattle.std.specs.FinMap as map
use Rattle.pm3_page.specs.PageMap.{Images}
use Rattle.pm3_core.specs.declared.naming.TheConstants.{BASE}
use Rattle.pm3_pagefile.proofs.Alone.{alone_images, alone_writable, nothing_there}
use Rattle.pm3_pagefile.proofs.tests.alone.Goals as goal

pub put-requires-clause-absent : goal.put-requires-clause-absent
put-requires-clause-absent c =
    let none : ◌≡◌ {A = Images} c.reserve.new.self.images map.empty = search rules in
    nothing_there c.reserve.new.self.images c.args.image.page none

pub returns : goal.returns
returns c =
    let is : c.put.new.self.images ≡ alone_images c.args.image = search rules in
    alone_writable c.args.catalog.now BASE 16 c.args.image c.put.new.self.images is c.requires.page c.requires.sound
