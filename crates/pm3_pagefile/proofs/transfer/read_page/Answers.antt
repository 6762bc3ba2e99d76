use Rattle.std.proofs.Common.{◌≡◌, length, arith}
use Rattle.pm3_pagefile.proofs.Pieces.{padded-take, part_given}
use Rattle.pm3_pagefile.proofs.transfer.read_page.Goals as goal

pub returns-clause-zeros : goal.returns-clause-zeros
returns-clause-zeros g c = padded-take c.in-Ok.count c.read_at.new.out c.clear_behind.new.page c.in-Ok.ensures.bound c.clear_behind.ensures

pub returns-clause-bytes : goal.returns-clause-bytes
returns-clause-bytes g c =
    let size : length c.read_at.new.out ≡ 4096 = omega arith in
    λ bytes told. part_given bytes c.read_at.new.out c.clear_behind.new.page c.args.page c.from.result c.in-Ok.count c.from.ensures size c.in-Ok.ensures.bound (c.in-Ok.ensures.bytes bytes told) c.clear_behind.ensures
