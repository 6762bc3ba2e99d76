use Rattle.std.proofs.Common.{◌≡◌, length, arith}
use Rattle.pm3_pagefile.proofs.Replacing.{written_page, torn_steps, torn_passes}
use Rattle.pm3_pagefile.proofs.writing.write_page.Goals as goal

pub returns-in-Ok-clause-ok : goal.returns-in-Ok-clause-ok
returns-in-Ok-clause-ok g c =
    let size : length c.args.bytes.now ≡ 4096 = omega arith in
    written_page c.args.page c.from.result c.args.bytes.now _ _ c.from.ensures size c.requires c.in-Ok.ensures.written

pub returns-in-Ok-clause-crash : goal.returns-in-Ok-clause-crash
returns-in-Ok-clause-crash g c =
    let size : length c.args.bytes.now ≡ 4096 = omega arith in
    torn_passes c.args.page c.from.result c.args.bytes.now _ _ _ _ c.from.ensures size c.in-Ok.ensures.crash

pub returns-in-Err-clause-torn : goal.returns-in-Err-clause-torn
returns-in-Err-clause-torn g c =
    let size : length c.args.bytes.now ≡ 4096 = omega arith in
    torn_steps c.args.page c.from.result c.args.bytes.now _ _ c.from.ensures size c.in-Err.ensures.torn

pub returns-in-Err-clause-crash : goal.returns-in-Err-clause-crash
returns-in-Err-clause-crash g c =
    let size : length c.args.bytes.now ≡ 4096 = omega arith in
    torn_passes c.args.page c.from.result c.args.bytes.now _ _ _ _ c.from.ensures size c.in-Err.ensures.crash
