use Rattle.std.proofs.Common.{◌≡◌, Some, arith}
use Rattle.pm3_types.specs.CatalogForm.{departure}
use Rattle.pm3_pagefile.proofs.CatalogFields.{departs_near}
use Rattle.pm3_pagefile.proofs.catalogs.decode.Goals as goal

pub damaged-requires-in-Err-Damaged : goal.damaged-requires-in-Err-Damaged
damaged-requires-in-Err-Damaged c =
    let departs : departure c.args.page.now ≡ Some c.in-Err-Damaged.offset = rw c.in-Err-Damaged.field-0-is at c.in-Err-Damaged.ensures.fault in
    omega (arith, departs_near c.args.page.now c.in-Err-Damaged.offset departs)
