use Rattle.std.proofs.Common.{◌≡◌, rules, arith, ap, ◌∙◌}
use Rattle.std.specs.Int.{w32, w64, to_le_bytes}
use Rattle.pm3_pagefile.specs.HeadForm.{kind}
use Rattle.pm3_pagefile.proofs.HeadBytes.{page_from}
use Rattle.pm3_pagefile.proofs.head.decode.Goals as goal

pub returns-clause-read : goal.returns-clause-read
returns-clause-read c =
    let kind_is : kind ≡ c.in_ok-long.field-0 = omega (arith, c.in_ok-long.ensures.bounds) in
    let version : 1 ≡ c.in_ok-short.field-0 = omega (arith, c.in_ok-short.ensures.bounds) in
    let gap : 0 ≡ c.in_ok-short-2.field-0 = omega (arith, c.in_ok-short-2.ensures.bounds) in (
      search rules,
      page_from _ c.args.bytes.now c.requires.size (record {
        kind_is = ap (to_le_bytes w64) kind_is ∙ c.in_ok-long.ensures.bytes;
        version = ap (to_le_bytes w32) version ∙ c.in_ok-short.ensures.bytes;
        pages = c.in_ok-pages.ensures.bytes;
        high_page = c.in_ok-high_page.ensures.bytes;
        gap = ap (to_le_bytes w32) gap ∙ c.in_ok-short-2.ensures.bytes;
        next_name = c.in_ok-next_name.ensures.bytes;
        next_seq = c.in_ok-next_seq.ensures.bytes;
      }) c.in_ok-zeros.ensures.tested,
    )
