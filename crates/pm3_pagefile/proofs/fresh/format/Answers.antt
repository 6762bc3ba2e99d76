use Rattle.std.proofs.Common.{◌*◌, ◌-◌, ◌∙◌, ap}
use Rattle.pm3_types.specs.PageOne.{catalog_page, padded, zeros}
use Rattle.pm3_pagefile.specs.EmptyFile.{first_marks, roots_bytes}
use Rattle.pm3_page.specs.Head.{head_bytes, head_page}
use Rattle.pm3_pagefile.proofs.Growing.{four_pieces}
use Rattle.pm3_pagefile.proofs.fresh.format.Goals as goal

pub returns-clause-ok : goal.returns-clause-ok
returns-clause-ok g c =
    c.in_ok-sync.ensures.same
    ∙ four_pieces (head_page (first_marks c.args.pages)) (catalog_page c.args.catalog.now) (padded 4096 roots_bytes) (zeros (4096 * (c.args.pages - 3))) _ _ _ _ _ _ _ _ _
    (c.padded_page.ensures ∙ ap (padded 4096) (c.encode.ensures ∙ ap head_bytes c.marks_of.ensures)) c.encode_into.ensures c.padded_page-2.ensures
    c.in_ok-empty.ensures.ok c.in_ok-append.ensures.ok c.in_ok-append-2.ensures.ok c.in_ok-append-3.ensures.ok c.in_ok-append_free.ensures.ok
