use Rattle.std.proofs.Common.{sym, ◌∙◌}
use Rattle.pm3_types.proofs.Reading.{page_of}
use Rattle.pm3_types.proofs.page_one.decode.Goals as goal

pub returns-clause-same : goal.returns-clause-same
returns-clause-same c =
    page_of c.args.bytes.now c.in_ok-maps.maps.items c.in_ok-count.count c.in_ok-maps.ensures.count
    (sym c.split_at.ensures.front ∙ c.in_ok-count.ensures.same)
    (sym c.split_at.ensures.back ∙ c.in_ok-maps.ensures.same)
