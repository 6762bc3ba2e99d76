use Rattle.std.proofs.Common.{ap, ◌∙◌}
use Rattle.pm3_types.specs.Dump.{dump}
use Rattle.oo7_dump.proofs.Showing.{dumps_shown}
use Rattle.oo7_dump.proofs.laws.dumps_by_address.Goals as goal

pub returns : goal.returns
returns c = λ base file journal g positive o count enough.
    ap (dump o.catalog) o.graph ∙ dumps_shown o.catalog base o.book o.images positive o.reached.fits o.reached.only count enough
