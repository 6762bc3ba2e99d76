use Rattle.std.proofs.Common.{◌-◌, ◌/◌, arith}
use Rattle.pm3_core.specs.declared.naming.TheConstants.{BASE}
use Rattle.pm3_types.specs.Layout.{page_in}
use Rattle.pm3_types.proofs.Addressing.{above_base}
use Rattle.oo7_dump.proofs.addresses.page_of.Goals as goal

pub unreachable-requires : goal.unreachable-requires
unfolding page_in
unreachable-requires c =
    let above = above_base BASE c.args.at c.requires.address in
    let page = (c.args.at - BASE) / 4096 in
    c.in-None.ensures page (c.requires.low, omega arith, omega arith)
