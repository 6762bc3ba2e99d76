use Rattle.std.proofs.Common.{arith, lit<}
use Rattle.pm3_core.specs.declared.naming.TheConstants.{BASE}
use Rattle.pm3_copy.proofs.Collecting.{added_none, added_more}
use Rattle.pm3_types.proofs.FormedObjects.{address_of, page_is}
use Rattle.pm3_copy.proofs.Wholes.{below_page}
use Rattle.pm3_copy.proofs.objects.add_objects.Goals as goal

pub loop-next-init : goal.loop-next-init
loop-next-init c = added_none BASE c.args.image.now c.args.list.now.items (lit< tt)

pub loop-next-smaller : goal.loop-next-smaller
loop-next-smaller c =
    let high = below_page BASE c.in-Some.next (address_of BASE c.args.image.now c.in-Some.next c.in-Some.ensures.1) in
    let page = page_is BASE c.args.image.now c.in-Some.next c.in-Some.ensures.1 in
    let more = c.in-Some.ensures.0 in
    omega (arith, high, page, more)

pub loop-next-preserved : goal.loop-next-preserved
loop-next-preserved c =
    added_more BASE c.args.image.now c.loop-next.at c.in-Some.next c.args.list.now.items c.loop-next.list.items c.push.new.self.items c.loop-next.invariant c.in-Some.ensures.0 c.in-Some.ensures.1
    c.in-Some.ensures.2 c.in-Ok.ensures.items
