use Rattle.std.proofs.Common.{subst, sym, arith}
use Rattle.pm3_core.specs.declared.naming.TheConstants.{BASE}
use Rattle.pm3_copy.proofs.Collecting.{AreBelow, below_none, below_more, below_all}
use Rattle.pm3_copy.proofs.objects.objects_of.Goals as goal

pub loop-page-init : goal.loop-page-init
loop-page-init c = record { objects = subst (AreBelow BASE c.args.images.now.images 0) (sym c.new-list.ensures.items) (below_none BASE c.args.images.now.images); low = omega arith }

pub loop-page-preserved : goal.loop-page-preserved
loop-page-preserved c =
    let low = c.in-Some.ensures.within in
    record {
      objects = below_more BASE c.args.images.now.images c.loop-page.from c.in-Some.page c.in-Some-get.image.now c.loop-page.list.items c.add_objects.new.list.items c.requires c.loop-page.invariant.objects
          c.in-Some.ensures.next.reached (sym c.in-Some-get.ensures) c.in-Some.ensures.next.least c.in_ok-add_objects.ensures;
      low = omega arith;
    }

pub returns : goal.returns
returns c = below_all BASE c.args.images.now.images c.loop-page.from c.loop-page.list.items c.loop-page.invariant.objects c.in_default.ensures.next
