use Rattle.std.proofs.Common.{sym, subst, arith}
use Rattle.std.specs.FinMap as map
use Rattle.pm3_copy.proofs.Freeing.{AreFreed, freed_none, freed_more, freed_all}
use Rattle.pm3_copy.proofs.planning.unpinned.Goals as goal

pub loop-page-init : goal.loop-page-init
loop-page-init c = record {
  freed = subst (AreFreed (map.contains_key c.args.images.now.images) c.args.pinned.now 0) (sym c.new-freed.ensures) (freed_none (map.contains_key c.args.images.now.images) c.args.pinned.now);
  low = omega arith;
}

pub loop-page-preserved : goal.loop-page-preserved
loop-page-preserved c =
    let low = c.in-Some.ensures.within in
    record {
      freed = freed_more (map.contains_key c.args.images.now.images) c.args.pinned.now c.loop-page.freed c.free.new.freed c.loop-page.from c.in-Some.page c.loop-page.invariant.freed
          c.in-Some.ensures.next.reached c.in-Some.ensures.next.there c.in-Some.ensures.next.least c.in_ok-free.ensures;
      low = omega arith;
    }

pub returns : goal.returns
returns c = freed_all (map.contains_key c.args.images.now.images) c.args.pinned.now c.loop-page.freed c.loop-page.from c.loop-page.invariant.freed c.in_default.ensures.next
