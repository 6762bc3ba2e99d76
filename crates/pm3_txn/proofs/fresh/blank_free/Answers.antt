use Rattle.std.proofs.Common.{◌≡◌, ◌∙◌, false, ap, arith}
use Rattle.std.specs.FinMap as map
use Rattle.std.specs.FinMap.{len-empty}
use Rattle.std.specs.Ordering.{nat_cmp}
use Rattle.pm3_types.specs.Layout.{PageImage}
use Rattle.pm3_page.specs.Next.{IsLeast}
use Rattle.pm3_txn.specs.PassSteps.{is_free}
use Rattle.pm3_txn.proofs.Freshness.{len_more, more_to, next_of, none_to, not_in}
use Rattle.pm3_txn.proofs.fresh.blank_free.Goals as goal

pub loop-alloc-init : goal.loop-alloc-init
loop-alloc-init c =
    let none : map.len c.args.fresh.now.images ≡ 0 = ap map.len c.requires.none ∙ len-empty nat_cmp PageImage in
    record {
      to = none_to c.args.parted.now.rest.space c.args.fresh.now.images c.requires.none;
      room = omega (arith, none);
      most = omega (arith, none);
      low = omega arith;
    }

pub blank-requires-clause-low : goal.blank-requires-clause-low
blank-requires-clause-low c = (c.requires.low c.in-Some.page (next_of c.args.parted.now.rest.space c.loop-alloc.from c.in-Some.page c.in-Some.ensures).there).0

pub blank-requires-clause-high : goal.blank-requires-clause-high
blank-requires-clause-high c = (c.requires.low c.in-Some.page (next_of c.args.parted.now.rest.space c.loop-alloc.from c.in-Some.page c.in-Some.ensures).there).1

pub loop-alloc-preserved : goal.loop-alloc-preserved
loop-alloc-preserved c =
    let next : IsLeast (is_free c.args.parted.now.rest.space) c.loop-alloc.from c.in-Some.page = next_of c.args.parted.now.rest.space c.loop-alloc.from c.in-Some.page c.in-Some.ensures in
    let low = c.requires.low c.in-Some.page next.there in
    let none : map.contains_key c.loop-alloc.fresh.images c.in-Some.page ≡ false = not_in c.args.parted.now.rest.space c.loop-alloc.fresh.images c.loop-alloc.from c.in-Some.page next.reached c.loop-alloc.invariant.to in
    let long = len_more c.loop-alloc.fresh.images c.put.new.self.images c.in-Some.page c.in-Ok.image c.in-Ok.ensures c.put.ensures.images none in
    record {
      to = more_to c.loop-alloc.fresh.images c.put.new.self.images c.in-Some.page c.in-Ok.image c.in-Ok.ensures c.put.ensures.images c.args.parted.now.rest.space c.loop-alloc.from low.0 low.1 next c.loop-alloc.invariant.to;
      room = (let before = c.loop-alloc.invariant.room in let less = c.put.ensures.spare in omega (arith, long, before, less));
      most = (let less = c.loop-alloc-test.true in let count = c.len.ensures.count in omega (arith, long, less, count));
      low = (let high = low.1 in omega (arith, high));
    }
