use Rattle.std.proofs.Common.{arith}
use Rattle.pm3_access.proofs.FreeSets.{added_none, added_more, added_all, still_room}
use Rattle.pm3_access.proofs.free_pages.FreePages.add_set.Goals as goal

pub loop-page-init : goal.loop-page-init
loop-page-init c = record { added = added_none c.args.self.now.pages c.args.self.now.room c.args.pages.now; low = omega arith }

pub add-requires : goal.add-requires
add-requires c =
    still_room c.args.self.now.pages c.args.self.now.room c.args.pages.now c.loop-page.self.pages c.loop-page.self.room c.loop-page.from c.in-Some.page c.in-Some.ensures.next.reached
    c.in-Some.ensures.next.there c.requires c.loop-page.invariant.added

pub loop-page-preserved : goal.loop-page-preserved
loop-page-preserved c =
    let below = c.in-Some.ensures.within in
    record {
      added = added_more c.args.self.now.pages c.args.self.now.room c.args.pages.now c.loop-page.self.pages c.loop-page.self.room c.loop-page.from c.in-Some.page c.add.new.self.pages
          c.add.new.self.room c.in-Some.ensures.next.reached c.in-Some.ensures.next.there c.in-Some.ensures.next.least c.add.ensures.pages c.add.ensures.room c.loop-page.invariant.added;
      low = omega arith;
    }

pub returns : goal.returns
returns c =
    let all = added_all c.args.self.now.pages c.args.self.now.room c.args.pages.now c.loop-page.self.pages c.loop-page.self.room c.loop-page.from c.in_default.ensures.next c.loop-page.invariant.added in
    record { pages = all.all; room = all.rest }
