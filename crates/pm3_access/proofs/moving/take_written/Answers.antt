use Rattle.std.proofs.Common.{◌<◌, arith}
use Rattle.std.specs.FinMap as map
use Rattle.pm3_access.proofs.Moved.{sorted_none, sorted_more, sorted_all, is_there, len_some}
use Rattle.pm3_access.proofs.moving.take_written.Goals as goal

pub loop-page-init : goal.loop-page-init
loop-page-init c = record { sorted = sorted_none c.args.pages.now c.args.found.now.images c.args.written.now c.requires.none c.requires.room; low = omega arith }

pub settle-requires-clause-room : goal.settle-requires-clause-room
settle-requires-clause-room c =
    let there = is_there (map.get c.loop-page.pages.images c.in-Some.page) c.in-Some.ensures.next.there in
    let some : 0 < map.len c.loop-page.pages.images = len_some c.loop-page.pages.images c.in-Some.page there.0 there.1 in
    let room = c.loop-page.invariant.sorted.room in
    omega arith

pub loop-page-preserved : goal.loop-page-preserved
loop-page-preserved c =
    let below = c.in-Some.ensures.within in
    record {
      sorted = sorted_more c.args.pages.now c.args.found.now.images c.loop-page.pages c.loop-page.written c.loop-page.from c.in-Some.page c.settle.new.pages c.settle.new.written
          c.in-Some.ensures.next.reached c.in-Some.ensures.next.least c.settle.ensures c.loop-page.invariant.sorted;
      low = omega arith;
    }

pub returns : goal.returns
returns c =
    let all = sorted_all c.args.pages.now c.args.found.now.images c.loop-page.pages c.loop-page.written c.loop-page.from c.in_default.ensures.next c.loop-page.invariant.sorted in
    record { written = all.written_so; others = all.others_so; both = all.both_so; room = all.room_so; written_room = all.written_room_so }
