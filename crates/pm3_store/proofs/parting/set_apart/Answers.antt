use Rattle.std.proofs.Common.{◌<◌, arith}
use Rattle.std.specs.FinMap as map
use Rattle.pm3_journal.specs.Summaries.{has_page}
use Rattle.pm3_store.proofs.Moving.{is_there, len_some, parted_none, no_room_used, settled_fewer, settled_parts}
use Rattle.pm3_store.proofs.parting.set_apart.Goals as goal

pub loop-page-init : goal.loop-page-init
loop-page-init c = record {
  parted = parted_none (has_page c.args.entries.now.summaries) c.args.images.now.images c.args.others.now.images c.requires.none;
  at_home = c.requires.home;
  room = c.requires.room;
  others_room = no_room_used c.args.others.now.images c.args.images.now.spare c.requires.none;
  fewer = omega arith;
  low = omega arith;
}

pub settle-requires-clause-room : goal.settle-requires-clause-room
settle-requires-clause-room c =
    let there = is_there (map.get c.loop-page.images.images c.in-Some.page) c.in-Some.ensures.next.there in
    let some : 0 < map.len c.loop-page.images.images = len_some c.loop-page.images.images c.in-Some.page there.0 there.1 in
    let room = c.loop-page.invariant.room in
    omega arith

pub loop-page-preserved : goal.loop-page-preserved
loop-page-preserved c =
    let below = c.in-Some.ensures.within in
    let step = settled_parts (has_page c.args.entries.now.summaries) c.args.images.now.images c.loop-page.images c.loop-page.others c.settle.new.images c.settle.new.others c.loop-page.start c.in-Some.page
    c.loop-page.invariant.parted c.in-Some.ensures.next c.settle.ensures c.loop-page.invariant.at_home c.loop-page.invariant.room c.loop-page.invariant.others_room in
    let fewer = settled_fewer (has_page c.args.entries.now.summaries c.in-Some.page) c.in-Some.page c.loop-page.images c.loop-page.others c.settle.new.images c.settle.new.others c.settle.ensures in
    let so_far = c.loop-page.invariant.fewer in
    record { parted = step.parted_so; at_home = step.at_home_so; room = step.room_so; others_room = step.others_room_so; fewer = omega arith; low = omega arith }
