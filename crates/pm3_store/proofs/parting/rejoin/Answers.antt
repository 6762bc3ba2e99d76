use Rattle.std.proofs.Common.{◌<◌, arith}
use Rattle.std.specs.FinMap as map
use Rattle.pm3_store.proofs.Moving.{is_there, len_some, joined_more, moved_at, moved_room_back, still_home}
use Rattle.pm3_store.proofs.parting.rejoin.Goals as goal

pub move_image-requires-clause-room : goal.move_image-requires-clause-room
move_image-requires-clause-room c =
    let there = is_there (map.get c.loop-page.others.images c.in-Some.page) c.in-Some.ensures.next.there in
    let some : 0 < map.len c.loop-page.others.images = len_some c.loop-page.others.images c.in-Some.page there.0 there.1 in
    let room = c.loop-page.invariant.room in
    omega arith

pub loop-page-preserved : goal.loop-page-preserved
loop-page-preserved c =
    let below = c.in-Some.ensures.within in
    let moved = c.move_image.ensures in
    record {
      joined = joined_more c.args.images.now.images c.args.others.now.images c.loop-page.images.images c.loop-page.others.images c.loop-page.start c.loop-page.invariant.joined
          c.in-Some.page c.move_image.new.to.images c.move_image.new.from.images c.in-Some.ensures.next
          (moved_at c.in-Some.page c.loop-page.others c.loop-page.images c.move_image.new.from c.move_image.new.to moved);
      at_home = still_home c.in-Some.page c.loop-page.others c.loop-page.images c.move_image.new.from c.move_image.new.to moved c.loop-page.invariant.at_home;
      room = moved_room_back c.in-Some.page c.loop-page.others c.loop-page.images c.move_image.new.from c.move_image.new.to moved c.loop-page.invariant.room;
      low = omega arith;
    }
