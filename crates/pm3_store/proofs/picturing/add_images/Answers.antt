use Rattle.std.proofs.Common.{◌<◌, length, arith}
use Rattle.pm3_core.specs.declared.naming.TheConstants.{BASE}
use Rattle.pm3_store.proofs.Pictures.{first_bad, pages_rise, picture_absent, picture_more, pictures_none, pictures_whole}
use Rattle.pm3_store.proofs.picturing.add_images.Goals as goal

pub loop-index-init : goal.loop-index-init
loop-index-init g c = record {
  pictures = pictures_none c.args.catalog.now BASE c.args.journal.now.pages c.args.items.now.items c.args.images.now.images c.requires.none;
  room = omega (arith, c.requires.room);
}

pub put-requires-clause-room : goal.put-requires-clause-room
put-requires-clause-room g c =
    let low : c.loop-index.index < length c.args.items.now.items = omega (arith, c.len-index-end.ensures.len) in
    let rise = pages_rise c.args.items.now.items c.len-index-end.ensures.rising (λ i below. (c.requires.within i below).0) c.loop-index.index low in
    let high = (c.requires.within c.loop-index.index low).1 in
    let room = c.loop-index.invariant.room in
    omega (arith, rise, high, room)

pub put-requires-clause-absent : goal.put-requires-clause-absent
put-requires-clause-absent g c =
    let low : c.loop-index.index < length c.args.items.now.items = omega (arith, c.len-index-end.ensures.len) in
    picture_absent c.args.catalog.now BASE c.args.journal.now.pages c.args.items.now.items c.loop-index.index c.loop-index.images.images c.len-index-end.ensures.rising low c.loop-index.invariant.pictures
    c.in-Ok.image.page c.in-Ok.ensures.page

pub returns-in-Err-clause-first : goal.returns-in-Err-clause-first
returns-in-Err-clause-first g c =
    let low : c.loop-index.index < length c.args.items.now.items = omega (arith, c.len-index-end.ensures.len) in
    first_bad c.args.catalog.now BASE c.args.journal.now.pages c.args.items.now.items c.args.journal.now.offsets c.loop-index.index c.loop-index.images.images c.in-Err.cause c.len-index-end.ensures.rising low
    c.loop-index.invariant.pictures c.in-Err.ensures.bad

pub loop-index-preserved : goal.loop-index-preserved
loop-index-preserved g c =
    let low : c.loop-index.index < length c.args.items.now.items = omega (arith, c.len-index-end.ensures.len) in
    let room = c.loop-index.invariant.room in
    let spare = c.put.ensures.spare in
    record {
      pictures = picture_more c.args.catalog.now BASE c.args.journal.now.pages c.args.items.now.items c.loop-index.index c.loop-index.images.images c.len-index-end.ensures.rising low c.loop-index.invariant.pictures
          c.in-Ok.image c.in-Ok.ensures.page c.in-Ok.ensures.read c.in-Ok.ensures.same c.in-Ok.ensures.sound c.put.new.self.images c.put.ensures.images;
      room = omega (arith, room, spare);
    }

pub returns-clause-pictures : goal.returns-clause-pictures
returns-clause-pictures g c =
    pictures_whole c.args.catalog.now BASE c.args.journal.now.pages c.args.items.now.items c.loop-index.index c.loop-index.images.images (omega (arith, c.len-index-end.ensures.len)) c.loop-index.invariant.pictures
