use Rattle.std.proofs.Common.{◌≡◌, ◌+◌, ◌<◌, Some, None, sym, ap, ◌∙◌, arith}
use Rattle.std.specs.FinMap as map
use Rattle.pm3_page.specs.PageMap.{Images}
use Rattle.pm3_access.proofs.Homes.{is_some_none}
use Rattle.pm3_access.proofs.Moved.{put_none, put_more, put_whole, put_empty, len_some, len_gone, len_put}
use Rattle.pm3_access.proofs.moving.put_all.Goals as goal

pub loop-page-init : goal.loop-page-init
loop-page-init c = record { put = put_none c.args.pages.images c.args.others.images; room = c.requires.room; others_room = c.requires.others_room; low = omega arith }

pub returns : goal.returns
returns c =
    let low = c.loop-page.invariant.low in
    record {
      both = put_whole c.args.pages.images c.args.others.images c.loop-page.pages.images c.loop-page.others.images c.loop-page.from c.in_default.ensures.next c.loop-page.invariant.put;
      others = record {
        none = put_empty c.args.pages.images c.args.others.images c.loop-page.pages.images c.loop-page.others.images c.loop-page.from c.in_default.ensures.next c.loop-page.invariant.put;
        room = c.loop-page.invariant.others_room;
      };
    }

pub put-requires-clause-room : goal.put-requires-clause-room
put-requires-clause-room c =
    let some : 0 < map.len c.loop-page.others.images = len_some c.loop-page.others.images c.in-Some.page c.in-Some-take.image (sym c.in-Some-take.ensures.image) in
    let room = c.loop-page.invariant.room in
    omega arith

pub loop-page-preserved : goal.loop-page-preserved
loop-page-preserved c =
    let there : map.get c.loop-page.others.images c.in-Some.page ≡ Some c.in-Some-take.image = sym c.in-Some-take.ensures.image in
    let home : c.in-Some-take.image.page ≡ c.in-Some.page =
    c.requires.home c.in-Some.page c.in-Some-take.image (sym (c.loop-page.invariant.put.rest c.in-Some.page c.in-Some.ensures.next.reached) ∙ there) in
    let put : c.put.new.self.images ≡ map.insert c.loop-page.pages.images c.in-Some.page c.in-Some-take.image =
    c.put.ensures.images ∙ ap (λ page. map.insert c.loop-page.pages.images page c.in-Some-take.image) home in
    let short : map.len c.take.new.self.images + 1 ≡ map.len c.loop-page.others.images =
    ap (λ (m : Images). map.len m + 1) c.in-Some-take.ensures.images ∙ len_gone c.loop-page.others.images c.in-Some.page c.in-Some-take.image there in
    let spare = c.put.ensures.spare in
    let room = c.loop-page.invariant.room in
    let below = c.in-Some.ensures.within in
    let absent : map.get c.loop-page.pages.images c.in-Some.page ≡ None =
    c.loop-page.invariant.put.above c.in-Some.page c.in-Some.ensures.next.reached
    ∙ c.requires.apart c.in-Some.page (λ none. is_some_none c.in-Some-take.image (sym none ∙ sym (c.loop-page.invariant.put.rest c.in-Some.page c.in-Some.ensures.next.reached) ∙ there)) in
    let longer : map.len c.put.new.self.images ≡ map.len c.loop-page.pages.images + 1 =
    ap map.len put ∙ len_put c.loop-page.pages.images c.in-Some.page c.in-Some-take.image absent in
    let freed : c.take.new.self.spare ≡ c.loop-page.others.spare + 1 = c.in-Some-take.ensures.spare in
    let others_room = c.loop-page.invariant.others_room in
    record {
      put = put_more c.args.pages.images c.args.others.images c.loop-page.pages.images c.loop-page.others.images c.loop-page.from c.in-Some.page c.in-Some-take.image c.put.new.self.images
          c.take.new.self.images c.in-Some.ensures.next.reached c.in-Some.ensures.next.least there put c.in-Some-take.ensures.images c.loop-page.invariant.put;
      room = omega arith;
      others_room = omega arith;
      low = omega arith;
    }
