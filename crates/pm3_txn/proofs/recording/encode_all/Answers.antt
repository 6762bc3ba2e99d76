use Rattle.std.proofs.Common.{◌≡◌, ◌++◌, ◌∙◌, [], ◌∷◌, Some, length, length-append, sym, ap, subst, arith}
use Rattle.std.specs.FinMap.{get}
use Rattle.std.specs.Option.{option_copied}
use Rattle.pm3_journal.specs.Pages.{AreBelow}
use Rattle.pm3_txn.proofs.Filed.{filed_all, filed_by, filed_more, items_all, items_low, items_more, items_none, items_room}
use Rattle.pm3_txn.proofs.recording.encode_all.Goals as goal

pub loop-page-init : goal.loop-page-init
loop-page-init c = record {
  items = c.requires.none ∙ sym (items_none c.args.catalog.now c.args.written.now.images);
  room = (let made = c.requires.room in let none = ap length c.requires.none in omega (arith, made, none));
  filed = λ q image low is. absurd (omega (arith, low));
  low = omega arith;
}

pub push-requires-clause-room : goal.push-requires-clause-room
push-requires-clause-room c =
    let there : get c.args.written.now.images c.in-Some.page ≡ Some c.in-Some-get.image.now = sym c.get.ensures ∙ ap option_copied c.in-Some-get.is in
    items_room c.args.catalog.now c.args.written.now.images c.loop-page.from c.in-Some.page c.loop-page.pages.room c.in-Some-get.image.now there
    c.in-Some.ensures.next.reached c.in-Some.ensures.next.least
    (let room = c.loop-page.invariant.room in let same = ap length c.loop-page.invariant.items in omega (arith, room, same))

pub push-requires-clause-above : goal.push-requires-clause-above
push-requires-clause-above c = subst (AreBelow c.in-Some.page) (sym c.loop-page.invariant.items)
    (items_low c.args.catalog.now c.args.written.now.images c.loop-page.from c.in-Some.page c.in-Some.ensures.next.reached)

pub loop-page-preserved : goal.loop-page-preserved
loop-page-preserved c =
    let there : get c.args.written.now.images c.in-Some.page ≡ Some c.in-Some-get.image.now = sym c.get.ensures ∙ ap option_copied c.in-Some-get.is in
    record {
      items = c.push.ensures.pushed ∙ (λ i. c.loop-page.invariant.items i ++ (c.in-Some.page, c.to_file.ensures.bytes i) ∷ [])
          ∙ sym (items_more c.args.catalog.now c.args.written.now.images c.loop-page.from c.in-Some.page c.in-Some-get.image.now there c.in-Some.ensures.next.reached c.in-Some.ensures.next.least);
      room = (
          let room = c.loop-page.invariant.room in let less = c.push.ensures.room in let more = ap length c.push.ensures.pushed in
          let one = length-append c.loop-page.pages.items ((c.in-Some.page, c.to_file.new.out) ∷ []) in omega (arith, room, less, more, one));
      filed = filed_more c.args.catalog.now c.args.written.now.images c.loop-page.from c.in-Some.page c.in-Some-get.image.now there
          (filed_by c.args.catalog.now c.in-Some-get.image.now c.to_file.new.out c.to_file.ensures.bytes c.to_file.array_long c.to_file.ensures.read)
          c.in-Some.ensures.next.least c.loop-page.invariant.filed;
      low = (let within = c.in-Some.ensures.within in omega (arith, within));
    }

pub returns-clause-items : goal.returns-clause-items
returns-clause-items c = c.loop-page.invariant.items ∙ items_all c.args.catalog.now c.args.written.now.images c.loop-page.from c.in_default.ensures.next

pub returns-clause-filed : goal.returns-clause-filed
returns-clause-filed c = filed_all c.args.catalog.now c.args.written.now.images c.loop-page.from c.in_default.ensures.next c.loop-page.invariant.filed
