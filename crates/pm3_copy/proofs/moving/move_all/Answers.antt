use Rattle.std.proofs.Common.{◌≡◌, ◌<◌, ◌+◌, ◌∷◌, ◌∙◌, ℕ, List, [], length, map, drop, get_or, refl, ap, sym, subst, arith, rules, length-append}
use Rattle.std.proofs.lemmas.List.{get_or_default}
use Rattle.pm3_core.specs.declared.naming.TheConstants.{BASE}
use Rattle.pm3_types.specs.Layout.{address}
use Rattle.pm3_types.specs.PassMoves.{size_from}
use Rattle.pm3_page.specs.PageSheets.{sheets_of}
use Rattle.pm3_copy.specs.declared.moving.Spot.{Spot}
use Rattle.pm3_copy.specs.Moving.{AreCopied}
use Rattle.pm3_copy.proofs.MoveSteps as steps
use Rattle.pm3_copy.proofs.Moves.{copied_none, copied_more}
use Rattle.pm3_copy.proofs.Spots.{AreSettling}
use Rattle.pm3_copy.proofs.moving.move_all.Goals as goal

pub loop-i-init : goal.loop-i-init
loop-i-init c = record {
  olds = c.begin-table.ensures.olds;
  count = ap (λ (xs : List ℕ). length xs) c.begin-table.ensures.news;
  room = c.begin-table.ensures.room;
  sound = c.requires.fresh;
  spot = λ less. absurd (omega arith);
  within = omega arith;
  low = c.requires.low;
  copied = subst (λ xs. AreCopied c.args.catalog.now BASE c.args.volatile.now.images c.args.leaving xs c.args.fresh.now.images c.args.fresh.now.images) (sym c.begin-table.ensures.news)
      (copied_none c.args.catalog.now BASE c.args.volatile.now.images c.args.leaving c.args.fresh.now.images);
  settling = λ pages more next long. (let f : ℕ → ℕ = size_from c.args.catalog.now BASE (sheets_of c.args.volatile.now.images) in
      subst (λ xs. AreSettling BASE (map f c.args.leaving) pages more c.args.after c.args.fresh.now.images (map f c.args.leaving) xs c.args.after 512) (sym c.begin-table.ensures.news)
      (steps.settling_none BASE (map f c.args.leaving) pages more c.args.after c.args.fresh.now.images next long
      (steps.some_words c.args.catalog.now BASE c.args.volatile.now.images c.args.leaving c.requires.volatile c.requires.objects)));
  before = λ p below. refl;
}

pub copy_to-to-requires-clause-target : goal.copy_to-to-requires-clause-target
copy_to-to-requires-clause-target c =
    let f : ℕ → ℕ = size_from c.args.catalog.now BASE (sheets_of c.args.volatile.now.images) in
    let low : c.loop-i.i < length c.args.leaving = search rules in
    let at : c.index-at.result.now ≡ get_or c.args.leaving c.loop-i.i 0 =
    c.index-at.ensures ∙ get_or_default c.loop-i.table.olds.items c.loop-i.i c.index-at.result.now 0 (search rules) ∙ ap (λ xs. get_or xs c.loop-i.i 0) c.loop-i.invariant.olds in
    let found = steps.spot_found BASE f c.args.leaving c.args.after c.args.fresh.now.images c.loop-i.fresh.images c.loop-i.table.news.items c.loop-i.spot.page c.loop-i.spot.end c.loop-i.i c.size_at-words.result low
    (c.size_at-words.ensures.size ∙ ap f at) c.size_at-words.ensures.bounds.0 c.size_at-words.ensures.bounds.1 c.loop-i.invariant.settling c.loop-i.invariant.spot c.requires.room.0 c.requires.room.1
    c.requires.room.2 c.requires.room.3 c.room_for-spot.result.page c.room_for-spot.result.end
    (λ fits. (ap (λ (s : Spot). s.page) (c.room_for-spot.ensures.same fits), ap (λ (s : Spot). s.end) (c.room_for-spot.ensures.same fits)))
    (λ high. (c.room_for-spot.ensures.next high, c.room_for-spot.ensures.begins high)) in
    (found.0.0, found.0.1, λ e. omega (arith, e, found.0.3), omega (arith, found.1, found.0.2, c.size_at-words.ensures.size))

pub loop-i-preserved : goal.loop-i-preserved
loop-i-preserved c =
    let f : ℕ → ℕ = size_from c.args.catalog.now BASE (sheets_of c.args.volatile.now.images) in
    let low : c.loop-i.i < length c.args.leaving = search rules in
    let at : c.index-at.result.now ≡ get_or c.args.leaving c.loop-i.i 0 =
    c.index-at.ensures ∙ get_or_default c.loop-i.table.olds.items c.loop-i.i c.index-at.result.now 0 (search rules) ∙ ap (λ xs. get_or xs c.loop-i.i 0) c.loop-i.invariant.olds in
    let size = c.size_at-words.ensures.size ∙ ap f at in
    let two = c.size_at-words.ensures.bounds.0 in
    let most = c.size_at-words.ensures.bounds.1 in
    let found = steps.spot_found BASE f c.args.leaving c.args.after c.args.fresh.now.images c.loop-i.fresh.images c.loop-i.table.news.items c.loop-i.spot.page c.loop-i.spot.end c.loop-i.i c.size_at-words.result low
    size two most c.loop-i.invariant.settling c.loop-i.invariant.spot c.requires.room.0 c.requires.room.1
    c.requires.room.2 c.requires.room.3 c.room_for-spot.result.page c.room_for-spot.result.end
    (λ fits. (ap (λ (s : Spot). s.page) (c.room_for-spot.ensures.same fits), ap (λ (s : Spot). s.end) (c.room_for-spot.ensures.same fits)))
    (λ high. (c.room_for-spot.ensures.next high, c.room_for-spot.ensures.begins high)) in
    let step = c.copy_to-to.ensures.copied in
    let page = c.room_for-spot.result.page in
    let ends = steps.ends_at c.args.catalog.now BASE c.args.volatile.now.images c.index-at.result.now page c.room_for-spot.result.end c.loop-i.fresh.images c.copy_to-to.new.fresh.images step found.0 in
    let words = steps.size_here c.args.catalog.now BASE c.args.volatile.now.images c.index-at.result.now step.source step.on in
    let to = c.copy_to-to.ensures.at step.target step.was in
    let items = c.in-Ok.ensures.items in
    let long = length-append c.loop-i.table.news.items (c.copy_to-to.result ∷ []) in
    record {
      olds = c.loop-i.invariant.olds;
      count = omega (arith, ap (λ (xs : List ℕ). length xs) items, long, c.loop-i.invariant.count);
      room = omega (arith, c.loop-i.invariant.room, c.in-Ok.ensures.capacity);
      sound = c.copy_to-to.ensures.sound;
      spot = λ less. steps.spot_more c.args.catalog.now BASE c.args.volatile.now.images c.index-at.result.now page c.room_for-spot.result.end c.size_at-words.result c.loop-i.fresh.images c.copy_to-to.new.fresh.images step
          found.0 c.size_at-words.ensures.size;
      within = found.1;
      low = c.room_for-spot.ensures.low;
      copied = subst (λ xs. AreCopied c.args.catalog.now BASE c.args.volatile.now.images c.args.leaving xs c.args.fresh.now.images c.copy_to-to.new.fresh.images) (sym items)
          (copied_more c.args.catalog.now BASE c.args.volatile.now.images c.requires.volatile c.args.leaving c.loop-i.table.news.items c.args.fresh.now.images c.loop-i.fresh.images c.copy_to-to.new.fresh.images
          c.loop-i.invariant.sound c.index-at.result.now page c.copy_to-to.result step found.0.3 (omega (arith, ends, found.0.4)) (omega (arith, ends, found.1, words, c.size_at-words.ensures.size)) to
          c.loop-i.invariant.copied (at ∙ ap (λ k. get_or c.args.leaving k 0) (sym c.loop-i.invariant.count)));
      settling = λ pages more next reach.
          subst (λ xs. AreSettling BASE (map f c.args.leaving) pages more c.args.after c.copy_to-to.new.fresh.images (map f (drop (c.loop-i.i + 1) c.args.leaving)) xs page (c.room_for-spot.result.end + c.size_at-words.result)) (sym items)
          (steps.settled_more BASE f c.args.leaving c.args.after c.args.fresh.now.images c.loop-i.fresh.images c.loop-i.table.news.items page c.room_for-spot.result.end c.loop-i.i c.size_at-words.result low size two most
          c.copy_to-to.new.fresh.images c.copy_to-to.result found.3 found.1 (to ∙ ap (address BASE page) ends) step.others pages more next reach);
      before = λ p below. step.others p (λ e. omega (arith, e, found.2)) ∙ c.loop-i.invariant.before p below;
    }

pub returns-clause-settled : goal.returns-clause-settled
returns-clause-settled c pages more next long =
    steps.settled_all c.args.catalog.now BASE c.args.volatile.now.images c.args.leaving pages more c.args.after c.loop-i.fresh.images c.loop-i.table.news.items c.loop-i.spot.page c.loop-i.spot.end c.loop-i.i (search rules)
    (c.loop-i.invariant.settling pages more next long)
