use Rattle.std.proofs.Common.{◌≡◌, ◌<◌, ◌+◌, ◌∙◌, inr, List, false, refl, sym, ap, arith}
use Rattle.std.specs.FinMap as map
use Rattle.pm3_page.specs.PageMap.{Images}
use Rattle.pm3_table.specs.declared.view.Deed.{Deed}
use Rattle.pm3_table.specs.Deeds.{marks_of}
use Rattle.pm3_txn.specs.PassSteps.{AreAllFresh}
use Rattle.pm3_txn.proofs.Freshness.{all_so_far, fresh_drawn, len_more, not_fresh}
use Rattle.pm3_txn.proofs.PassDraws.{drawn_both, drew_none, shortage_on}
use Rattle.pm3_txn.proofs.PassParts.{more_both, no_more_room}
use Rattle.pm3_txn.proofs.fresh.fresh_pages.Goals as goal

pub loop-alloc-init : goal.loop-alloc-init
loop-alloc-init g c = record {
  ready = c.requires.ready;
  marks = c.requires.marks;
  parts = no_more_room c.args.parted.now;
  drawn = (0, drew_none c.args.mutator.now, omega arith);
  calm = refl;
  fresh = c.in-Ok-blank_free.ensures.fresh;
  all = c.in-Ok-blank_free.ensures.enough;
  most = c.blank_free.ensures.most;
  room = (let made = c.in-Ok.ensures.room in let left = c.blank_free.ensures.room in omega (arith, made, left));
}

pub returns-in-Err-clause-parts : goal.returns-in-Err-clause-parts
returns-in-Err-clause-parts g c = more_both c.args.parted.now c.loop-alloc.parted c.draw_free.new.parted c.loop-alloc.invariant.parts c.draw_free.ensures.parts

pub returns-in-Err-clause-drawn : goal.returns-in-Err-clause-drawn
returns-in-Err-clause-drawn g c =
    let n = c.loop-alloc.invariant.drawn.0 in (
      n + 0,
      drawn_both c.args.mutator.now c.loop-alloc.mutator c.draw_free.new.mutator n 0 c.loop-alloc.invariant.drawn.1 c.in-Err.ensures.kept,
      (let few = c.loop-alloc.invariant.drawn.2 in let most = c.loop-alloc.invariant.most in omega (arith, few, most)),
    )

pub returns-in-Err-clause-refused : goal.returns-in-Err-clause-refused
returns-in-Err-clause-refused g c = shortage_on c.args.heap.now.1 c.args.mutator.now c.loop-alloc.mutator c.draw_free.new.mutator c.in-Err.cause c.loop-alloc.invariant.calm c.in-Err.ensures.refused

pub returns-in_default-blank-clause-parts : goal.returns-in_default-blank-clause-parts
returns-in_default-blank-clause-parts g c = more_both c.args.parted.now c.loop-alloc.parted c.draw_free.new.parted c.loop-alloc.invariant.parts c.draw_free.ensures.parts

pub returns-in_default-blank-clause-drawn : goal.returns-in_default-blank-clause-drawn
returns-in_default-blank-clause-drawn g c =
    let n = c.loop-alloc.invariant.drawn.0 in (
      n + 1,
      drawn_both c.args.mutator.now c.loop-alloc.mutator c.draw_free.new.mutator n 1 c.loop-alloc.invariant.drawn.1 c.in-Ok-draw_free.ensures.drawn,
      (let few = c.loop-alloc.invariant.drawn.2 in let less = c.loop-alloc-test.true in let count = c.len.ensures.count in omega (arith, few, less, count)),
    )

pub returns-in_default-blank-clause-refused : goal.returns-in_default-blank-clause-refused
returns-in_default-blank-clause-refused g c = c.in-Ok-draw_free.ensures.calm ∙ c.loop-alloc.invariant.calm

pub loop-alloc-smaller : goal.loop-alloc-smaller
loop-alloc-smaller g c =
    let none : map.contains_key c.loop-alloc.fresh.images c.in-Ok-draw_free.page ≡ false =
    not_fresh c.loop-alloc.parted.rest.space c.draw_free.new.parted.rest.space c.loop-alloc.fresh.images c.in-Ok-draw_free.page c.loop-alloc.invariant.fresh c.in-Ok-draw_free.ensures.page.0 in
    let long = len_more c.loop-alloc.fresh.images c.put.new.self.images c.in-Ok-draw_free.page c.in-Ok-blank.image c.in-Ok-blank.ensures c.put.ensures.images none in
    let less = c.loop-alloc-test.true in let count = c.len.ensures.count in omega (arith, long, less, count)

pub loop-alloc-preserved : goal.loop-alloc-preserved
loop-alloc-preserved g c =
    let n = c.loop-alloc.invariant.drawn.0 in
    let less = c.loop-alloc-test.true in let count = c.len.ensures.count in
    let few : map.len c.loop-alloc.fresh.images < c.args.wanted = omega (arith, less, count) in
    let new = c.in-Ok-draw_free.ensures.page in
    let none : map.contains_key c.loop-alloc.fresh.images c.in-Ok-draw_free.page ≡ false =
    not_fresh c.loop-alloc.parted.rest.space c.draw_free.new.parted.rest.space c.loop-alloc.fresh.images c.in-Ok-draw_free.page c.loop-alloc.invariant.fresh new.0 in
    let long = len_more c.loop-alloc.fresh.images c.put.new.self.images c.in-Ok-draw_free.page c.in-Ok-blank.image c.in-Ok-blank.ensures c.put.ensures.images none in
    let all : AreAllFresh c.loop-alloc.parted.rest.space c.loop-alloc.fresh.images = all_so_far (map.len c.loop-alloc.fresh.images) c.args.wanted c.loop-alloc.parted.rest.space c.loop-alloc.fresh.images few c.loop-alloc.invariant.all in
    let now = fresh_drawn c.loop-alloc.fresh.images c.put.new.self.images c.in-Ok-draw_free.page c.in-Ok-blank.image c.in-Ok-blank.ensures c.put.ensures.images
    c.loop-alloc.parted.rest.space c.draw_free.new.parted.rest.space new.1 new.2 new.0 c.loop-alloc.invariant.fresh all in
    let drawn = c.in-Ok-draw_free.ensures.drawn in
    record {
      ready = c.draw_free.ensures.ready;
      marks = λ p is. ap (λ (x : Images). map.contains_key x p) c.draw_free.ensures.parts.volatile ∙ c.loop-alloc.invariant.marks p (sym (ap (λ (l : List Deed). marks_of l p) drawn.log) ∙ is);
      parts = more_both c.args.parted.now c.loop-alloc.parted c.draw_free.new.parted c.loop-alloc.invariant.parts c.draw_free.ensures.parts;
      drawn = (n + 1, drawn_both c.args.mutator.now c.loop-alloc.mutator c.draw_free.new.mutator n 1 c.loop-alloc.invariant.drawn.1 drawn, (let so = c.loop-alloc.invariant.drawn.2 in omega (arith, so, long)));
      calm = c.in-Ok-draw_free.ensures.calm ∙ c.loop-alloc.invariant.calm;
      fresh = now.0;
      all = inr now.1;
      most = omega (arith, long, few);
      room = (let so = c.loop-alloc.invariant.room in let spare = c.put.ensures.spare in omega (arith, so, spare, long));
    }
