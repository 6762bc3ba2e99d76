use Rattle.std.proofs.Common.{◌≡◌, ◌<◌, ◌+◌, ℕ, false, true, length, get_or, set, replicate, vec_len, sym, subst, arith, rules}
use Rattle.std.proofs.lemmas.List.Elements.{Contains-get_or}
use Rattle.pm3_core.specs.declared.naming.TheConstants.{BASE}
use Rattle.pm3_copy.proofs.Numbered.{slot_low}
use Rattle.pm3_copy.proofs.Waiting.{AreWaitingBelow, waiting_none, waiting_more, waiting_all}
use Rattle.pm3_copy.proofs.finds.wait_for.Goals as goal

pub loop-i-init : goal.loop-i-init
loop-i-init c =
    let none : c.in-Ok.waiting.items ≡ replicate c.args.blocks.now.words false = search rules in
    record { waiting = waiting_none BASE c.args.blocks.now.by_page.items c.args.blocks.now.words c.args.objects.now c.in-Ok.waiting.items none }

pub index_mut-requires : goal.index_mut-requires
index_mut-requires c =
    let low : c.loop-i.i < length c.args.objects.now = search rules in
    let there = slot_low BASE c.args.blocks.now.by_page.items c.args.blocks.now.words c.requires.blocks (get_or c.args.objects.now c.loop-i.i 0)
    (c.requires.on (get_or c.args.objects.now c.loop-i.i 0) (Contains-get_or c.args.objects.now c.loop-i.i 0 low)).1 in
    let long = c.loop-i.invariant.waiting.long in
    let len : vec_len c.loop-i.waiting ≡ length c.loop-i.waiting.items = search rules in
    let place = c.slot_of-place.ensures in
    omega arith

pub loop-i-preserved : goal.loop-i-preserved
loop-i-preserved c =
    let low : c.loop-i.i < length c.args.objects.now = search rules in
    record {
      waiting =
          subst (λ (s : ℕ). AreWaitingBelow BASE c.args.blocks.now.by_page.items c.args.blocks.now.words c.args.objects.now (c.loop-i.i + 1) (set c.loop-i.waiting.items s true)) (sym c.slot_of-place.ensures)
          (waiting_more BASE c.args.blocks.now.by_page.items c.args.blocks.now.words c.args.objects.now c.requires.blocks c.requires.on c.requires.rising c.loop-i.i c.loop-i.waiting.items low c.loop-i.invariant.waiting);
    }

pub returns-clause-waiting : goal.returns-clause-waiting
returns-clause-waiting c =
    let end : length c.args.objects.now ≡ c.loop-i.i = omega arith in
    waiting_all BASE c.args.blocks.now.by_page.items c.args.blocks.now.words c.args.objects.now c.requires.blocks c.requires.on c.requires.rising c.loop-i.i c.loop-i.waiting.items end c.loop-i.invariant.waiting

pub returns-clause-long : goal.returns-clause-long
returns-clause-long c = c.loop-i.invariant.waiting.long
