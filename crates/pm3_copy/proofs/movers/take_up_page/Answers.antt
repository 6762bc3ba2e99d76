use Rattle.std.proofs.Common.{◌≡◌, ◌<◌, ◌↔◌, ◌∙◌, ℕ, Bool, true, false, IsTrue, cond, length, get_or, sym, ap, subst, arith}
use mir.Val.{bool_byte}
use Rattle.std.specs.FinSet as set
use Rattle.std.specs.List.{Contains}
use Rattle.std.proofs.lemmas.Bool.{false≢true}
use Rattle.pm3_core.specs.declared.naming.TheConstants.{BASE}
use Rattle.pm3_types.specs.Layout.{page_in}
use Rattle.pm3_copy.specs.Spreading.{ArePassed, ArePicked, Picks}
use Rattle.pm3_copy.proofs.Passing.{passed_step, passed_skip, takes_step, takes_as}
use Rattle.pm3_copy.proofs.Picking.{picked_more, picked_skip}
use Rattle.pm3_copy.proofs.movers.take_up_page.Goals as goal

pub returns-then-has-clause-picked : goal.returns-then-has-clause-picked
returns-then-has-clause-picked c =
    let pin : set.contains c.args.pinned.now (page_in BASE (get_or c.args.found.now.objects c.args.first 0)) ≡ true =
    ap (set.contains c.args.pinned.now) (ap (page_in BASE) (sym c.object.ensures) ∙ sym c.page_of.ensures) ∙ sym c.has.ensures ∙ c.if-has.true in
    picked_skip BASE c.args.pinned.now c.args.but.now c.args.found.now c.args.first c.args.end c.args.list.now.items (omega (arith, c.requires.some))
    (λ k from below picks. false≢true (sym picks.1 ∙ ap (set.contains c.args.pinned.now) (c.requires.page k from below) ∙ pin)) c.requires.picked

pub returns-then-has-clause-passed : goal.returns-then-has-clause-passed
returns-then-has-clause-passed c =
    let pin : set.contains c.args.pinned.now (page_in BASE (get_or c.args.found.now.objects c.args.first 0)) ≡ true =
    ap (set.contains c.args.pinned.now) (ap (page_in BASE) (sym c.object.ensures) ∙ sym c.page_of.ensures) ∙ sym c.has.ensures ∙ c.if-has.true in
    passed_skip c.args.found.now.objects c.args.but.now c.args.first c.args.end c.args.before (omega (arith, c.requires.some))
    (λ k from below there. false≢true (sym (c.requires.free (get_or c.args.found.now.objects k 0) there) ∙ ap (set.contains c.args.pinned.now) (c.requires.page k from below) ∙ pin)) c.requires.passed

as_number : (b : Bool) (more : ℕ) → more ≡ bool_byte b → more ≡ cond b 1 0
as_number true more is = is
as_number false more is = is

pub loop-i-preserved : goal.loop-i-preserved
loop-i-preserved c =
    let all = c.args.found.now.objects in
    let but = c.args.but.now in
    let low : c.loop-i.i < length all = omega (arith, c.requires.there) in
    let free : set.contains c.args.pinned.now (page_in BASE (get_or all c.loop-i.i 0)) ≡ false =
    ap (set.contains c.args.pinned.now) (c.requires.page c.loop-i.i (omega arith) (omega arith) ∙ ap (page_in BASE) (sym c.object.ensures) ∙ sym c.page_of.ensures) ∙ sym c.has.ensures ∙ c.if-has.false in
    let test : IsTrue c.is_next-other.result ↔ ((c.loop-i.next < length but) × (get_or but c.loop-i.next 0 ≡ get_or all c.loop-i.i 0)) =
    subst (λ (a : ℕ). IsTrue c.is_next-other.result ↔ ((c.loop-i.next < length but) × (get_or but c.loop-i.next 0 ≡ a))) c.object-in-loop-i.ensures c.is_next-other.ensures in
    let passed = passed_step all but c.requires.all_rise c.requires.rising c.loop-i.i c.loop-i.next low c.loop-i.invariant.passed c.is_next-other.result test
    c.from-next.result (as_number c.is_next-other.result c.from-next.result c.from-next.ensures) in
    record {
      picked = picked_more BASE c.args.pinned.now but c.args.found.now c.loop-i.i c.loop-i.list.items c.take_up.new.list.items c.requires.all_rise low
          (takes_as (Contains c.args.found.now.list (get_or all c.loop-i.i 0) × (Contains but (get_or all c.loop-i.i 0) → ⊥))
          (Picks BASE c.args.pinned.now but c.args.found.now (get_or all c.loop-i.i 0)) (get_or all c.loop-i.i 0) c.loop-i.list.items c.take_up.new.list.items
          (λ p. (p.0, free, p.1)) (λ p. (p.0, p.2))
          (takes_step all but c.requires.all_rise c.requires.rising c.loop-i.i c.loop-i.next low c.loop-i.invariant.passed c.is_next-other.result test
          (Contains c.args.found.now.list (get_or all c.loop-i.i 0)) c.loop-i.list.items c.take_up.new.list.items c.in_ok-take_up.ensures))
          c.loop-i.invariant.picked;
      passed = passed;
    }

pub returns-clause-passed : goal.returns-clause-passed
returns-clause-passed c =
    let end : c.loop-i.i ≡ c.args.end = omega (arith, c.requires.some) in
    subst (λ (n : ℕ). ArePassed c.args.found.now.objects c.args.but.now n c.loop-i.next) end c.loop-i.invariant.passed

pub returns-clause-picked : goal.returns-clause-picked
returns-clause-picked c =
    let end : c.loop-i.i ≡ c.args.end = omega (arith, c.requires.some) in
    subst (λ (n : ℕ). ArePicked BASE c.args.pinned.now c.args.but.now c.args.found.now n c.loop-i.list.items) end c.loop-i.invariant.picked
