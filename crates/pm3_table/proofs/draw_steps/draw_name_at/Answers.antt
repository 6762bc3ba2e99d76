use Rattle.std.proofs.Common.{rules, ◌≡◌, ◌<◌, sym, ap, ◌∙◌, subst, arith}
use Rattle.pm3_table.specs.declared.view.Told.{Told}
use Rattle.pm3_table.specs.Ops.{begins_draw}
use Rattle.pm3_table.specs.Starting.{told_of}
use Rattle.pm3_table.specs.Telling.{limit}
use Rattle.pm3_table.proofs.DrawCalls.{count_call, fetch_name_call}
use Rattle.pm3_table.proofs.draw_steps.draw_name_at.Goals as goal

pub load-seen-requires : goal.load-seen-requires
load-seen-requires g c = let key = c.shared.inside.table.shared.key in let v = g.V.Chronicle in let laws = g.met.V.Chronicle in
    let t : Told = told_of v.opening key.pages key.frontier key.next_name key.turn.value in
    let me = c.pass.inside.seat.me in
    let told_is : c.args.shared.now.1 ≡ t = ap (λ z. z.1) (sym c.shared.view_is) in (
      search rules,
      search rules,
      count_call v.stands v.spans v.counted t (subst (λ p. p < 16385) c.shared.invariant.pages_are c.shared.invariant.small) _ _ _ c.pass.invariant.live _ 1 _ (omega (arith, c.shared.invariant.pages_are)) (c.requires.aim ∙ told_is) (omega arith) c.pass.invariant.drawing,
    )

pub fetch_add-name-requires : goal.fetch_add-name-requires
fetch_add-name-requires g c = let key = c.shared.inside.table.shared.key in let v = g.V.Chronicle in let laws = g.met.V.Chronicle in
    let t : Told = told_of v.opening key.pages key.frontier key.next_name key.turn.value in
    let me = c.pass.inside.seat.me in
    let told_is : c.args.shared.now.1 ≡ t = ap (λ z. z.1) (sym c.shared.view_is) in
    let begun : c.load-seen.new.seat.me ≡ (begins_draw 1 me.0, me.1) = c.load-seen.ensures.2.1 (subst (λ (x : Told). c.load-seen.result < limit x 1) (sym (c.requires.aim ∙ told_is)) (omega (arith, c.shared.invariant.pages_are, c.if-seen-ge-NAMES.false))) in (
      search rules,
      search rules,
      fetch_name_call v.stands v.spans v.counted t (subst (λ p. p < 16385) c.shared.invariant.pages_are c.shared.invariant.small) _ _ _ (ap (λ m. m.0.live) begun ∙ c.pass.invariant.live) _ _ (omega (arith, c.shared.invariant.pages_are)) (c.requires.aim ∙ told_is) (ap (λ m. m.0.drawing) begun),
    )
