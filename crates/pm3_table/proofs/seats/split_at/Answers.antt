use Rattle.std.proofs.Common.{rules, ◌≡◌, ℕ, ◌<◌, sym, ap, ◌∙◌, subst, arith}
use Rattle.pm3_table.specs.declared.view.Told.{Told}
use Rattle.pm3_table.proofs.SeatCalls.{split_call}
use Rattle.pm3_table.specs.Ops.{drew_row, begins_draw}
use Rattle.pm3_table.specs.Starting.{told_of}
use Rattle.pm3_table.specs.Telling.{limit}
use Rattle.pm3_table.proofs.DrawCalls.{count_call, fetch_row_call}
use Rattle.pm3_table.proofs.seats.split_at.Goals as goal

pub load-seen-requires : goal.load-seen-requires
load-seen-requires g c = let key = c.shared.inside.table.shared.key in let v = g.V.Chronicle in let laws = g.met.V.Chronicle in
    let t : Told = told_of v.opening key.pages key.frontier key.next_name key.turn.value in
    let me = c.pass.inside.seat.me in
    let told_is : c.args.shared.now.1 ≡ t = ap (λ z. z.1) (sym c.shared.view_is) in (
      search rules,
      search rules,
      count_call v.stands v.spans v.counted t (subst (λ p. p < 16385) c.shared.invariant.pages_are c.shared.invariant.small) _ _ _ c.pass.invariant.live _ 2 _ (omega (arith, c.shared.invariant.pages_are)) (c.requires.aim ∙ told_is) (omega arith) c.pass.invariant.drawing,
    )

pub fetch_add-row-requires : goal.fetch_add-row-requires
fetch_add-row-requires g c = let key = c.shared.inside.table.shared.key in let v = g.V.Chronicle in let laws = g.met.V.Chronicle in
    let t : Told = told_of v.opening key.pages key.frontier key.next_name key.turn.value in
    let me = c.pass.inside.seat.me in
    let told_is : c.args.shared.now.1 ≡ t = ap (λ z. z.1) (sym c.shared.view_is) in
    let begun : c.load-seen.new.seat.me ≡ (begins_draw 2 me.0, me.1) = c.load-seen.ensures.2.1 (subst (λ (x : Told). c.load-seen.result < limit x 2) (sym (c.requires.aim ∙ told_is)) (omega (arith, c.shared.invariant.pages_are, c.if-seen-ge32.false))) in (
      search rules,
      search rules,
      fetch_row_call v.stands v.spans v.counted t (subst (λ p. p < 16385) c.shared.invariant.pages_are c.shared.invariant.small) _ _ _ (ap (λ m. m.0.live) begun ∙ c.pass.invariant.live) _ _ (omega (arith, c.shared.invariant.pages_are)) (c.requires.aim ∙ told_is) (ap (λ m. m.0.drawing) begun),
    )

pub split_seat-seat-requires : goal.split_seat-seat-requires
split_seat-seat-requires g c = let key = c.shared.inside.table.shared.key in let v = g.V.Chronicle in let laws = g.met.V.Chronicle in
    let t : Told = told_of v.opening key.pages key.frontier key.next_name key.turn.value in
    let me = c.pass.inside.seat.me in
    let told_is : c.args.shared.now.1 ≡ t = ap (λ z. z.1) (sym c.shared.view_is) in
    let begun : c.load-seen.new.seat.me ≡ (begins_draw 2 me.0, me.1) = c.load-seen.ensures.2.1 (subst (λ (x : Told). c.load-seen.result < limit x 2) (sym (c.requires.aim ∙ told_is)) (omega (arith, c.shared.invariant.pages_are, c.if-seen-ge32.false))) in
    let n : ℕ = c.fetch_add-row.result in
    let below : n < 32 = omega (arith, c.if-row-ge32.false) in
    let drew_it : c.fetch_add-row.new.seat.me.0 ≡ drew_row me.0 n = ap (λ m. m.0) (c.fetch_add-row.ensures.2.1 below).0 ∙ ap (λ m. drew_row m.0 n) begun in (
      search rules,
      search rules,
      split_call v.stands v.spans v.counted t _ me.0 c.pass.invariant.live n c.fetch_add-row.new.seat.me.0 drew_it,
    )
