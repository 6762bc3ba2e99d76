use Rattle.std.proofs.Common.{rules, ◌≡◌, ◌∙◌, refl, sym, ap, subst}
use Rattle.pm3_table.specs.declared.view.Told.{Told}
use Rattle.pm3_table.specs.declared.view.View.{View}
use Rattle.pm3_table.specs.Seats.{IsBlank, both_views}
use Rattle.pm3_table.specs.Starting.{told_of}
use Rattle.pm3_table.proofs.Asked.{none_carried}
use Rattle.pm3_table.proofs.RowCalls.{recall_call}
use Rattle.pm3_table.proofs.SeatCalls.{join_call}
use Rattle.pm3_table.proofs.seats.join_at.Goals as goal

pub join_seat-requires : goal.join_seat-requires
join_seat-requires g c = let key = c.shared.inside.table.shared.key in let v = g.V.Chronicle in
    let t : Told = told_of v.opening key.pages key.frontier key.next_name key.turn.value in
    let me = c.pass.inside.seat.me in
    let x = c.other.inside.seat.me in
    let blank : IsBlank x.0 = subst (λ p. IsBlank p.1) (sym c.other.view_is) c.requires.blank in (
      search rules,
      search rules,
      none_carried x.0.holds x.1 blank.holds c.other.invariant.carries,
      search rules,
      join_call v.stands v.spans v.counted t _ me.0 c.pass.invariant.live _ x.0 c.other.invariant.live blank c.other.invariant.drawing c.other.invariant.rows,
    )

pub load-requires : goal.load-requires
load-requires g c = let key = c.shared.inside.table.shared.key in let v = g.V.Chronicle in
    let t : Told = told_of v.opening key.pages key.frontier key.next_name key.turn.value in
    let told_is : c.args.shared.now.1 ≡ t = ap (λ z. z.1) (sym c.shared.view_is) in
    let joined : c.join_seat.new.seat.me.0 ≡ both_views c.pass.inside.seat.me.0 c.other.inside.seat.me.0 = search rules in (
      search rules,
      search rules,
      recall_call v.stands v.spans v.counted t _ _ c.join_seat.new.seat.me (ap (λ (w : View). w.live) joined ∙ c.pass.invariant.live) 0 _ refl (c.requires.aim ∙ told_is),
    )
