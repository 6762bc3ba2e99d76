use Rattle.std.proofs.Common.{rules, ◌≡◌, ℕ, ◌+◌, ◌<◌, ◌≤◌, true, false, Option, None, ◌∷◌, refl, sym, ap, ◌∙◌, subst}
use Rattle.atomic_table.specs.Table.{Me, step, Allows, rest}
use mathlib.Core.Option.{none}
use Rattle.pm3_table.specs.declared.view.Told.{Told}
use Rattle.pm3_table.specs.declared.view.View.{View}
use Rattle.pm3_table.specs.Carried.{IsIdle, dropped}
use Rattle.pm3_table.specs.Deeds.{marks_of}
use Rattle.pm3_table.specs.Holds.{holds_of, spans_of, is_in}
use Rattle.pm3_table.specs.Ops.{gave}
use Rattle.pm3_table.specs.Plays as play
use Rattle.pm3_table.specs.Rule.{Ruled}
use Rattle.pm3_table.specs.Starting.{told_of}
use Rattle.pm3_table.specs.Telling.{Good, spans_in}
use Rattle.pm3_table.proofs.Asked.{within, idle_gave}
use Rattle.pm3_table.proofs.UnitCalls.{reach_call, give_call}
use Rattle.pm3_table.proofs.unit_steps.give_at.Goals as goal

pub load-requires : goal.load-requires
load-requires g c = let key = c.shared.inside.table.shared.key in let v = g.V.Chronicle in let laws = g.met.V.Chronicle in
    let t : Told = told_of v.opening key.pages key.frontier key.next_name key.turn.value in
    let me = c.pass.inside.seat.me in
    let told_is : c.args.shared.now.1 ≡ t = ap (λ z. z.1) (sym c.shared.view_is) in (
      search rules,
      search rules,
      reach_call v.stands v.spans v.counted t (laws.frame t) (laws.alike t) _ _ _ c.pass.invariant.live _ _ c.args.unit refl c.requires.aim (within _ _ me.0 t _ _ c.pass.view_is c.shared.view_is (λ (x : Told) (y : View). holds_of y.holds c.args.unit ≡ true) c.requires.unit.1) c.pass.invariant.carries,
    )

pub store-requires : goal.store-requires
store-requires g c = let key = c.shared.inside.table.shared.key in let v = g.V.Chronicle in let laws = g.met.V.Chronicle in
    let t : Told = told_of v.opening key.pages key.frontier key.next_name key.turn.value in
    let me = c.pass.inside.seat.me in
    let told_is : c.args.shared.now.1 ≡ t = ap (λ z. z.1) (sym c.shared.view_is) in
    let d = dropped c.args.unit me.1 in
    let held = within _ _ me.0 t _ _ c.pass.view_is c.shared.view_is (λ (x : Told) (y : View). holds_of y.holds c.args.unit ≡ true) c.requires.unit.1 in
    let up : c.load.new.seat.me ≡ (me.0, (c.args.unit, None) ∷ d) = subst (λ u. c.load.new.seat.me ≡ (me.0, (u, None) ∷ dropped u me.1)) c.requires.aim c.load.ensures.2 in
    let now : c.exchange-held.new.seat.me ≡ (me.0, (c.args.unit, c.args.slot) ∷ d) = c.exchange-held.ensures.3 ∙ ap (λ m. (m.0, (c.args.unit, c.args.slot) ∷ rest m.1)) up in (
      search rules,
      search rules,
      subst (λ (m : Me (Option g.row.V.Denot) View). Allows (Ruled v.stands v.spans v.counted t) c.shared.inside.table.shared.table_id.slots c.exchange-held.new.seat.id m (16384 + c.args.unit) (λ _. 0) (λ _. play.gives g.J.Aim.at (step c.shared.inside.table.shared.table_id.slots (16384 + c.args.unit) 0 0 none) m 0)) (sym now)
          (give_call v.stands v.spans v.counted t (laws.frame t) (laws.alike t) _ _ (me.0, (c.args.unit, c.args.slot) ∷ d) c.pass.invariant.live _ _ c.args.unit 0 c.args.slot refl c.requires.aim refl refl
          (within _ _ me.0 t _ _ c.pass.view_is c.shared.view_is (λ (x : Told) (y : View). c.args.unit < x.pages + 32) c.requires.unit.0) held
          (within _ _ me.0 t _ _ c.pass.view_is c.shared.view_is (λ (x : Told) (y : View). (p : ℕ) → x.pages ≤ c.args.unit → is_in p (spans_in v.spans c.args.slot) ≡ spans_of y.spans c.args.unit p) c.requires.spans)
          (within _ _ me.0 t _ _ c.pass.view_is c.shared.view_is (λ (x : Told) (y : View). (p : ℕ) → x.pages ≤ c.args.unit → spans_of y.spans c.args.unit p ≡ true → marks_of y.log p ≡ false) c.requires.bare)
          (within _ _ me.0 t _ _ c.pass.view_is c.shared.view_is (λ (x : Told) (y : View). Good v.stands x y.lost y.seen c.args.unit c.args.slot) c.requires.good)),
    )

pub invariant_of-pass : goal.invariant_of-pass
invariant_of-pass g c = let key = c.shared.inside.table.shared.key in let v = g.V.Chronicle in let laws = g.met.V.Chronicle in
    let t : Told = told_of v.opening key.pages key.frontier key.next_name key.turn.value in
    let me = c.pass.inside.seat.me in
    let told_is : c.args.shared.now.1 ≡ t = ap (λ z. z.1) (sym c.shared.view_is) in
    let d = dropped c.args.unit me.1 in
    let held = within _ _ me.0 t _ _ c.pass.view_is c.shared.view_is (λ (x : Told) (y : View). holds_of y.holds c.args.unit ≡ true) c.requires.unit.1 in
    let up : c.load.new.seat.me ≡ (me.0, (c.args.unit, None) ∷ d) = subst (λ u. c.load.new.seat.me ≡ (me.0, (u, None) ∷ dropped u me.1)) c.requires.aim c.load.ensures.2 in
    let now : c.exchange-held.new.seat.me ≡ (me.0, (c.args.unit, c.args.slot) ∷ d) = c.exchange-held.ensures.3 ∙ ap (λ m. (m.0, (c.args.unit, c.args.slot) ∷ rest m.1)) up in
    let gone : c.store.new.seat.me ≡ (gave me.0 c.args.unit, d) = subst (λ u. c.store.new.seat.me ≡ (gave c.exchange-held.new.seat.me.0 u, rest c.exchange-held.new.seat.me.1)) c.requires.aim c.store.ensures.2 ∙ ap (λ m. (gave m.0 c.args.unit, rest m.1)) now in
    subst (λ (m : Me (Option g.row.V.Denot) View). IsIdle m.0 c.pass.inside.row c.pass.inside.joined m.1) (sym gone) (idle_gave me.0 c.pass.inside.row c.pass.inside.joined me.1 c.args.unit held c.pass.invariant)
