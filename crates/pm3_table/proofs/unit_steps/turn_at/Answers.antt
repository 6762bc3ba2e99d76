use Rattle.std.proofs.Common.{rules, ◌≡◌, ℕ, ◌+◌, ◌≤◌, true, Option, None, Some, ◌∷◌, ◌++◌, refl, sym, ap, ◌∙◌, subst}
use Rattle.atomic_table.specs.Table.{Me, step, Allows, rest}
use mathlib.Core.Option.{none}
use Rattle.pm3_table.specs.declared.view.Told.{Told}
use Rattle.pm3_table.specs.declared.view.View.{View}
use Rattle.pm3_table.specs.Carried.{IsIdle, dropped}
use Rattle.pm3_table.specs.Holds.{holds_of}
use Rattle.pm3_table.specs.Passes.{Becomes}
use Rattle.pm3_table.specs.Ops.{turned}
use Rattle.pm3_table.specs.Plays as play
use Rattle.pm3_table.specs.Rule.{Ruled}
use Rattle.pm3_table.specs.Starting.{told_of}
use Rattle.pm3_table.specs.Telling.{counted_in, MayJoin}
use Rattle.pm3_table.specs.Words.{turn_unit}
use Rattle.pm3_table.proofs.Asked.{within, outside, idle_turned}
use Rattle.pm3_table.proofs.UnitCalls.{reach_call, turn_call}
use Rattle.pm3_table.proofs.unit_steps.turn_at.Goals as goal

pub load-requires : goal.load-requires
load-requires g c = let key = c.shared.inside.table.shared.key in let v = g.V.Chronicle in let laws = g.met.V.Chronicle in
    let t : Told = told_of v.opening key.pages key.frontier key.next_name key.turn.value in
    let me = c.pass.inside.seat.me in
    let told_is : c.args.shared.now.1 ≡ t = ap (λ z. z.1) (sym c.shared.view_is) in
    let u : ℕ = turn_unit t.pages in
    let at_is : g.J.Aim.at ≡ u = c.requires.aim ∙ ap (λ (x : Told). turn_unit x.pages) told_is in
    let slot_is : c.shared.inside.pages + 32 ≡ u = ap (λ (n : ℕ). n + 32) c.shared.invariant.pages_are in
    let held : holds_of me.0.holds u ≡ true = within _ _ me.0 t _ _ c.pass.view_is c.shared.view_is (λ (x : Told) (y : View). holds_of y.holds (turn_unit x.pages) ≡ true) c.requires.turn in (
      search rules,
      search rules,
      reach_call v.stands v.spans v.counted t (laws.frame t) (laws.alike t) _ _ _ c.pass.invariant.live _ _ u (λ i. 16384 + slot_is i) at_is held c.pass.invariant.carries,
    )

pub store-requires : goal.store-requires
store-requires g c = let key = c.shared.inside.table.shared.key in let v = g.V.Chronicle in let laws = g.met.V.Chronicle in
    let t : Told = told_of v.opening key.pages key.frontier key.next_name key.turn.value in
    let me = c.pass.inside.seat.me in
    let told_is : c.args.shared.now.1 ≡ t = ap (λ z. z.1) (sym c.shared.view_is) in
    let u : ℕ = turn_unit t.pages in
    let at_is : g.J.Aim.at ≡ u = c.requires.aim ∙ ap (λ (x : Told). turn_unit x.pages) told_is in
    let slot_is : c.shared.inside.pages + 32 ≡ u = ap (λ (n : ℕ). n + 32) c.shared.invariant.pages_are in
    let held : holds_of me.0.holds u ≡ true = within _ _ me.0 t _ _ c.pass.view_is c.shared.view_is (λ (x : Told) (y : View). holds_of y.holds (turn_unit x.pages) ≡ true) c.requires.turn in
    let d = dropped u me.1 in
    let up : c.load.new.seat.me ≡ (me.0, (u, None) ∷ d) = subst (λ (n : ℕ). c.load.new.seat.me ≡ (me.0, (n, None) ∷ dropped n me.1)) at_is c.load.ensures.2 in
    let now : c.exchange-held.new.seat.me ≡ (me.0, (u, Some c.args.value) ∷ d) = c.exchange-held.ensures.3 ∙ (λ i. ((up i).0, (slot_is i, Some c.args.value) ∷ rest (up i).1)) in (
      search rules,
      search rules,
      subst (λ (m : Me (Option g.row.V.Denot) View). Allows (Ruled v.stands v.spans v.counted t) c.shared.inside.table.shared.table_id.slots c.exchange-held.new.seat.id m (16384 + (c.shared.inside.pages + 32)) (λ _. 0) (λ _. play.turns v.counted g.J.Aim.at g.J.Aim.more g.J.Aim.failed (step c.shared.inside.table.shared.table_id.slots (16384 + (c.shared.inside.pages + 32)) 0 0 none) m 0)) (sym now)
          (turn_call v.stands v.spans v.counted t (laws.frame t) (laws.alike t) _ _ (me.0, (u, Some c.args.value) ∷ d) c.pass.invariant.live _ _ 0 (Some c.args.value) g.J.Aim.more g.J.Aim.failed g.J.Aim.more g.J.Aim.failed (λ i. 16384 + slot_is i) at_is refl refl refl refl held
          (within _ _ me.0 t _ _ c.pass.view_is c.shared.view_is (λ (x : Told) (y : View). v.stands x (y.lost ++ g.J.Aim.failed) (y.seen ++ g.J.Aim.more) (turn_unit x.pages) c.args.value) c.requires.good)
          (within _ _ me.0 t _ _ c.pass.view_is c.shared.view_is (λ (x : Told) (y : View). y.faults ≤ v.counted c.args.value) c.requires.heard)
          (within _ _ me.0 t _ _ c.pass.view_is c.shared.view_is (λ (x : Told) (y : View). MayJoin x y g.J.Aim.more g.J.Aim.failed) c.requires.may)),
    )

pub invariant_of-pass : goal.invariant_of-pass
invariant_of-pass g c = let key = c.shared.inside.table.shared.key in let v = g.V.Chronicle in let laws = g.met.V.Chronicle in
    let t : Told = told_of v.opening key.pages key.frontier key.next_name key.turn.value in
    let me = c.pass.inside.seat.me in
    let told_is : c.args.shared.now.1 ≡ t = ap (λ z. z.1) (sym c.shared.view_is) in
    let u : ℕ = turn_unit t.pages in
    let at_is : g.J.Aim.at ≡ u = c.requires.aim ∙ ap (λ (x : Told). turn_unit x.pages) told_is in
    let slot_is : c.shared.inside.pages + 32 ≡ u = ap (λ (n : ℕ). n + 32) c.shared.invariant.pages_are in
    let held : holds_of me.0.holds u ≡ true = within _ _ me.0 t _ _ c.pass.view_is c.shared.view_is (λ (x : Told) (y : View). holds_of y.holds (turn_unit x.pages) ≡ true) c.requires.turn in
    let d = dropped u me.1 in
    let up : c.load.new.seat.me ≡ (me.0, (u, None) ∷ d) = subst (λ (n : ℕ). c.load.new.seat.me ≡ (me.0, (n, None) ∷ dropped n me.1)) at_is c.load.ensures.2 in
    let now : c.exchange-held.new.seat.me ≡ (me.0, (u, Some c.args.value) ∷ d) = c.exchange-held.ensures.3 ∙ (λ i. ((up i).0, (slot_is i, Some c.args.value) ∷ rest (up i).1)) in
    let gone : c.store.new.seat.me ≡ (turned u me.0 g.J.Aim.more g.J.Aim.failed (v.counted c.args.value), d) =
    subst (λ (z : ℕ × Me (Option g.row.V.Denot) View). (x : Option g.row.V.Denot) → z.1.1 ≡ (z.0, x) ∷ rest z.1.1 → c.store.new.seat.me ≡ (turned z.0 z.1.0 g.J.Aim.more g.J.Aim.failed (counted_in v.counted x), rest z.1.1)) (λ i. (at_is i, now i)) c.store.ensures.2 (Some c.args.value) refl in
    subst (λ (m : Me (Option g.row.V.Denot) View). IsIdle m.0 c.pass.inside.row c.pass.inside.joined m.1) (sym gone) (idle_turned me.0 c.pass.inside.row c.pass.inside.joined me.1 u g.J.Aim.more g.J.Aim.failed (v.counted c.args.value) held c.pass.invariant)

pub returns : goal.returns
returns g c = let key = c.shared.inside.table.shared.key in let v = g.V.Chronicle in let laws = g.met.V.Chronicle in
    let t : Told = told_of v.opening key.pages key.frontier key.next_name key.turn.value in
    let me = c.pass.inside.seat.me in
    let told_is : c.args.shared.now.1 ≡ t = ap (λ z. z.1) (sym c.shared.view_is) in
    let u : ℕ = turn_unit t.pages in
    let at_is : g.J.Aim.at ≡ u = c.requires.aim ∙ ap (λ (x : Told). turn_unit x.pages) told_is in
    let slot_is : c.shared.inside.pages + 32 ≡ u = ap (λ (n : ℕ). n + 32) c.shared.invariant.pages_are in
    let held : holds_of me.0.holds u ≡ true = within _ _ me.0 t _ _ c.pass.view_is c.shared.view_is (λ (x : Told) (y : View). holds_of y.holds (turn_unit x.pages) ≡ true) c.requires.turn in
    let d = dropped u me.1 in
    let up : c.load.new.seat.me ≡ (me.0, (u, None) ∷ d) = subst (λ (n : ℕ). c.load.new.seat.me ≡ (me.0, (n, None) ∷ dropped n me.1)) at_is c.load.ensures.2 in
    let now : c.exchange-held.new.seat.me ≡ (me.0, (u, Some c.args.value) ∷ d) = c.exchange-held.ensures.3 ∙ (λ i. ((up i).0, (slot_is i, Some c.args.value) ∷ rest (up i).1)) in
    let gone : c.store.new.seat.me ≡ (turned u me.0 g.J.Aim.more g.J.Aim.failed (v.counted c.args.value), d) =
    subst (λ (z : ℕ × Me (Option g.row.V.Denot) View). (x : Option g.row.V.Denot) → z.1.1 ≡ (z.0, x) ∷ rest z.1.1 → c.store.new.seat.me ≡ (turned z.0 z.1.0 g.J.Aim.more g.J.Aim.failed (counted_in v.counted x), rest z.1.1)) (λ i. (at_is i, now i)) c.store.ensures.2 (Some c.args.value) refl in
    outside _ _ me.0 t _ _ c.pass.view_is c.shared.view_is
    (λ p s. Becomes p (c.store.new.seat.table_id, c.store.new.seat.me.0) (turned (turn_unit s.1.pages) p.1 g.J.Aim.more g.J.Aim.failed (v.counted c.args.value)))
    (c.store.ensures.0 ∙ (c.exchange-held.ensures.0 ∙ c.load.ensures.0), ap (λ m. m.0) gone)
