use Rattle.std.proofs.Common.{rules, ◌≡◌, ℕ, ◌+◌, min, length, true, false, sym, ap, ◌∙◌, subst, arith}
use Rattle.std.specs.Mem.Slots.{slots_items}
use Rattle.atomic_table.specs.Table.{Final, Seen}
use Rattle.pm3_table.specs.declared.view.Told.{Told}
use Rattle.pm3_table.specs.declared.view.View.{View}
use Rattle.pm3_table.specs.Closing.{IsClosed}
use Rattle.pm3_table.specs.Holds.{holds_of}
use Rattle.pm3_table.specs.Rule.{Ruled}
use Rattle.pm3_table.specs.Starting.{told_of}
use Rattle.pm3_table.proofs.Asked.{outside}
use Rattle.pm3_table.proofs.Closes.{last_call, closes}
use Rattle.pm3_table.proofs.RowSteps.{equal_test}
use Rattle.pm3_table.proofs.closing.ended.Goals as goal

pub load-requires : goal.load-requires
load-requires g c = let key = c.shared.inside.table.shared.key in let v = g.V.Chronicle in
    let t : Told = told_of v.opening key.pages key.frontier key.next_name key.turn.value in (
      search rules,
      search rules,
      last_call v.stands v.spans v.counted t _ _ _ c.pass.invariant.live c.pass.invariant.rows _ (omega (arith, c.shared.invariant.pages_are)),
    )

pub returns-clause-ok : goal.returns-clause-ok
returns-clause-ok g c = let key = c.shared.inside.table.shared.key in let v = g.V.Chronicle in
    let t : Told = told_of v.opening key.pages key.frontier key.next_name key.turn.value in
    let me = c.pass.inside.seat.me in
    let all : min c.load.result 32 ≡ length me.0.kept + 1 = omega (arith, c.pass.invariant.tally, c.min-made.ensures, c.if-made-pass.false) in
    let made : ℕ = min c.load.result 32 in
    let now : c.load.new.seat.me.0 ≡ record me.0 { last = true; made = made } = ap (λ m. m.0) c.load.ensures.2.0 ∙ (λ i. record me.0 { last = equal_test made (length me.0.kept + 1) all i; made = made }) in
    let values = c.close_with.ensures.values in
    let bare : (u : ℕ) → holds_of me.0.holds u ≡ false = subst (λ p. (u : ℕ) → holds_of p.1.holds u ≡ false) (sym c.pass.view_is) c.requires.bare in
    let slots = slots_items c.close_with.result.slots in (
      values.1,
      omega (arith, c.close_with.ensures.counts.1, c.shared.invariant.slots),
      outside _ _ me.0 t _ _ c.pass.view_is c.shared.view_is (λ p s. IsClosed v.stands v.counted s.1 p.1 (length p.1.kept + 1) slots)
          (closes v.stands v.spans v.counted t _ me.0 made _ slots c.pass.invariant.live bare c.pass.invariant.rows
          (subst (λ (w : View). Final (Seen (Ruled v.stands v.spans v.counted t) c.load.new.seat.id w) (slots_items c.close_with.result.words) slots) now values.2)),
    )
