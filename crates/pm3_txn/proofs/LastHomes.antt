-- The values of a table that was closed: what went with the turn is the last, and each image is in the home of its own page.
use Rattle.std.proofs.Common.{◌≡◌, ◌+◌, ◌-◌, ◌<◌, ◌≤◌, ℕ, false, List, Option, Some, None, length, get_or, inl, inr, refl, sym, ap, ◌∙◌, subst, arith}
use Rattle.std.proofs.lemmas.Bool.{cases_lt}
use Rattle.std.proofs.lemmas.List.{get_or_past}
use mathlib.Core.Option.{some}
use Rattle.pm3_disk.specs.declared.outside.Disk.{Ghosts}
use Rattle.pm3_types.specs.Layout.{PageImage}
use Rattle.pm3_table.specs.declared.view.Told.{Told}
use Rattle.pm3_table.specs.declared.view.View.{View}
use Rattle.pm3_table.specs.Closing.{IsClosed}
use Rattle.pm3_table.specs.Telling.{Good}
use Rattle.pm3_table.specs.Words.{turn_unit}
use Rattle.pm3_txn.specs.declared.values.Turn.{Turn as Turns}
use Rattle.pm3_txn.specs.declared.values.Value.{Value}
use Rattle.pm3_txn.specs.declared.values.Value.TheVariants.{Page, Space, Turn}
use Rattle.pm3_txn.specs.Closing.{HasSeenAll}
use Rattle.pm3_txn.specs.Draining.{EndsWithTurn, HasTurnLast, is_turn}
use Rattle.pm3_txn.specs.Gathering.{AreAtHome, image_at}
use Rattle.pm3_txn.specs.Slots.{faults_in, stands_for, turn_state}
use Rattle.pm3_txn.specs.Values.{IsPageOf, IsTurnOf}
use Rattle.pm3_txn.proofs.HomesStand.{elem_at, some_same}
use Rattle.pm3_txn.proofs.ReadPages.{IsBare}

some_is : {A : Type 0} (x y : A) → Some x ≡ Some y → x ≡ y
some_is x y same = cc same

none_some : {A : Type 0} (x : A) → None ≡ Some x → ⊥
none_some x e = cc e

module _ {D R : Type 0} (g : Ghosts D R) (told : Told) (v : View) (slots : List (Option (Value D R)))
    (closed : IsClosed (stands_for g) (faults_in g) told v (length v.kept + 1) slots) where
  abbrev Stands : ℕ → Option (Value D R) → Type 0
  Stands u o = Good (stands_for g) told v.failed v.seen u o

  stands_at : (u : ℕ) → u < told.pages + 33 → Stands u (get_or slots u None)
  stands_at u low =
      let x = closed.stand u low in
      let wide = closed.wide in
      subst (Stands u) (some_same x.0 (get_or slots u None) (sym x.1 ∙ elem_at slots u None (omega (arith, low, wide)))) x.2

  no_turn : (u : ℕ) → u < told.pages + 32 → is_turn (get_or slots u None) ≡ false
  no_turn u low = of (get_or slots u None) (stands_at u (omega (arith, low)))
    where
      of : (o : Option (Value D R)) → Stands u o → is_turn o ≡ false
      of None is = refl
      of (Some (Page image)) is = refl
      of (Some (Space space)) is = refl
      of (Some (Turn turn)) is = (let unit = is.unit in absurd (omega (arith, low, unit)))

  pub last_turn : (turn : Turns D R) × (get_or slots (turn_unit told.pages) None ≡ Some (Turn turn))
      × IsTurnOf g told v.failed v.seen (turn_unit told.pages) (turn_state turn)
  last_turn = of (get_or slots (turn_unit told.pages) None) refl (stands_at (turn_unit told.pages) (omega arith))
    where
      of : (o : Option (Value D R)) → get_or slots (turn_unit told.pages) None ≡ o → Stands (turn_unit told.pages) o
          → (turn : Turns D R) × (get_or slots (turn_unit told.pages) None ≡ Some (Turn turn)) × IsTurnOf g told v.failed v.seen (turn_unit told.pages) (turn_state turn)
      of None e is = (let low = is.0 in absurd (omega (arith, low)))
      of (Some (Page image)) e is = (let low = is.low.1 in absurd (omega (arith, low)))
      of (Some (Space space)) e is = (let unit = is.unit in let low = is.low in absurd (omega (arith, unit, low)))
      of (Some (Turn turn)) e is = (turn, e, is)

  -- what went with the turn is the last
  pub ends : EndsWithTurn slots last_turn.0
  ends =
      let wide = closed.wide in
      let last : length slots - 1 ≡ turn_unit told.pages = omega (arith, wide) in
      record {
        some = omega (arith, wide);
        last = ap (λ (n : ℕ). get_or slots n None) last ∙ last_turn.1;
        others = λ u low. no_turn u (omega (arith, low, wide));
      }

  pub has_last : HasTurnLast slots
  has_last = (last_turn.0, ends)

  same_turn : (turn : Turns D R) → EndsWithTurn slots turn → last_turn.0 ≡ turn
  same_turn turn other = of (some_is (Turn last_turn.0) (Turn turn) (sym ends.last ∙ other.last))
    where
      of : Turn last_turn.0 ≡ Turn turn → last_turn.0 ≡ turn
      of same = cc same

  -- and stands after the whole history
  pub turn_stands : (turn : Turns D R) → EndsWithTurn slots turn → IsTurnOf g told v.failed v.seen (turn_unit told.pages) (turn_state turn)
  turn_stands turn other = subst (λ (t : Turns D R). IsTurnOf g told v.failed v.seen (turn_unit told.pages) (turn_state t)) (same_turn turn other) last_turn.2

  -- its journal's disk has counted what was seen
  pub turn_heard : (turn : Turns D R) → EndsWithTurn slots turn → v.faults ≤ g.faults turn.journal.disk
  turn_heard turn other =
      let wide = closed.wide in
      subst (λ (t : Turns D R). v.faults ≤ g.faults t.journal.disk) (same_turn turn other)
      (closed.heard (Some (Turn last_turn.0)) (elem_at slots (turn_unit told.pages) None (omega (arith, wide)) ∙ ap some last_turn.1))

  by_image : (u : ℕ) (image : PageImage) (o : Option (Value D R)) → Stands u o → image_at o ≡ Some image → IsPageOf told v.seen u image
  by_image u image None is at = absurd (none_some image at)
  by_image u image (Some (Page x)) is at = subst (IsPageOf told v.seen u) (some_is x image at) is
  by_image u image (Some (Space space)) is at = absurd (none_some image at)
  by_image u image (Some (Turn turn)) is at = absurd (none_some image at)

  -- an image is the last of its page
  pub image_stands : (u : ℕ) (image : PageImage) → image_at (get_or slots u None) ≡ Some image → IsPageOf told v.seen u image
  image_stands u image at = elim (cases_lt u (told.pages + 33)) [
    | inl low ↦ by_image u image (get_or slots u None) (stands_at u low) at
    | inr high ↦ (let wide = closed.wide in absurd (none_some image (sym (ap image_at (get_or_past slots u None (omega (arith, high, wide)))) ∙ at)))
  ]

  pub home : AreAtHome slots
  home u image at = (image_stands u image at).home

  -- a page without an image has none for the history
  pub page_bare : (u : ℕ) → u < told.pages → image_at (get_or slots u None) ≡ None → IsBare told v.seen u
  page_bare u low none = of (get_or slots u None) (stands_at u (omega (arith, low))) none
    where
      of : (o : Option (Value D R)) → Stands u o → image_at o ≡ None → IsBare told v.seen u
      of None is e = record { quiet = is.1; unopened = is.2 }
      of (Some (Page image)) is e = absurd (none_some image (sym e))
      of (Some (Space space)) is e = (let unit = is.unit in absurd (omega (arith, unit, low)))
      of (Some (Turn turn)) is e = (let unit = is.unit in absurd (omega (arith, unit, low)))

  pub seen_all : HasSeenAll told v
  seen_all = record { lawful = closed.lawful; lawful_failed = closed.lawful_failed; kept = closed.kept }

  pub few : told.pages < 16385 → length slots ≤ 16417
  few small = (let wide = closed.wide in omega (arith, wide, small))
