-- What steps of draws ask, over a pass's fields.
use Rattle.std.proofs.Common.{◌≡◌, ℕ, ◌+◌, ◌^◌, ◌%◌, ◌<◌, true, List, get_or, Option, refl, sym, ap, ◌∙◌, subst, arith}
use Rattle.std.proofs.Math.ListN.{set}
use mathlib.Core.Option.{none}
use mathlib.Core.Logic.{dite}
use native.Mathlib.Decide.{dec_le}
use Rattle.atomic_table.specs.Table.{State, Me, step, keeps, Allows}
use Rattle.pm3_history.specs.Entry.{Done}
use Rattle.pm3_table.specs.declared.view.Told.{Told}
use Rattle.pm3_table.specs.declared.view.View.{View}
use Rattle.pm3_table.specs.Ops.{begins_draw, saw_full, drew_page, drew_name, drew_row}
use Rattle.pm3_table.specs.Crew.{Lives}
use Rattle.pm3_table.specs.Telling.{limit, first, IsNewName, IsNewPage, IsAnyNumber}
use Rattle.pm3_table.specs.Words.{counter_at}
use Rattle.pm3_table.specs.Rule.{Ruled}
use Rattle.pm3_table.specs.Plays as play
use Rattle.pm3_table.proofs.DrawsKept.{room}
use Rattle.pm3_table.proofs.RowSteps.{here_is, here_lives, row_low}
use Rattle.pm3_table.proofs.DrawSteps.{begins, sees_full, fetches_full, new_page, new_name, draws_page, draws_name, draws_row}
use Rattle.pm3_table.specs.Rule.{draw_view}

wraps_not : (n l : ℕ) → n < l + 32 → l < 2 ^ 63 → (n + 1) % 2 ^ 64 ≡ n + 1
wraps_not n l a b = omega (arith, a, b)

module _ {V : Type 0} (stands : Told → List Done → List Done → ℕ → V → Type 0) (spans : V → List ℕ) (counted : V → ℕ) (told : Told) (small : told.pages < 16385) (slots id : ℕ) (me : Me (Option V) View) (live : me.0.live ≡ true) where
  abbrev Rule : State (Option V) View → Type 0
  Rule = Ruled stands spans counted told

  counter_is : (s : State (Option V) View) (r : Rule s) (c : ℕ) → c < 3 → get_or s.words (counter_at told.pages c) 0 ≡ r.counter c
  counter_is s r c low = r.words.counters c low

  pub count_call : (at c : ℕ) (aim_told : Told) → at ≡ counter_at told.pages c → aim_told ≡ told → c < 3 → me.0.drawing ≡ 0
      → Allows Rule slots id me at (λ n. n) (play.counts aim_told c (step slots at 0 0 none) me)
  count_call at c aim_told is aimed low idle = rw (is, aimed) (λ s r deep seat fits.
      let n : ℕ = get_or s.words (counter_at told.pages c) 0 in
      let same : n ≡ r.counter c = counter_is s r c low in
      dite (dec_le (limit told c) (r.counter c))
      (λ full. (saw_full c me.0, keeps, tt, sees_full stands spans counted told s r id me.0 (seat, live) c low full, ((λ _. refl), λ below. absurd (omega (arith, below, same, full)))))
      (λ below. (begins_draw c me.0, keeps, tt, begins stands spans counted told s r id me.0 (seat, live) c low idle (omega (arith, below)), ((λ full. absurd (omega (arith, below, same, full))), λ _. refl))))

  more : (s : State (Option V) View) (r : Rule s) (c : ℕ) → (low : c < 3) → (seat : Lives s.views id me.0) → me.0.drawing ≡ c + 1 → limit told c < 2 ^ 63
      → (get_or s.words (counter_at told.pages c) 0 + 1) % 2 ^ 64 ≡ r.counter c + 1
  more s r c low seat drawing bound =
      let k = me.0.row in
      let busy : (r.crew k).drawing ≡ c + 1 = ap (λ (v : View). v.drawing) (here_is stands spans counted told s r id me.0 seat) ∙ drawing in
      let free = room (limit told) (first told) r.counter (λ j. draw_view (r.crew j)) r.draws c k low (row_low stands spans counted told s r id me.0 seat) (here_lives stands spans counted told s r id me.0 seat) busy in
      let same = counter_is s r c low in
      ap (λ (n : ℕ). (n + 1) % 2 ^ 64) same ∙ wraps_not (r.counter c) (limit told c) free bound

  -- a fetch of the counter c, of which `drew` tells what it is to have drawn, and `New` what is told of the number
  module _ (c : ℕ) (low : c < 3) (bound : limit told c < 2 ^ 63) (drew : View → ℕ → View) (New : Told → View → ℕ → Type 0)
      (new : (s : State (Option V) View) (r : Rule s) (seat : Lives s.views id me.0) → New told me.0 (r.counter c))
      (draws : (s : State (Option V) View) (r : Rule s) (seat : Lives s.views id me.0) → me.0.drawing ≡ c + 1 → r.counter c < limit told c
      → Rule record { words = set s.words (counter_at told.pages c) (r.counter c + 1); homes = s.homes; views = set s.views id (drew me.0 (r.counter c)) }) where
    fetch_by : (at : ℕ) (aim_told : Told) → at ≡ counter_at told.pages c → aim_told ≡ told → me.0.drawing ≡ c + 1
        → Allows Rule slots id me at (λ n. (n + 1) % 2 ^ 64) (play.fetches aim_told c drew New (step slots at 1 0 none) me)
    fetch_by at aim_told is aimed drawing = rw (is, aimed) (λ s r deep seat fits.
        let i : ℕ = counter_at told.pages c in
        let n : ℕ = get_or s.words i 0 in
        let same : n ≡ r.counter c = counter_is s r c low in
        let next : r.counter c + 1 ≡ (n + 1) % 2 ^ 64 = sym (more s r c low (seat, live) drawing bound) in
        dite (dec_le (limit told c) (r.counter c))
        (λ full. (
          saw_full c me.0,
          keeps,
          tt,
          subst (λ (x : ℕ). Rule record { words = set s.words i x; homes = s.homes; views = set s.views id (saw_full c me.0) }) next (fetches_full stands spans counted told s r id me.0 (seat, live) c low drawing full),
          ((λ _. refl), λ below. absurd (omega (arith, below, same, full))),
        ))
        (λ below. (
          drew me.0 n,
          keeps,
          tt,
          subst (λ (z : ℕ × ℕ). Rule record { words = set s.words i z.0; homes = s.homes; views = set s.views id (drew me.0 z.1) }) (λ j. (next j, sym same j)) (draws s r (seat, live) drawing (omega (arith, below))),
          ((λ full. absurd (omega (arith, below, same, full))), λ _. (refl, subst (New told me.0) (sym same) (new s r (seat, live)))),
        )))

  pub fetch_page_call : (at : ℕ) (aim_told : Told) → at ≡ counter_at told.pages 0 → aim_told ≡ told → me.0.drawing ≡ 1
      → Allows Rule slots id me at (λ n. (n + 1) % 2 ^ 64) (play.fetches aim_told 0 drew_page IsNewPage (step slots at 1 0 none) me)
  fetch_page_call = fetch_by 0 (omega arith) (omega (arith, small)) drew_page IsNewPage (λ s r seat. new_page stands spans counted told s r id me.0 seat)
      (λ s r seat drawing below. draws_page stands spans counted told s r id me.0 seat drawing below)

  pub fetch_name_call : (at : ℕ) (aim_told : Told) → at ≡ counter_at told.pages 1 → aim_told ≡ told → me.0.drawing ≡ 2
      → Allows Rule slots id me at (λ n. (n + 1) % 2 ^ 64) (play.fetches aim_told 1 drew_name IsNewName (step slots at 1 0 none) me)
  fetch_name_call = fetch_by 1 (omega arith) (omega arith) drew_name IsNewName (λ s r seat. new_name stands spans counted told s r id me.0 seat)
      (λ s r seat drawing below. draws_name stands spans counted told s r id me.0 seat drawing below)

  pub fetch_row_call : (at : ℕ) (aim_told : Told) → at ≡ counter_at told.pages 2 → aim_told ≡ told → me.0.drawing ≡ 3
      → Allows Rule slots id me at (λ n. (n + 1) % 2 ^ 64) (play.fetches aim_told 2 drew_row IsAnyNumber (step slots at 1 0 none) me)
  fetch_row_call = fetch_by 2 (omega arith) (omega arith) drew_row IsAnyNumber (λ s r seat. tt) (λ s r seat drawing below. draws_row stands spans counted told s r id me.0 seat drawing below)
