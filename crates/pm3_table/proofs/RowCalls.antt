-- What steps on row words, marks and page words ask, over a pass's fields.
use Rattle.std.proofs.Common.{◌≡◌, ◌≢◌, ℕ, ◌+◌, ◌<◌, ◌==◌, Bool, true, false, if◌then◌else◌, List, [], ◌∷◌, ◌++◌, get_or, Option, None, refl, sym, ap, ◌∙◌, arith}
use Rattle.std.proofs.lemmas.Bool.Decides.{nat_tests}
use mathlib.Core.Option.{none}
use mathlib.Core.Logic.{dite}
use native.Mathlib.Decide.{ℕ_discrete}
use Rattle.atomic_table.specs.Table.{State, Me, step, keeps, takes, Allows}
use Rattle.pm3_core.specs.declared.events.TheConstants.{ROWS, ROW_PLACES}
use Rattle.pm3_core.specs.Naming.{Names}
use Rattle.pm3_core.specs.Machine.{spot}
use Rattle.pm3_history.specs.Entry.{Done}
use Rattle.pm3_table.specs.declared.view.Deed.TheVariants.{Stored, Stood, Marked, Found, Unmarked}
use Rattle.pm3_table.specs.declared.view.Told.{Told}
use Rattle.pm3_table.specs.declared.view.View.{View}
use Rattle.pm3_table.specs.Deeds.{word_of, marks_of}
use Rattle.pm3_table.specs.Holds.{holds_of}
use Rattle.pm3_table.specs.Ops.{did, refused, knew, settled_in, settled_held}
use Rattle.pm3_table.specs.Settles.{MaySettle, unmark_log, MaySettleIn}
use Rattle.pm3_table.specs.Telling.{names, HasInSpace, is_steady, knows_used, mark_by}
use Rattle.pm3_table.specs.Words.{unit_at, unit_word, mark_in, space_in, turn_unit, space_unit}
use Rattle.pm3_table.specs.Rule.{Ruled}
use Rattle.pm3_table.specs.Plays as play
use Rattle.pm3_table.proofs.RowSteps.{stores, reads, own_word, validates, refuses, marks, unmarks, in_space, space_found, own_page, alone_page}
use Rattle.pm3_table.proofs.SeenLawful.{seen_lawful}
use Rattle.pm3_table.proofs.DrawSteps.{looks, stays_same}
use Rattle.pm3_table.proofs.UnitSteps.{steady_is}
use Rattle.pm3_table.proofs.Settling.{settles_in, settles_held, not_held, at_home, may_settle}

zero_test : (x : ℕ) → x ≡ 0 → (x == 0) ≡ true
zero_test x e = grind (arith, nat_tests, e)

zero_not : (x : ℕ) → x ≢ 0 → (x == 0) ≡ false
zero_not x o = grind (arith, nat_tests, o)

module _ {V : Type 0} (stands : Told → List Done → List Done → ℕ → V → Type 0) (spans : V → List ℕ) (counted : V → ℕ) (told : Told) (slots id : ℕ) (me : Me (Option V) View) (live : me.0.live ≡ true) where
  abbrev Rule : State (Option V) View → Type 0
  Rule = Ruled stands spans counted told

  pub store_call : (at aim place w : ℕ) → at ≡ spot me.0.row place → aim ≡ place → place < ROW_PLACES
      → Allows Rule slots id me at (λ _. w) (λ _. play.stores aim (step slots at w 0 none) me w)
  store_call at aim place w is aimed low = rw (is, aimed) (λ s r deep seat fits.
      (did me.0 (Stored place w), keeps, tt, stores stands spans counted told s r id me.0 (seat, live) place w low, refl))

  pub read_call : (at aim_row aim row place : ℕ) → at ≡ spot row place → aim_row ≡ row → aim ≡ place → row < ROWS → place < ROW_PLACES
      → Allows Rule slots id me at (λ n. n) (play.finds aim_row aim (step slots at 0 0 none) me)
  read_call at aim_row aim row place is aimed_row aimed below low = rw (is, aimed_row, aimed) (λ s r deep seat fits. (
    did me.0 (Found row place (get_or s.words (spot row place) 0)),
    keeps,
    tt,
    reads stands spans counted told s r id me.0 (seat, live) row place below low,
    (refl, λ own. ap (λ (k : ℕ). get_or s.words (spot k place) 0) own ∙ own_word stands spans counted told s r id me.0 (seat, live) place low),
  ))

  pub recall_call : (at : ℕ) (aim_told : Told) → at ≡ spot 0 0 → aim_told ≡ told → Allows Rule slots id me at (λ n. n) (play.recalls aim_told (step slots at 0 0 none) me)
  recall_call at aim_told is aimed_told = rw (is, aimed_told) (λ s r deep seat fits. (
    me.0,
    keeps,
    tt,
    stays_same stands spans counted told s r id me.0 (seat, live) (spot 0 0),
    (refl, seen_lawful stands spans counted told s r id me.0 (seat, live)),
  ))

  pub validate_call : (at aim_row aim place p : ℕ) (aim_told : Told) → at ≡ unit_at p → aim_told ≡ told → aim_row ≡ place → aim ≡ p → place < ROW_PLACES → Names told.pages (word_of me.0.log place) p
      → Allows Rule slots id me at (λ n. n) (play.validates aim_told aim_row aim (step slots at 0 0 none) me)
  validate_call at aim_row aim place p aim_told is aimed_told aimed_row aimed low named = rw (is, aimed_told, aimed_row, aimed) (λ s r deep seat fits.
      let n : ℕ = get_or s.words (unit_at p) 0 in
      let own : (j : ℕ) → HasInSpace told me.0 j p → n ≡ unit_word 0 (mark_by me.0 p) (j + 1) = λ j has. own_page stands spans counted told s r id me.0 (seat, live) j p has in
      dite (ℕ_discrete (mark_in n) 0)
      (λ bare. (
        did me.0 (Stood place),
        keeps,
        tt,
        validates stands spans counted told s r id me.0 (seat, live) place p low named bare,
        (ap (λ (b : Bool). ((if b then did me.0 (Stood place) else refused me.0 p n), me.1)) (sym (zero_test (mark_in n) bare)), own),
      ))
      (λ taken. (
        refused me.0 p n,
        keeps,
        tt,
        refuses stands spans counted told s r id me.0 (seat, live) place p low named taken,
        (ap (λ (b : Bool). ((if b then did me.0 (Stood place) else refused me.0 p n), me.1)) (sym (zero_not (mark_in n) taken)), own),
      )))

  pub mark_call : (at aim w j p : ℕ) → at ≡ unit_at p → aim ≡ p → w ≡ unit_word 0 (me.0.row + 1) (j + 1) → HasInSpace told me.0 j p → marks_of me.0.log p ≡ false
      → Allows Rule slots id me at (λ _. w) (λ _. play.marks aim (step slots at w 0 none) me w)
  mark_call at aim w j p is aimed word has bare = rw (is, aimed, word) (λ s r deep seat fits.
      (did me.0 (Marked p), keeps, tt, marks stands spans counted told s r id me.0 (seat, live) j p has bare, refl))

  pub unmark_call : (at aim w j p : ℕ) → at ≡ unit_at p → aim ≡ p → w ≡ unit_word 0 0 (j + 1) → HasInSpace told me.0 j p → marks_of me.0.log p ≡ true
      → Allows Rule slots id me at (λ _. w) (λ _. play.unmarks aim (step slots at w 0 none) me w)
  unmark_call at aim w j p is aimed word has held = rw (is, aimed, word) (λ s r deep seat fits.
      (did me.0 (Unmarked p), keeps, tt, unmarks stands spans counted told s r id me.0 (seat, live) j p has held, refl))

  module _ (frame : (lost h : List Done) (e : Done) (u : ℕ) (x : V) → names told e u ≡ false → stands told lost h u x → stands told lost (h ++ e ∷ []) u x)
      (alike : (lost more h : List Done) (u : ℕ) (x : V) → u ≢ turn_unit told.pages → stands told lost h u x → stands told more h u x) where
    pub look_call : (at aim p : ℕ) (aim_told : Told) → at ≡ unit_at p → aim ≡ p → aim_told ≡ told → p < told.pages → knows_used told me.0 p ≡ true
        → Allows Rule slots id me at (λ n. n) (play.looks aim_told aim (step slots at 0 0 none) me)
    look_call at aim p aim_told is aimed aimed_told low knows = rw (is, aimed, aimed_told) (λ s r deep seat fits.
        let n : ℕ = get_or s.words (unit_at p) 0 in
        let found : space_in n ≡ r.space p = space_found stands spans counted told s r id me.0 (seat, live) p low in
        let of_space : (j : ℕ) → HasInSpace told me.0 j p → space_in n ≡ j + 1 = λ j has. found ∙ in_space stands spans counted told s r id me.0 (seat, live) j p has in
        let plain : is_steady told me.0 p ≡ true → space_in n ≡ 0 = λ is. found ∙ (steady_is stands spans counted told frame s r id me.0 (seat, live) p is).1 in
        let own : (j : ℕ) → HasInSpace told me.0 j p → n ≡ unit_word 0 (mark_by me.0 p) (j + 1) = λ j has. own_page stands spans counted told s r id me.0 (seat, live) j p has in
        let alone : is_steady told me.0 p ≡ true → holds_of me.0.holds p ≡ (n == me.0.row + 1) =
        λ is. alone_page stands spans counted told s r id me.0 (seat, live) p low (steady_is stands spans counted told frame s r id me.0 (seat, live) p is).1 in
        dite (ℕ_discrete (space_in n) 0)
        (λ bare. (
          knew me.0 p,
          keeps,
          tt,
          looks stands spans counted told s r id me.0 (seat, live) frame alike p low knows bare,
          (ap (λ (b : Bool). ((if b then knew me.0 p else me.0), me.1)) (sym (zero_test (space_in n) bare)), of_space, plain, own, alone),
        ))
        (λ taken. (
          me.0,
          keeps,
          tt,
          stays_same stands spans counted told s r id me.0 (seat, live) (unit_at p),
          (ap (λ (b : Bool). ((if b then knew me.0 p else me.0), me.1)) (sym (zero_not (space_in n) taken)), of_space, plain, own, alone),
        )))

    pub settle_in_call : (at aim_row aim w j q : ℕ) → at ≡ unit_at q → aim_row ≡ space_unit told.pages j → aim ≡ q → w ≡ unit_word 0 0 (j + 1) → MaySettleIn told me.0 j q → j < 32 → holds_of me.0.holds (space_unit told.pages j) ≡ true
        → Allows Rule slots id me at (λ _. w) (λ _. play.settles_in aim aim_row (step slots at w 0 none) me w)
    settle_in_call at aim_row aim w j q is aimed_row aimed word may low holds = rw (is, aimed_row, aimed, word) (λ s r deep seat fits. (
      settled_in me.0 q (space_unit told.pages j) (unmark_log me.0.log q),
      keeps,
      tt,
      settles_in stands spans counted told frame s r id me.0 (seat, live) q (may_settle told me.0 j q may) j may low holds,
      (refl, not_held stands spans counted told frame s r id me.0 (seat, live) q (may_settle told me.0 j q may)),
    ))

    pub settle_held_call : (at aim w q : ℕ) → at ≡ unit_at q → aim ≡ q → w ≡ unit_word (me.0.row + 1) 0 0 → MaySettle told me.0 q
        → Allows Rule slots id me at (λ _. w) (λ _. play.settles_held aim (step slots at w 0 none) me w)
    settle_held_call at aim w q is aimed word may = rw (is, aimed, word) (λ s r deep seat fits. (
      settled_held me.0 q (unmark_log me.0.log q),
      takes q None,
      at_home stands spans counted told frame s r id me.0 (seat, live) q may,
      settles_held stands spans counted told frame s r id me.0 (seat, live) q may,
      (refl, not_held stands spans counted told frame s r id me.0 (seat, live) q may),
    ))
