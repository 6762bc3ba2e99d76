-- The rule gives the laws.
use Rattle.std.proofs.Common.{◌≡◌, ◌≢◌, ℕ, ◌+◌, ◌<◌, false, List, [], ◌∷◌, ◌++◌, Option, Some, sym, ap, ◌∙◌, subst, arith}
use mathlib.Core.Option.{some, none, some-injective, some-ne-none}
use mathlib.Core.Logic.{dite}
use native.Mathlib.Decide.{ℕ_discrete}
use lib.ListN.{get_elem?}
use Rattle.atomic_table.specs.Table.{State}
use Rattle.pm3_core.specs.Apart.{IsApart}
use Rattle.pm3_core.specs.Machine.{Machine, spot}
use Rattle.pm3_core.specs.Naming.{Names}
use Rattle.pm3_core.proofs.Kept.{reached_apart, cleared_unpinned}
use Rattle.pm3_history.specs.Entry.{Done}
use Rattle.pm3_table.specs.declared.view.Told.{Told}
use Rattle.pm3_table.specs.declared.view.View.{View}
use Rattle.pm3_table.specs.Holds.{is_in}
use Rattle.pm3_table.specs.Laws.{ClearedUnnamed, OneHistory, DrawnApart}
use Rattle.pm3_table.specs.Telling.{Good, names}
use Rattle.pm3_table.specs.Rule.{Ruled}
use Rattle.pm3_table.proofs.RowSteps.{here_is, here_lives, knows_row, row_low}
use Rattle.pm3_table.specs.Words.{turn_unit}
use Rattle.pm3_table.proofs.Advances.{inside}
use Rattle.pm3_table.proofs.TurnSteps.{cleared_is}

module _ {V : Type 0} (stands : Told → List Done → List Done → ℕ → V → Type 0) (spans : V → List ℕ) (counted : V → ℕ) (told : Told)
    (frame : (lost h : List Done) (e : Done) (u : ℕ) (x : V) → names told e u ≡ false → stands told lost h u x → stands told lost (h ++ e ∷ []) u x)
    (alike : (lost more h : List Done) (u : ℕ) (x : V) → u ≢ turn_unit told.pages → stands told lost h u x → stands told more h u x)
    (s : State (Option V) View) (r : Ruled stands spans counted told s) where
  pub pins_law : ClearedUnnamed told.pages s
  pins_law i j v w page q lv lw cleared low standing named =
      let apart : IsApart told.pages r.machine = subst (λ (m : Machine). IsApart told.pages m) r.rows.is (reached_apart told.pages r.rows.events) in
      let know = knows_row stands spans counted told s r j w lw in
      let row = row_low stands spans counted told s r j w lw in
      cleared_unpinned told.pages r.machine v.row page apart (cleared_is stands spans counted told frame alike s r i v lv page cleared).1 (spot w.row q) (omega (arith, low, row))
      (sym (know.stands q low) ∙ standing, subst (λ (x : ℕ). Names told.pages x page) (know.word q low) named)

  home_stands : (u : ℕ) (x : V) → get_elem? s.homes u ≡ some (some (Some x)) → u < turn_unit told.pages + 1 → stands told r.lost r.history u x
  home_stands u x at low = dite (ℕ_discrete (r.holder u) 0)
      (λ free. let home = r.units.home u low free in
      let same : home.0 ≡ Some x = some-injective home.0 (Some x) (some-injective (some home.0) (some (Some x)) (sym home.1 ∙ at)) in
      subst (λ (y : Option V). Good stands told r.lost r.history u y) same home.2)
      (λ taken. absurd (some-ne-none (Some x) (some-injective (some (Some x)) none (sym at ∙ r.units.out u low taken))))

  pub history_law : OneHistory stands told s
  history_law = record {
    history = r.history;
    lost = r.lost;
    lawful = r.lawful.0;
    stand = λ u x at. home_stands u x at (subst (λ (n : ℕ). u < n) r.units.deep (inside s.homes u (some (Some x)) at));
    seen = λ i v l. let know = r.units.known v.row (here_lives stands spans counted told s r i v l) in
        (know.after, know.is ∙ ap (λ (y : View). y.seen ++ know.after) (here_is stands spans counted told s r i v l));
  }

  pub apart_law : DrawnApart s
  apart_law i j v w n lv lw =
      let hv = here_is stands spans counted told s r i v lv in let hw = here_is stands spans counted told s r j w lw in
      let av = here_lives stands spans counted told s r i v lv in let aw = here_lives stands spans counted told s r j w lw in (
        (λ a b. r.seated.apart i j v w lv lw (r.paged.apart v.row w.row n av aw (ap (λ (y : View). is_in n y.pages) hv ∙ a) (ap (λ (y : View). is_in n y.pages) hw ∙ b))),
        (λ a b. r.seated.apart i j v w lv lw (r.named.apart v.row w.row n av aw (ap (λ (y : View). is_in n y.names) hv ∙ a) (ap (λ (y : View). is_in n y.names) hw ∙ b))),
        λ e. r.seated.apart i j v w lv lw e,
      )
