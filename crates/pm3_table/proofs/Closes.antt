-- The last mutator sees that it is the last, and a table that it closes has values for the whole history.
use Rattle.std.proofs.Common.{◌≡◌, ◌≢◌, ℕ, suc, ◌+◌, ◌-◌, ◌<◌, ◌≤◌, ◌==◌, Bool, true, false, List, [], ◌++◌, length, get_or, min, Option, None, refl, sym, ap, ◌∙◌, subst, ⊎_elim, arith}
use Rattle.std.proofs.Math.ListN.{set}
use Rattle.std.proofs.lemmas.Bool.Decides.{nat_tests}
use mathlib.Core.Option.{none, some-injective}
use mathlib.Core.Logic.{dite}
use native.Mathlib.Decide.{ℕ_discrete}
use Rattle.atomic_table.specs.Table.{State, Me, step, keeps, Allows, Final, Seen}
use Rattle.pm3_core.specs.Machine.{put}
use Rattle.pm3_history.specs.Entry.{Done}
use Rattle.pm3_table.specs.declared.view.Told.{Told}
use Rattle.pm3_table.specs.declared.view.View.{View}
use Rattle.pm3_table.specs.Closing.{IsClosed}
use Rattle.pm3_table.specs.Crew.{Lives, total}
use Rattle.pm3_table.specs.Counts.{CountsRule, counts, counted_under}
use Rattle.pm3_table.specs.Draws.{DrawsRule, DrawView, drew}
use Rattle.pm3_table.specs.Entries.{makes, keeps_in}
use Rattle.pm3_table.specs.Histories.{by}
use Rattle.pm3_table.specs.Holds.{holds_of, is_in}
use Rattle.pm3_table.specs.Lost.{LostRule}
use Rattle.pm3_table.specs.Names.{NamesRule}
use Rattle.pm3_table.specs.Pages.{PagesRule}
use Rattle.pm3_table.specs.Plays as play
use Rattle.pm3_table.specs.Rows.{RowsRule, moves_of}
use Rattle.pm3_table.specs.Rule.{Ruled, row_view, unit_view, page_view, draw_view, name_view, count_view, lost_view}
use Rattle.pm3_table.specs.Telling.{Lawful, limit, first, names, names_page, Good, spans_in, counted_in}
use Rattle.pm3_table.specs.Units.{UnitsRule}
use Rattle.pm3_table.specs.Words.{counter_at, turn_unit}
use Rattle.pm3_table.proofs.Advances.{seated_now, unchanged}
use Rattle.pm3_table.proofs.Encoded.{encode_same}
use Rattle.pm3_table.proofs.Enters.{not_dead}
use Rattle.pm3_table.proofs.Put.{put_else, put_cases}
use Rattle.pm3_table.proofs.RowSteps.{equal_by, here_is, here_lives, row_low, holds_not}
use Rattle.pm3_table.proofs.Totals.{total_put, total_part, total_none}
use Rattle.pm3_table.proofs.PagesKept.{yes_or_no}

-- where one summand is the whole sum, each other is 0
only_one : (f : ℕ → ℕ) (k j : ℕ) → k < 32 → j < 32 → j ≢ k → total 32 f ≡ f k → f j ≡ 0
only_one f k j low_k low_j other all =
    let p = total_put 32 f k 0 low_k in
    let q : put f k 0 j ≤ total 32 (put f k 0) = total_part 32 (put f k 0) j low_j in
    let same : put f k 0 j ≡ f j = put_else f k 0 j other in
    omega (arith, p, q, same, all)

counts_one : (v : DrawView) → v.live ≡ true → v.rows ≡ suc (v.rows - 1) → drew 2 v ≡ 0 → ⊥
counts_one v live some_rows none_drawn = let a : drew 2 v ≡ v.rows = grind (arith, nat_tests, live) in omega (arith, a, some_rows, none_drawn)

dead_drew : (v : View) → v.live ≡ false → drew 2 (draw_view v) ≡ 0
dead_drew v dead = grind (arith, nat_tests, dead)

drew_is : (v : View) → v.live ≡ true → v.rows ≡ [] → drew 2 (draw_view v) ≡ length v.kept + 1
drew_is v live no_rows = let nil : length v.rows ≡ 0 = ap (length {A = ℕ}) no_rows in grind (arith, nat_tests, live, nil)

module _ {V : Type 0} (stands : Told → List Done → List Done → ℕ → V → Type 0) (spans : V → List ℕ) (counted : V → ℕ) (told : Told) where
  abbrev Rule : State (Option V) View → Type 0
  Rule = Ruled stands spans counted told

  module _ (s : State (Option V) View) (r : Rule s) (id : ℕ) (v : View) (l : Lives s.views id v) where
    -- one that counts all rows made is the only one that lives
    alone : v.rows ≡ [] → min (r.counter 2) 32 ≡ length v.kept + 1 → (j : ℕ) → (r.crew j).live ≡ true → j ≡ v.row
    alone no_rows all j live = dite (ℕ_discrete j v.row) (λ e. e) (λ o.
        let f : ℕ → ℕ = λ k. drew 2 (draw_view (r.crew k)) in
        let sum = r.draws.sum 2 (omega arith) in
        let mine : f v.row ≡ length v.kept + 1 = ap (λ (y : View). drew 2 (draw_view y)) (here_is stands spans counted told s r id v l) ∙ drew_is v l.1 no_rows in
        let none_there : f j ≡ 0 = only_one f v.row j (row_low stands spans counted told s r id v l) (r.seated.below j live) o (omega (arith, sum, mine, all)) in
        absurd (counts_one (draw_view (r.crew j)) live (omega arith) none_there))

    -- it counts no more than were made
    pub few : v.rows ≡ [] → length v.kept + 1 ≤ min (r.counter 2) 32
    few no_rows =
        let f : ℕ → ℕ = λ k. drew 2 (draw_view (r.crew k)) in
        let sum = r.draws.sum 2 (omega arith) in
        let mine : f v.row ≡ length v.kept + 1 = ap (λ (y : View). drew 2 (draw_view y)) (here_is stands spans counted told s r id v l) ∙ drew_is v l.1 no_rows in
        let part : f v.row ≤ total 32 f = total_part 32 f v.row (row_low stands spans counted told s r id v l) in
        omega (arith, sum, mine, part)

    -- a load of the row counter tells whether it is the only one
    pub sees_last : (b : Bool) (n : ℕ) → (min (r.counter 2) 32 == length v.kept + 1) ≡ b → v.rows ≡ [] → (i : ℕ)
        → Rule record { words = set s.words i (get_or s.words i 0); homes = s.homes; views = set s.views id (record v { last = b; made = n }) }
    sees_last b n is no_rows i =
        let w : View = record v { last = b; made = n } in
        let live : w.live ≡ true = l.1 in
        record {
          crew = put r.crew v.row w;
          seated = seated_now s.views r.crew r.seated id v w l live refl;
          machine = r.machine;
          holder = r.holder;
          space = r.space;
          used = r.used;
          counter = r.counter;
          history = r.history;
          lost = r.lost;
          words = encode_same told.pages r.machine.word r.holder r.machine.mark r.space r.counter s.words r.words i;
          rows = unchanged s.views r.crew r.seated id v w l live refl row_view (RowsRule told.pages (moves_of r.history) r.machine) refl r.rows;
          units = unchanged s.views r.crew r.seated id v w l live refl unit_view (UnitsRule (Good stands told r.lost) (counted_in counted) (turn_unit told.pages) (names told) r.holder r.history s.homes) refl r.units;
          paged = unchanged s.views r.crew r.seated id v w l live refl page_view (PagesRule None (spans_in spans) told.pages told.frontier (names_page told) keeps_in (r.counter 0) r.used r.machine.mark r.space r.holder r.history s.homes) refl r.paged;
          draws = unchanged s.views r.crew r.seated id v w l live refl draw_view (DrawsRule (limit told) (first told) r.counter) refl r.draws;
          named = unchanged s.views r.crew r.seated id v w l live refl name_view (NamesRule makes told.next_name (r.counter 1) r.history) refl r.named;
          counts = unchanged s.views r.crew r.seated id v w l live refl count_view (CountsRule (min (r.counter 2) 32) r.history) refl r.counts;
          failed = unchanged s.views r.crew r.seated id v w l live refl lost_view (LostRule (r.holder (turn_unit told.pages)) r.lost) refl r.failed;
          lasts = λ k. put_cases (λ y. y.live ≡ true → y.last ≡ true → (j : ℕ) → (put r.crew v.row w j).live ≡ true → j ≡ k) r.crew v.row w k
              (λ here _ is_last j live_j. alone no_rows (equal_by (min (r.counter 2) 32) (length v.kept + 1) (is ∙ is_last)) j (was j live_j) ∙ sym here)
              (λ _ live_k last_k j live_j. r.lasts k live_k last_k j (was j live_j));
          lawful = r.lawful;
          bounds = r.bounds;
        }
      where
        was : (j : ℕ) → (put r.crew v.row (record v { last = b; made = n }) j).live ≡ true → (r.crew j).live ≡ true
        was j = put_cases (λ y. y.live ≡ true → (r.crew j).live ≡ true) r.crew v.row (record v { last = b; made = n }) j
            (λ here _. ap (λ (k : ℕ). (r.crew k).live) here ∙ here_lives stands spans counted told s r id v l) (λ _ x. x)

  pub last_call : (slots id : ℕ) (me : Me (Option V) View) → me.0.live ≡ true → me.0.rows ≡ [] → (at : ℕ) → at ≡ counter_at told.pages 2
      → Allows Rule slots id me at (λ n. n) (play.lasts (step slots at 0 0 none) me)
  last_call slots id me live no_rows at is = rw is (λ s r deep seat fits.
      let n : ℕ = get_or s.words (counter_at told.pages 2) 0 in
      let b : Bool = min n 32 == length me.0.kept + 1 in
      let same : n ≡ r.counter 2 = r.words.counters 2 (omega arith) in
      let least = few s r id me.0 (seat, live) no_rows in (
        record me.0 { last = b; made = min n 32 },
        keeps,
        tt,
        sees_last s r id me.0 (seat, live) b (min n 32) (λ i. min (sym same i) 32 == length me.0.kept + 1) no_rows (counter_at told.pages 2),
        (refl, omega (arith, same, least)),
      ))

  -- a table closed by one that saw that it is the last, and that holds nothing
  pub closes : (id : ℕ) (old : View) (made : ℕ) (words : List ℕ) (slots : List (Option V)) → old.live ≡ true → ((u : ℕ) → holds_of old.holds u ≡ false) → old.rows ≡ []
      → Final (Seen Rule id (record old { last = true; made = made })) words slots → IsClosed stands counted told old (length old.kept + 1) slots
  closes id old made words slots live bare no_rows final =
      let v : View = record old { last = true; made = made } in
      let s = final.0 in let r : Rule s = final.1.0 in let l : Lives s.views id v = (final.1.1, live) in
      let here = here_is stands spans counted told s r id v l in
      let lives = here_lives stands spans counted told s r id v l in
      let last_here : (r.crew v.row).last ≡ true = ap (λ (y : View). y.last) here in
      let only : (j : ℕ) → (r.crew j).live ≡ true → j ≡ v.row = λ j lj. r.lasts v.row lives last_here j lj in
      let free : (u : ℕ) → r.holder u ≡ 0 = λ u. dite (ℕ_discrete (r.holder u) 0) (λ e. e)
      (λ o. let h = (r.units.held u o).1 in absurd (holds_not stands spans counted told s r id v l u (bare u) (h.1 ∙ ap (λ (n : ℕ). n + 1) (only h.0 h.2)))) in
      let seen : r.history ≡ v.seen = r.units.one_sees.2 ∙ ap (λ (y : View). y.seen) (ap r.crew (only r.units.one_sees.0 r.units.one_sees.1) ∙ here) in
      let lost_is : r.lost ≡ v.failed = sym (fails s r v.row lives only) ∙ ap (λ (y : View). y.failed) here in
      let f : ℕ → ℕ = λ k. drew 2 (draw_view (r.crew k)) in
      let none_else : (j : ℕ) → put f v.row 0 j ≡ 0 = λ j. put_cases (λ n. n ≡ 0) f v.row 0 j (λ _. refl)
      (λ o. dead_drew (r.crew j) (⊎_elim (λ y. absurd (o (only j y))) (λ n. n) (yes_or_no (r.crew j).live))) in
      let whole = total_put 32 f v.row 0 (row_low stands spans counted told s r id v l) in
      let zero_sum : total 32 (put f v.row 0) ≡ 0 = total_none 32 (put f v.row 0) none_else in
      let mine : f v.row ≡ length v.kept + 1 = ap (λ (y : View). drew 2 (draw_view y)) here ∙ drew_is v live no_rows in
      let sum = r.draws.sum 2 (omega arith) in
      let made_is : length old.kept + 1 ≡ min (r.counter 2) 32 = omega (arith, whole, zero_sum, mine, sum) in
      let last : ℕ = turn_unit told.pages in
      let last_home = r.units.home last (omega arith) (free last) in
      record {
        wide = sym final.3 ∙ r.units.deep ∙ omega arith;
        heard = λ x at.
            let same : x ≡ last_home.0 = some-injective x last_home.0 (sym at ∙ final.4 last last_home.0 last_home.1) in
            let most : (r.crew v.row).faults ≤ counted_in counted last_home.0 = r.units.heard last_home.0 last_home.1 v.row lives in
            let own : (r.crew v.row).faults ≡ old.faults = ap (λ (y : View). y.faults) here in
            let counts_same : counted_in counted x ≡ counted_in counted last_home.0 = ap (counted_in counted) same in
            omega (arith, most, own, counts_same);
        lawful = subst (λ (h : List Done). Lawful told h) seen r.lawful.0;
        lawful_failed = subst (λ (z : List Done × List Done). Lawful told (z.1 ++ z.0)) (λ i. (lost_is i, seen i)) r.lawful.1;
        stand = λ u low. let home = r.units.home u (omega (arith, low)) (free u) in
            (home.0, final.4 u home.0 home.1, subst (λ (z : List Done × List Done). Good stands told z.0 z.1 u home.0) (λ i. (lost_is i, seen i)) home.2);
        kept = λ k below.
            let low : k < min (r.counter 2) 32 = subst (λ (n : ℕ). k < n) made_is below in
            let keeper : r.counts.keeper k ≡ v.row = only (r.counts.keeper k) (r.counts.lives k low) in
            let counted_it : counts v.row (count_view v) k ≡ true = ⊎_elim
            (λ a. ap (λ (y : View). counts v.row (count_view y) k) (sym here) ∙ (ap (λ (j : ℕ). counts j (count_view (r.crew j)) k) (sym keeper) ∙ a))
            (λ a. not_dead (counts v.row (count_view v) k ≡ true) (ap (λ (y : View). is_in k y.rows) (sym here) ∙ (ap (λ (j : ℕ). is_in k (r.crew j).rows) (sym keeper) ∙ a)) (ap (is_in k) no_rows)) (r.counts.kept k low) in (
              counted_it,
              ap (λ (y : View). counted_under v.row (count_view y) k) (sym here)
                  ∙ (r.counts.entries v.row k lives (ap (λ (y : View). counts v.row (count_view y) k) here ∙ counted_it) ∙ ap (by k) seen),
            );
      }
    where
      fails : (s : State (Option V) View) (r : Rule s) (k : ℕ) → (r.crew k).live ≡ true → ((j : ℕ) → (r.crew j).live ≡ true → j ≡ k) → (r.crew k).failed ≡ r.lost
      fails s r k lives only = dite (ℕ_discrete k r.failed.bearer)
          (λ e. ap (λ (j : ℕ). (r.crew j).failed) e ∙ r.failed.bears (ap (λ (j : ℕ). (r.crew j).live) (sym e) ∙ lives))
          (λ o. r.failed.others k lives o ∙ sym (⊎_elim (λ e. e) (λ b. absurd (o (sym (only r.failed.bearer b)))) r.failed.lives))
