-- Steps of draws, and a look at a page's word, keep the whole rule.
use Rattle.std.proofs.Common.{◌≡◌, ◌≢◌, ◌⊎◌, ℕ, suc, ◌+◌, ◌^◌, ◌<◌, ◌≤◌, Bool, true, false, List, [], ◌∷◌, ◌++◌, length, get_or, min, Option, None, refl, sym, ap, ◌∙◌, subst, inl, inr, arith}
use Rattle.std.proofs.Math.ListN.{set}
use Rattle.std.proofs.lemmas.Bool.Decides.{nat_tests}
use mathlib.Core.Logic.{dite}
use native.Mathlib.Decide.{ℕ_discrete}
use Rattle.atomic_table.specs.Table.{State}
use Rattle.pm3_core.specs.Machine.{put}
use Rattle.pm3_history.specs.Entry.{Done}
use Rattle.pm3_table.specs.declared.view.Told.{Told}
use Rattle.pm3_table.specs.declared.view.View.{View}
use Rattle.pm3_table.specs.Crew.{Lives}
use Rattle.pm3_table.specs.Entries.{makes, writes, keeps_in}
use Rattle.pm3_table.specs.Histories.{some_has}
use Rattle.pm3_table.specs.Holds.{is_in}
use Rattle.pm3_table.specs.Names.{NamesRule}
use Rattle.pm3_table.specs.Ops.{begins_draw, saw_full, drew_page, drew_name, drew_row, knew}
use Rattle.pm3_table.specs.Telling.{limit, first, names, names_page, Good, spans_in, counted_in, is_steady, knows_used, IsNewName, IsNewPage}
use Rattle.pm3_table.specs.Words.{Encodes, unit_at, counter_at, space_in, turn_unit}
use Rattle.pm3_table.specs.Rows.{RowsRule, moves_of}
use Rattle.pm3_table.specs.Pages.{PagesRule}
use Rattle.pm3_table.specs.Units.{UnitsRule}
use Rattle.pm3_table.specs.Draws.{is_drawing, drew, DrawsRule}
use Rattle.pm3_table.specs.Counts.{CountsRule}
use Rattle.pm3_table.specs.Lost.{LostRule}
use Rattle.pm3_table.specs.Lasts.{LastRule}
use Rattle.pm3_table.specs.Rule.{Ruled, row_view, unit_view, page_view, draw_view, name_view, count_view, lost_view, last_view}
use Rattle.pm3_table.proofs.Put.{put_cases}
use Rattle.pm3_table.proofs.Has.{by_past, has_left}
use Rattle.pm3_table.proofs.Advances.{seated_now, unchanged}
use Rattle.pm3_table.proofs.Encoded.{encode_same, encode_counter}
use Rattle.pm3_table.proofs.RowSteps.{at_view, here_is, here_lives, row_low, space_found, in_space}
use Rattle.pm3_table.proofs.DrawsKept.{draws_part, from_first}
use Rattle.pm3_table.proofs.PagesKept.{page_with, pages_draw, pages_higher, pages_look}
use Rattle.pm3_table.proofs.NamesKept.{name_with, names_draw, names_higher, count_with, rows_draw}
use Rattle.pm3_table.proofs.TurnSteps.{used_is}
use Rattle.pm3_table.proofs.UnitSteps.{either_steady}

-- one that draws from a counter, or from none
is_busy : (c : ℕ) (v : View) → v.live ≡ true → v.drawing ≡ c + 1 → is_drawing c (draw_view v) ≡ 1
is_busy c v live is = grind (arith, nat_tests, live, is)

is_idle : (c : ℕ) (v : View) → v.drawing ≡ 0 → is_drawing c (draw_view v) ≡ 0
is_idle c v is = grind (arith, nat_tests, is)

busy_same : (c i : ℕ) (v : View) (n m : ℕ) → (i ≡ c → ⊥) → n + is_drawing i (draw_view (begins_draw c v)) ≤ n + is_drawing i (draw_view v)
busy_same c i v n m other =
    let nil : is_drawing i (draw_view (begins_draw c v)) ≡ 0 = grind (arith, nat_tests, other) in omega (arith, nil)

idle_less : (i c : ℕ) (v : View) (n : ℕ) → n + is_drawing i (draw_view (saw_full c v)) ≤ n + is_drawing i (draw_view v)
idle_less i c v n = let nil : is_drawing i (draw_view (saw_full c v)) ≡ 0 = grind (arith, nat_tests) in omega (arith, nil)

either_in : (i c : ℕ) (xs : List ℕ) {X : Type 0} → is_in i (c ∷ xs) ≡ true → (c ≡ i → X) → (is_in i xs ≡ true → X) → X
either_in i c xs is a b = dite (ℕ_discrete c i) a (λ o. b (grind (arith, nat_tests, o, is)))

page_more : (v w : View) → v.live ≡ true → w.live ≡ true → w.drew_pages ≡ v.drew_pages + 1 → drew 0 (draw_view w) ≡ drew 0 (draw_view v) + 1
page_more v w a b e = grind (arith, nat_tests, a, b, e)

page_others : (v w : View) → v.live ≡ true → w.live ≡ true → w.drew_names ≡ v.drew_names → length w.kept + 1 + length w.rows ≡ length v.kept + 1 + length v.rows
    → (i : ℕ) → i < 3 → i ≢ 0 → drew i (draw_view w) ≡ drew i (draw_view v)
page_others v w a b e f i low o = grind (arith, nat_tests, a, b, e, f, o)

name_more : (v w : View) → v.live ≡ true → w.live ≡ true → w.drew_names ≡ v.drew_names + 1 → drew 1 (draw_view w) ≡ drew 1 (draw_view v) + 1
name_more v w a b e = grind (arith, nat_tests, a, b, e)

name_others : (v w : View) → v.live ≡ true → w.live ≡ true → w.drew_pages ≡ v.drew_pages → length w.kept + 1 + length w.rows ≡ length v.kept + 1 + length v.rows
    → (i : ℕ) → i < 3 → i ≢ 1 → drew i (draw_view w) ≡ drew i (draw_view v)
name_others v w a b e f i low o = grind (arith, nat_tests, a, b, e, f, o)

row_more : (v w : View) → v.live ≡ true → w.live ≡ true → length w.kept ≡ length v.kept → length w.rows ≡ suc (length v.rows) → drew 2 (draw_view w) ≡ drew 2 (draw_view v) + 1
row_more v w a b e f = grind (arith, nat_tests, a, b, e, f)

row_others : (v w : View) → v.live ≡ true → w.live ≡ true → w.drew_pages ≡ v.drew_pages → w.drew_names ≡ v.drew_names
    → (i : ℕ) → i < 3 → i ≢ 2 → drew i (draw_view w) ≡ drew i (draw_view v)
row_others v w a b e f i low o = grind (arith, nat_tests, a, b, e, f, o, low)

module _ {V : Type 0} (stands : Told → List Done → List Done → ℕ → V → Type 0) (spans : V → List ℕ) (counted : V → ℕ) (told : Told) where
  abbrev S : Type 0
  S = State (Option V) View

  abbrev Rule : S → Type 0
  Rule = Ruled stands spans counted told

  module _ (s : S) (r : Rule s) (id : ℕ) (v : View) (l : Lives s.views id v) where
    -- a step that changes the counters, and what the views know of them; the parts are given
    pub draw_step : (words' : List ℕ) (counter' : ℕ → ℕ) (w : View) → (live : w.live ≡ true) → (row : w.row ≡ v.row)
        → row_view w ≡ row_view v → unit_view w ≡ unit_view v → lost_view w ≡ lost_view v → last_view w ≡ last_view v
        → Encodes told.pages r.machine.word r.holder r.machine.mark r.space counter' words'
        → PagesRule None (spans_in spans) told.pages told.frontier (names_page told) keeps_in (counter' 0) r.used r.machine.mark r.space r.holder r.history s.homes (λ k. page_view (put r.crew v.row w k))
        → DrawsRule (limit told) (first told) counter' (λ k. draw_view (put r.crew v.row w k))
        → NamesRule makes told.next_name (counter' 1) r.history (λ k. name_view (put r.crew v.row w k))
        → CountsRule (min (counter' 2) 32) r.history (λ k. count_view (put r.crew v.row w k))
        → Rule record { words = words'; homes = s.homes; views = set s.views id w }
    draw_step words' counter' w live row rows_same units_same lost_same last_same words paged draws named counts = record {
      crew = put r.crew v.row w;
      seated = seated_now s.views r.crew r.seated id v w l live row;
      machine = r.machine;
      holder = r.holder;
      space = r.space;
      used = r.used;
      counter = counter';
      history = r.history;
      lost = r.lost;
      words = words;
      rows = unchanged s.views r.crew r.seated id v w l live row row_view (RowsRule told.pages (moves_of r.history) r.machine) rows_same r.rows;
      units = unchanged s.views r.crew r.seated id v w l live row unit_view (UnitsRule (Good stands told r.lost) (counted_in counted) (turn_unit told.pages) (names told) r.holder r.history s.homes) units_same r.units;
      paged = paged;
      draws = draws;
      named = named;
      counts = counts;
      failed = unchanged s.views r.crew r.seated id v w l live row lost_view (LostRule (r.holder (turn_unit told.pages)) r.lost) lost_same r.failed;
      lasts = unchanged s.views r.crew r.seated id v w l live row last_view LastRule last_same r.lasts;
      lawful = r.lawful;
      bounds = r.bounds;
    }

    -- the parts that a step leaves
    same_pages : (top' : ℕ) (w : View) → w.live ≡ true → w.row ≡ v.row → page_view w ≡ page_view v → r.counter 0 ≤ top'
        → PagesRule None (spans_in spans) told.pages told.frontier (names_page told) keeps_in top' r.used r.machine.mark r.space r.holder r.history s.homes (λ k. page_view (put r.crew v.row w k))
    same_pages top' w live row same up = unchanged s.views r.crew r.seated id v w l live row page_view (PagesRule None (spans_in spans) told.pages told.frontier (names_page told) keeps_in top' r.used r.machine.mark r.space r.holder r.history s.homes) same
        (pages_higher None (spans_in spans) told.pages told.frontier (names_page told) keeps_in (r.counter 0) r.used r.machine.mark r.space r.holder r.history s.homes (λ k. page_view (r.crew k)) r.paged top' up)

    same_names : (top' : ℕ) (w : View) → w.live ≡ true → w.row ≡ v.row → name_view w ≡ name_view v → r.counter 1 ≤ top'
        → NamesRule makes told.next_name top' r.history (λ k. name_view (put r.crew v.row w k))
    same_names top' w live row same up = unchanged s.views r.crew r.seated id v w l live row name_view (NamesRule makes told.next_name top' r.history) same
        (names_higher makes told.next_name (r.counter 1) r.history (λ k. name_view (r.crew k)) r.named top' up)

    same_counts : (made : ℕ) (w : View) → w.live ≡ true → w.row ≡ v.row → count_view w ≡ count_view v → made ≡ min (r.counter 2) 32
        → CountsRule made r.history (λ k. count_view (put r.crew v.row w k))
    same_counts made w live row same is = subst (λ n. CountsRule n r.history (λ k. count_view (put r.crew v.row w k))) (sym is)
        (unchanged s.views r.crew r.seated id v w l live row count_view (CountsRule (min (r.counter 2) 32) r.history) same r.counts)

    -- the views of draws, with the row's view in its place
    new_draws : (counter' : ℕ → ℕ) (w : View) → w.live ≡ true → w.row ≡ v.row
        → ((c : ℕ) → r.counter c ≤ counter' c)
        → ((c : ℕ) → is_in c w.filled ≡ true → limit told c ≤ counter' c)
        → ((c : ℕ) → c < 3 → min (counter' c) (limit told c) + drew c (draw_view v) ≡ min (r.counter c) (limit told c) + drew c (draw_view w))
        → ((c : ℕ) → c < 3 → limit told c ≤ counter' c → (limit told c ≤ r.counter c) ⊎ (counter' c ≡ limit told c))
        → ((c : ℕ) → c < 3 → limit told c ≤ r.counter c → counter' c + is_drawing c (draw_view w) ≤ r.counter c + is_drawing c (draw_view v))
        → DrawsRule (limit told) (first told) counter' (λ k. draw_view (put r.crew v.row w k))
    new_draws counter' w live row up filled sums reach excess =
        let here = here_is stands spans counted told s r id v l in
        at_view s.views r.crew r.seated id v w l live row draw_view (DrawsRule (limit told) (first told) counter') (draw_view w) refl
        (draws_part (limit told) (first told) r.counter (λ k. draw_view (r.crew k)) r.draws v.row (row_low stands spans counted told s r id v l) (here_lives stands spans counted told s r id v l) (draw_view w) live counter' up filled
        (λ c low. subst (λ (y : View). min (counter' c) (limit told c) + drew c (draw_view y) ≡ min (r.counter c) (limit told c) + drew c (draw_view w)) (sym here) (sums c low))
        reach
        (λ c low full. subst (λ (y : View). counter' c + is_drawing c (draw_view w) ≤ r.counter c + is_drawing c (draw_view y)) (sym here) (excess c low full)))

    filled_was : (c : ℕ) → is_in c v.filled ≡ true → limit told c ≤ r.counter c
    filled_was c is = r.draws.full v.row (here_lives stands spans counted told s r id v l) c (ap (λ (y : View). is_in c y.filled) (here_is stands spans counted told s r id v l) ∙ is)

    -- a load of a counter that is below its limit, by one that draws nothing
    pub begins : (c : ℕ) → c < 3 → v.drawing ≡ 0 → r.counter c < limit told c
        → Rule record { words = set s.words (counter_at told.pages c) (get_or s.words (counter_at told.pages c) 0); homes = s.homes; views = set s.views id (begins_draw c v) }
    begins c low idle below =
        let w : View = begins_draw c v in
        draw_step (set s.words (counter_at told.pages c) (get_or s.words (counter_at told.pages c) 0)) r.counter w l.1 refl refl refl refl refl
        (encode_same told.pages r.machine.word r.holder r.machine.mark r.space r.counter s.words r.words (counter_at told.pages c))
        (same_pages (r.counter 0) w l.1 refl refl (omega arith))
        (new_draws r.counter w l.1 refl (λ i. omega arith) (λ i is. filled_was i is) (λ i _. refl)
        (λ i _ full. inl full)
        (λ i _ full. busy_same c i v (r.counter i) (limit told i) (λ e. let a : r.counter i < limit told i = subst (λ n. r.counter n < limit told n) (sym e) below in omega (arith, a, full))))
        (same_names (r.counter 1) w l.1 refl refl (omega arith))
        (same_counts (min (r.counter 2) 32) w l.1 refl refl refl)

    -- a load of a counter that is full
    pub sees_full : (c : ℕ) → c < 3 → limit told c ≤ r.counter c
        → Rule record { words = set s.words (counter_at told.pages c) (get_or s.words (counter_at told.pages c) 0); homes = s.homes; views = set s.views id (saw_full c v) }
    sees_full c low full =
        let w : View = saw_full c v in
        draw_step (set s.words (counter_at told.pages c) (get_or s.words (counter_at told.pages c) 0)) r.counter w l.1 refl refl refl refl refl
        (encode_same told.pages r.machine.word r.holder r.machine.mark r.space r.counter s.words r.words (counter_at told.pages c))
        (same_pages (r.counter 0) w l.1 refl refl (omega arith))
        (new_draws r.counter w l.1 refl (λ i. omega arith)
        (λ i is. either_in i c v.filled is (λ e. subst (λ n. limit told n ≤ r.counter n) e full) (filled_was i)) (λ i _. refl)
        (λ i _ past. inl past) (λ i _ past. idle_less i c v (r.counter i)))
        (same_names (r.counter 1) w l.1 refl refl (omega arith))
        (same_counts (min (r.counter 2) 32) w l.1 refl refl refl)

    -- a load that tells nothing
    pub stays_same : (i : ℕ) → Rule record { words = set s.words i (get_or s.words i 0); homes = s.homes; views = set s.views id v }
    stays_same i = draw_step (set s.words i (get_or s.words i 0)) r.counter v l.1 refl refl refl refl refl
        (encode_same told.pages r.machine.word r.holder r.machine.mark r.space r.counter s.words r.words i)
        (same_pages (r.counter 0) v l.1 refl refl (omega arith))
        (unchanged s.views r.crew r.seated id v v l l.1 refl draw_view (DrawsRule (limit told) (first told) r.counter) refl r.draws)
        (same_names (r.counter 1) v l.1 refl refl (omega arith))
        (same_counts (min (r.counter 2) 32) v l.1 refl refl refl)

    -- a look at the word of a page that the view knows to be used, and that shows no space
    pub looks : (frame : (lost h : List Done) (e : Done) (u : ℕ) (x : V) → names told e u ≡ false → stands told lost h u x → stands told lost (h ++ e ∷ []) u x)
        → (alike : (lost more h : List Done) (u : ℕ) (x : V) → u ≢ turn_unit told.pages → stands told lost h u x → stands told more h u x)
        → (p : ℕ) → p < told.pages → knows_used told v p ≡ true → space_in (get_or s.words (unit_at p) 0) ≡ 0
        → Rule record { words = set s.words (unit_at p) (get_or s.words (unit_at p) 0); homes = s.homes; views = set s.views id (knew v p) }
    looks frame alike p low knows bare =
        let w : View = knew v p in
        let here = here_is stands spans counted told s r id v l in
        let plain : r.space p ≡ 0 = sym (space_found stands spans counted told s r id v l p low) ∙ bare in
        draw_step (set s.words (unit_at p) (get_or s.words (unit_at p) 0)) r.counter w l.1 refl refl refl refl refl
        (encode_same told.pages r.machine.word r.holder r.machine.mark r.space r.counter s.words r.words (unit_at p))
        (at_view s.views r.crew r.seated id v w l l.1 refl page_view (PagesRule None (spans_in spans) told.pages told.frontier (names_page told) keeps_in (r.counter 0) r.used r.machine.mark r.space r.holder r.history s.homes)
        (page_with (r.crew v.row).holds (r.crew v.row).spans (p ∷ (r.crew v.row).steady) (r.crew v.row).pages)
        (λ i. record { live = sym l.1 i; holds = (here i).holds; spans = (here i).spans; steady = p ∷ (here i).steady; pages = (here i).pages })
        (pages_look None (spans_in spans) told.pages told.frontier (names_page told) keeps_in (r.counter 0) r.used r.machine.mark r.space r.holder r.history s.homes (λ k. page_view (r.crew k)) r.paged v.row (here_lives stands spans counted told s r id v l) p
        (used_is stands spans counted told frame alike s r id v l p knows) plain))
        (unchanged s.views r.crew r.seated id v w l l.1 refl draw_view (DrawsRule (limit told) (first told) r.counter) refl r.draws)
        (same_names (r.counter 1) w l.1 refl refl (omega arith))
        (same_counts (min (r.counter 2) 32) w l.1 refl refl refl)

    -- a fetch of a counter past its limit, by one that draws from it
    pub fetches_full : (c : ℕ) → c < 3 → v.drawing ≡ c + 1 → limit told c ≤ r.counter c
        → Rule record { words = set s.words (counter_at told.pages c) (r.counter c + 1); homes = s.homes; views = set s.views id (saw_full c v) }
    fetches_full c low drawing full =
        let w : View = saw_full c v in
        let counter' : ℕ → ℕ = put r.counter c (r.counter c + 1) in
        let up : (i : ℕ) → r.counter i ≤ counter' i = λ i. put_cases (λ x. r.counter i ≤ x) r.counter c (r.counter c + 1) i (λ e. let a : r.counter i ≡ r.counter c = ap r.counter e in omega (arith, a)) (λ _. omega arith) in
        draw_step (set s.words (counter_at told.pages c) (r.counter c + 1)) counter' w l.1 refl refl refl refl refl
        (encode_counter told.pages r.machine.word r.holder r.machine.mark r.space r.counter s.words r.words c (r.counter c + 1) low)
        (same_pages (counter' 0) w l.1 refl refl (up 0))
        (new_draws counter' w l.1 refl up
        (λ i is. let a : limit told i ≤ r.counter i = either_in i c v.filled is (λ e. subst (λ n. limit told n ≤ r.counter n) e full) (filled_was i) in let b = up i in omega (arith, a, b))
        (λ i _. put_cases (λ x. min x (limit told i) + drew i (draw_view v) ≡ min (r.counter i) (limit told i) + drew i (draw_view v)) r.counter c (r.counter c + 1) i
        (λ e. let a : limit told i ≤ r.counter i = subst (λ n. limit told n ≤ r.counter n) (sym e) full in let b : r.counter i ≡ r.counter c = ap r.counter e in omega (arith, a, b)) (λ _. refl))
        (λ i _ past. put_cases (λ x. limit told i ≤ x → (limit told i ≤ r.counter i) ⊎ (x ≡ limit told i)) r.counter c (r.counter c + 1) i
        (λ e _. inl (subst (λ n. limit told n ≤ r.counter n) (sym e) full)) (λ _ p. inl p) past)
        (λ i _ past. put_cases (λ x. x + is_drawing i (draw_view w) ≤ r.counter i + is_drawing i (draw_view v)) r.counter c (r.counter c + 1) i
        (λ e. let b : r.counter i ≡ r.counter c = ap r.counter e in let one : is_drawing i (draw_view v) ≡ 1 = is_busy i v l.1 (drawing ∙ ap (λ n. n + 1) (sym e)) in let nil : is_drawing i (draw_view w) ≡ 0 = is_idle i w refl in omega (arith, b, one, nil))
        (λ _. let nil : is_drawing i (draw_view w) ≡ 0 = is_idle i w refl in omega (arith, nil))))
        (same_names (counter' 1) w l.1 refl refl (up 1))
        (same_counts (min (counter' 2) 32) w l.1 refl refl
        (put_cases (λ x. min x 32 ≡ min (r.counter 2) 32) r.counter c (r.counter c + 1) 2 (λ e. let a : 32 ≤ r.counter 2 = subst (λ n. limit told n ≤ r.counter n) (sym e) full in let b : r.counter 2 ≡ r.counter c = ap r.counter e in omega (arith, a, b)) (λ _. refl)))

    -- what is of the commits that the view has seen is of the history
    seen_has : (has : Done → ℕ → Bool) (n : ℕ) → some_has has v.seen n ≡ true → some_has has r.history n ≡ true
    seen_has has n is = let know = r.units.known v.row (here_lives stands spans counted told s r id v l) in
        ap (λ (h : List Done). some_has has h n) know.is
        ∙ has_left has (r.crew v.row).seen know.after n (ap (λ (x : View). some_has has x.seen n) (here_is stands spans counted told s r id v l) ∙ is)

    -- what the view knows to be persistent is used
    steady_used : (p : ℕ) → is_steady told v p ≡ true → r.used p ≡ true
    steady_used p steady = either_steady told v p steady (r.paged.opened p)
        (λ is. (r.paged.steady v.row (here_lives stands spans counted told s r id v l) p (ap (λ (x : View). is_in p x.steady) (here_is stands spans counted told s r id v l) ∙ is)).0)
        (λ is. (r.paged.written p (seen_has writes p is)).0)

    -- the counters after a fetch from one of them that is below its limit
    sums_of : (c : ℕ) (w : View) → r.counter c < limit told c → drew c (draw_view w) ≡ drew c (draw_view v) + 1 → ((i : ℕ) → i < 3 → i ≢ c → drew i (draw_view w) ≡ drew i (draw_view v)) → w.live ≡ true → w.drawing ≡ 0 → v.drawing ≡ c + 1 → w.filled ≡ v.filled → w.row ≡ v.row
        → DrawsRule (limit told) (first told) (put r.counter c (r.counter c + 1)) (λ k. draw_view (put r.crew v.row w k))
    sums_of c w below more others live idle drawing filled row =
        let counter' : ℕ → ℕ = put r.counter c (r.counter c + 1) in
        let up : (i : ℕ) → r.counter i ≤ counter' i = λ i. put_cases (λ x. r.counter i ≤ x) r.counter c (r.counter c + 1) i (λ e. let a : r.counter i ≡ r.counter c = ap r.counter e in omega (arith, a)) (λ _. omega arith) in
        new_draws counter' w live row up
        (λ i is. let a : limit told i ≤ r.counter i = filled_was i (ap (is_in i) (sym filled) ∙ is) in let b = up i in omega (arith, a, b))
        (λ i small. put_cases (λ x. min x (limit told i) + drew i (draw_view v) ≡ min (r.counter i) (limit told i) + drew i (draw_view w)) r.counter c (r.counter c + 1) i
        (λ e. let a : r.counter i < limit told i = subst (λ n. r.counter n < limit told n) (sym e) below in let b : r.counter i ≡ r.counter c = ap r.counter e in
        let d : drew i (draw_view w) ≡ drew i (draw_view v) + 1 = subst (λ n. drew n (draw_view w) ≡ drew n (draw_view v) + 1) (sym e) more in omega (arith, a, b, d))
        (λ o. let d = others i small o in omega (arith, d)))
        (λ i _ past. put_cases (λ x. limit told i ≤ x → (limit told i ≤ r.counter i) ⊎ (x ≡ limit told i)) r.counter c (r.counter c + 1) i
        (λ e p. let a : r.counter i < limit told i = subst (λ n. r.counter n < limit told n) (sym e) below in let b : r.counter i ≡ r.counter c = ap r.counter e in inr (omega (arith, a, b, p))) (λ _ p. inl p) past)
        (λ i _ past. put_cases (λ x. x + is_drawing i (draw_view w) ≤ r.counter i + is_drawing i (draw_view v)) r.counter c (r.counter c + 1) i
        (λ e. let b : r.counter i ≡ r.counter c = ap r.counter e in let one : is_drawing i (draw_view v) ≡ 1 = is_busy i v l.1 (drawing ∙ ap (λ n. n + 1) (sym e)) in let nil : is_drawing i (draw_view w) ≡ 0 = is_idle i w idle in omega (arith, b, one, nil))
        (λ _. let nil : is_drawing i (draw_view w) ≡ 0 = is_idle i w idle in omega (arith, nil)))

    -- the number at the counter of pages is that of a page that no one has or names
    pub new_page : IsNewPage told v (r.counter 0)
    new_page = record {
      from = from_first (limit told) (first told) r.counter (λ k. draw_view (r.crew k)) r.draws 0 (omega arith);
      elsewhere = λ j has.
          let sp = in_space stands spans counted told s r id v l j (r.counter 0) has in
          unused (r.paged.volatile (r.counter 0) (λ z. omega (arith, z, sp))).2;
      unnamed = falls (some_has (names_page told) v.seen (r.counter 0))
          (λ is. unused (r.paged.named (r.counter 0) (seen_has (names_page told) (r.counter 0) is)));
      unknown = falls (is_steady told v (r.counter 0)) (λ is. unused (steady_used (r.counter 0) is));
    }
      where
        falls : (b : Bool) → (b ≡ true → ⊥) → b ≡ false
        falls true never = absurd (never refl)
        falls false never = refl

        unused : r.used (r.counter 0) ≡ true → ⊥
        unused is = let low = (r.paged.low (r.counter 0) is).1 in omega (arith, low)

    -- the number at the counter of names is one that no commit made
    pub new_name : IsNewName told v (r.counter 1)
    new_name = record {
      from = from_first (limit told) (first told) r.counter (λ k. draw_view (r.crew k)) r.draws 1 (omega arith);
      undrawn = falls (is_in (r.counter 1) v.names) (λ is.
          let was = r.named.drawn v.row (here_lives stands spans counted told s r id v l) (r.counter 1) (ap (λ (x : View). is_in (r.counter 1) x.names) (here_is stands spans counted told s r id v l) ∙ is) in
          omega (arith, was.1));
      unmade = falls (some_has makes v.seen (r.counter 1))
          (λ is. let low = r.named.low (r.counter 1) (seen_has makes (r.counter 1) is) in omega (arith, low));
    }
      where
        falls : (b : Bool) → (b ≡ true → ⊥) → b ≡ false
        falls true never = absurd (never refl)
        falls false never = refl

    -- a page is drawn
    pub draws_page : v.drawing ≡ 1 → r.counter 0 < told.pages
        → Rule record { words = set s.words (counter_at told.pages 0) (r.counter 0 + 1); homes = s.homes; views = set s.views id (drew_page v (r.counter 0)) }
    draws_page drawing below =
        let w : View = drew_page v (r.counter 0) in
        let here = here_is stands spans counted told s r id v l in
        let counter' : ℕ → ℕ = put r.counter 0 (r.counter 0 + 1) in
        draw_step (set s.words (counter_at told.pages 0) (r.counter 0 + 1)) counter' w l.1 refl refl refl refl refl
        (encode_counter told.pages r.machine.word r.holder r.machine.mark r.space r.counter s.words r.words 0 (r.counter 0 + 1) (omega arith))
        (at_view s.views r.crew r.seated id v w l l.1 refl page_view (PagesRule None (spans_in spans) told.pages told.frontier (names_page told) keeps_in (r.counter 0 + 1) r.used r.machine.mark r.space r.holder r.history s.homes)
        (page_with (r.crew v.row).holds (r.crew v.row).spans (r.crew v.row).steady (r.counter 0 ∷ (r.crew v.row).pages))
        (λ i. record { live = sym l.1 i; holds = (here i).holds; spans = (here i).spans; steady = (here i).steady; pages = r.counter 0 ∷ (here i).pages })
        (pages_draw None (spans_in spans) told.pages told.frontier (names_page told) keeps_in (r.counter 0) r.used r.machine.mark r.space r.holder r.history s.homes (λ k. page_view (r.crew k)) r.paged v.row (here_lives stands spans counted told s r id v l)
        (from_first (limit told) (first told) r.counter (λ k. draw_view (r.crew k)) r.draws 0 (omega arith)) below))
        (sums_of 0 w below (page_more v w l.1 l.1 refl) (page_others v w l.1 l.1 refl refl) l.1 refl drawing refl refl)
        (same_names (r.counter 1) w l.1 refl refl (omega arith))
        (same_counts (min (r.counter 2) 32) w l.1 refl refl refl)

    -- a name is drawn
    pub draws_name : v.drawing ≡ 2 → r.counter 1 < 2 ^ 62
        → Rule record { words = set s.words (counter_at told.pages 1) (r.counter 1 + 1); homes = s.homes; views = set s.views id (drew_name v (r.counter 1)) }
    draws_name drawing below =
        let w : View = drew_name v (r.counter 1) in
        let here = here_is stands spans counted told s r id v l in
        let counter' : ℕ → ℕ = put r.counter 1 (r.counter 1 + 1) in
        draw_step (set s.words (counter_at told.pages 1) (r.counter 1 + 1)) counter' w l.1 refl refl refl refl refl
        (encode_counter told.pages r.machine.word r.holder r.machine.mark r.space r.counter s.words r.words 1 (r.counter 1 + 1) (omega arith))
        (same_pages (r.counter 0) w l.1 refl refl (omega arith))
        (sums_of 1 w below (name_more v w l.1 l.1 refl) (name_others v w l.1 l.1 refl refl) l.1 refl drawing refl refl)
        (at_view s.views r.crew r.seated id v w l l.1 refl name_view (NamesRule makes told.next_name (r.counter 1 + 1) r.history)
        (name_with (r.counter 1 ∷ (r.crew v.row).names)) (λ i. record { live = sym l.1 i; names = r.counter 1 ∷ (here i).names })
        (names_draw makes told.next_name (r.counter 1) r.history (λ k. name_view (r.crew k)) r.named v.row (here_lives stands spans counted told s r id v l)
        (from_first (limit told) (first told) r.counter (λ k. draw_view (r.crew k)) r.draws 1 (omega arith))))
        (same_counts (min (r.counter 2) 32) w l.1 refl refl refl)

    -- a row is drawn
    pub draws_row : v.drawing ≡ 3 → r.counter 2 < 32
        → Rule record { words = set s.words (counter_at told.pages 2) (r.counter 2 + 1); homes = s.homes; views = set s.views id (drew_row v (r.counter 2)) }
    draws_row drawing below =
        let w : View = drew_row v (r.counter 2) in
        let here = here_is stands spans counted told s r id v l in
        let counter' : ℕ → ℕ = put r.counter 2 (r.counter 2 + 1) in
        let made : min (r.counter 2) 32 ≡ r.counter 2 = omega (arith, below) in
        let made' : r.counter 2 + 1 ≡ min (r.counter 2 + 1) 32 = omega (arith, below) in
        draw_step (set s.words (counter_at told.pages 2) (r.counter 2 + 1)) counter' w l.1 refl refl refl refl refl
        (encode_counter told.pages r.machine.word r.holder r.machine.mark r.space r.counter s.words r.words 2 (r.counter 2 + 1) (omega arith))
        (same_pages (r.counter 0) w l.1 refl refl (omega arith))
        (sums_of 2 w below (row_more v w l.1 l.1 refl refl) (row_others v w l.1 l.1 refl refl) l.1 refl drawing refl refl)
        (same_names (r.counter 1) w l.1 refl refl (omega arith))
        (subst (λ n. CountsRule n r.history (λ k. count_view (put r.crew v.row w k))) made'
        (at_view s.views r.crew r.seated id v w l l.1 refl count_view (CountsRule (r.counter 2 + 1) r.history)
        (count_with (r.counter 2 ∷ (r.crew v.row).rows) (r.crew v.row).mine (r.crew v.row).kept)
        (λ i. record { live = sym l.1 i; rows = r.counter 2 ∷ (here i).rows; mine = (here i).mine; kept = (here i).kept })
        (let was : CountsRule (r.counter 2) r.history (λ k. count_view (r.crew k)) = subst (λ n. CountsRule n r.history (λ k. count_view (r.crew k))) made r.counts in
        rows_draw (r.counter 2) r.history (λ k. count_view (r.crew k)) was v.row (here_lives stands spans counted told s r id v l) (by_past (r.counter 2) (r.counter 2) r.history was.low (omega arith)))))
