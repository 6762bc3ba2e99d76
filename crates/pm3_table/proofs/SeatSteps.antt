-- A seat is split, and two are joined.
use Rattle.std.proofs.Common.{◌≡◌, ◌≢◌, ◌⊎◌, ℕ, zero, suc, ◌+◌, ◌<◌, true, false, List, [], ◌∷◌, ◌++◌, length, length-append, min, max, Option, None, refl, sym, ap, ◌∙◌, subst, inl, inr, ⊎_elim, arith}
use Rattle.std.proofs.Math.ListN.{set}
use Rattle.std.proofs.lemmas.Bool.Decides.{nat_tests}
use mathlib.Core.Option.{some, some-injective, some-ne-none}
use lib.ListN.{get_elem?}
use Rattle.atomic_table.specs.Table.{State}
use Rattle.atomic_table.proofs.Lists.{at_set, at_longer, at_last, set_else}
use Rattle.pm3_core.specs.Machine.{put}
use Rattle.pm3_history.specs.Entry.{Done}
use Rattle.pm3_table.specs.declared.view.Told.{Told}
use Rattle.pm3_table.specs.declared.view.View.{View}
use Rattle.pm3_table.specs.Crew.{Lives, Seated}
use Rattle.pm3_table.specs.Deeds.{word_of, marks_of}
use Rattle.pm3_table.specs.Entries.{makes, keeps_in}
use Rattle.pm3_table.specs.Holds.{is_in, holds_of}
use Rattle.pm3_table.specs.Names.{NameView, NamesRule}
use Rattle.pm3_table.specs.Telling.{limit, first, names, names_page, Good, spans_in, counted_in}
use Rattle.pm3_table.specs.Words.{turn_unit}
use Rattle.pm3_table.specs.Rows.{RowsRule, moves_of}
use Rattle.pm3_table.specs.Pages.{PageView, PagesRule}
use Rattle.pm3_table.specs.Units.{UnitView, UnitsRule}
use Rattle.pm3_table.specs.Draws.{DrawsRule, drew, is_drawing}
use Rattle.pm3_table.specs.Counts.{CountView, CountsRule}
use Rattle.pm3_table.specs.Lost.{LostView, LostRule}
use Rattle.pm3_table.specs.Lasts.{LastView, LastRule}
use Rattle.pm3_table.specs.Starting.{spent_view}
use Rattle.pm3_table.specs.Seats.{new_view, both_views, beyond, IsBlank}
use Rattle.pm3_table.specs.Rule.{Ruled, row_view, unit_view, page_view, draw_view, name_view, count_view, lost_view, last_view}
use Rattle.pm3_table.proofs.Put.{put_at, put_else, put_cases, put_map, put_same}
use Rattle.pm3_table.proofs.Advances.{seated_now}
use Rattle.pm3_table.proofs.RowSteps.{equal_test, here_is, here_lives, row_low}
use Rattle.pm3_table.proofs.UnitsKept.{unit_with}
use Rattle.pm3_table.proofs.PagesKept.{page_with}
use Rattle.pm3_table.proofs.NamesKept.{count_with}
use Rattle.pm3_table.proofs.Enters.{not_dead, rows_enter, units_enter, pages_enter, draws_two, names_enter, counts_enter, lost_enter}
use Rattle.pm3_table.proofs.Absorbs.{rows_leave, units_absorb, longer, longer_is, pages_absorb, names_absorb, lost_absorb, in_either}
use Rattle.pm3_table.proofs.CountsAbsorb.{counts_absorb}

first_there : (n : ℕ) (xs : List ℕ) → is_in n (n ∷ xs) ≡ true
first_there n xs = grind (arith, nat_tests)

split_drew : (c : ℕ) → c < 3 → (v y : View) (n : ℕ) (rows : List ℕ) → v.live ≡ true → y.live ≡ false → v.rows ≡ n ∷ rows
    → drew c (draw_view (record v { rows = rows; last = false })) + drew c (draw_view (new_view n v)) ≡ drew c (draw_view v) + drew c (draw_view y)
split_drew c small v y n rows live dead drew_it =
    let more : length v.rows ≡ suc (length rows) = ap (length {A = ℕ}) drew_it in
    grind (arith, nat_tests, live, dead, more, small)

split_busy : (c : ℕ) (v y : View) (n : ℕ) (rows : List ℕ) → y.live ≡ false
    → is_drawing c (draw_view (record v { rows = rows; last = false })) + is_drawing c (draw_view (new_view n v)) ≡ is_drawing c (draw_view v) + is_drawing c (draw_view y)
split_busy c v y n rows dead =
    let nil : is_drawing c (draw_view y) ≡ 0 = grind (arith, nat_tests, dead) in
    let none_new : is_drawing c (draw_view (new_view n v)) ≡ 0 = grind (arith, nat_tests) in
    omega (arith, nil, none_new)

join_drew : (c : ℕ) → c < 3 → (v x : View) → v.live ≡ true → x.live ≡ true → x.rows ≡ []
    → drew c (draw_view (both_views v x)) + drew c (draw_view spent_view) ≡ drew c (draw_view v) + drew c (draw_view x)
join_drew c small v x live lives_x no_rows =
    let none_rows : length x.rows ≡ 0 = ap (length {A = ℕ}) no_rows in
    let all : length (x.kept ++ v.kept) ≡ length x.kept + length v.kept = length-append x.kept v.kept in
    grind (arith, nat_tests, live, lives_x, none_rows, all, small)

join_busy : (c : ℕ) (v x : View) → x.drawing ≡ 0 → is_drawing c (draw_view (both_views v x)) + is_drawing c (draw_view spent_view) ≡ is_drawing c (draw_view v) + is_drawing c (draw_view x)
join_busy c v x idle =
    let nil : is_drawing c (draw_view x) ≡ 0 = grind (arith, nat_tests, idle) in
    omega (arith, nil)

-- the last item of a longer list stands at the end
at_end : {A : Type 0} (l : List A) (a b : A) (j : ℕ) → get_elem? (l ++ a ∷ []) j ≡ some b → (get_elem? l j ≡ some b) ⊎ ((j ≡ length l) × (a ≡ b))
at_end [] a b zero e = inr (refl, some-injective a b e)
at_end [] a b (suc j) e = absurd (some-ne-none b (sym e))
at_end (x ∷ xs) a b zero e = inl e
at_end (x ∷ xs) a b (suc j) e = ⊎_elim inl (λ t. inr (ap suc t.0, t.1)) (at_end xs a b j e)

seated_more : (views : List View) (crew : ℕ → View) → Seated views crew → (n : ℕ) (x : View) → (crew n).live ≡ false → x.row ≡ n → x.live ≡ true → n < 32 → Seated (views ++ x ∷ []) (put crew n x)
seated_more views crew r n x dead row live low =
    let fresh : (j : ℕ) (y : View) → Lives views j y → y.row ≢ n = λ j y l e. not_dead ⊥ l.1 (ap (λ (v : View). v.live) (sym (r.knows j y l)) ∙ (ap (λ (i : ℕ). (crew i).live) e ∙ dead)) in record {
      knows = λ j y l. ⊎_elim
          (λ old. put_else crew n x y.row (fresh j y (old, l.1)) ∙ r.knows j y (old, l.1))
          (λ new. put_at crew n x y.row (ap (λ (v : View). v.row) (sym new.1) ∙ row) ∙ new.1)
          (at_end views x y j l.0);
      sits = λ k. put_cases (λ v. v.live ≡ true → (id : ℕ) × Lives (views ++ x ∷ []) id v × (v.row ≡ k)) crew n x k
          (λ e _. (length views, (at_last views x (length views) refl, live), row ∙ sym e))
          (λ _ alive. let s = r.sits k alive in (s.0, (at_longer views (x ∷ []) s.0 (crew k) s.1.0, s.1.1), s.2));
      apart = λ i j y z ly lz same. ⊎_elim
          (λ old. ⊎_elim (λ old'. r.apart i j y z (old, ly.1) (old', lz.1) same)
          (λ new. absurd (fresh i y (old, ly.1) (same ∙ (ap (λ (v : View). v.row) (sym new.1) ∙ row)))) (at_end views x z j lz.0))
          (λ new. ⊎_elim (λ old. absurd (fresh j z (old, lz.1) (sym same ∙ (ap (λ (v : View). v.row) (sym new.1) ∙ row))))
          (λ new'. new.0 ∙ sym new'.0) (at_end views x z j lz.0))
          (at_end views x y i ly.0);
      below = λ k. put_cases (λ v. v.live ≡ true → k < 32) crew n x k (λ e _. subst (λ (i : ℕ). i < 32) (sym e) low) (λ _. r.below k);
    }

seated_end : (views : List View) (crew : ℕ → View) → Seated views crew → (j : ℕ) (x u : View) → Lives views j x → u.live ≡ false → Seated (set views j u) (put crew x.row u)
seated_end views crew r j x u l dead =
    let old : (i : ℕ) (y : View) → Lives (set views j u) i y → (i ≢ j) × Lives views i y = λ i y ly. ⊎_elim
    (λ (t : (i ≡ j) × (u ≡ y)). not_dead ((i ≢ j) × Lives views i y) ly.1 (ap (λ (v : View). v.live) (sym t.1) ∙ dead))
    (λ (t : (i ≢ j) × (get_elem? views i ≡ some y)). (t.0, (t.1, ly.1))) (at_set views j i u y ly.0) in record {
      knows = λ i y ly. let o = old i y ly in put_else crew x.row u y.row (λ e. o.0 (r.apart i j y x o.1 l e)) ∙ r.knows i y o.1;
      sits = λ k. put_cases (λ v. v.live ≡ true → (id : ℕ) × Lives (set views j u) id v × (v.row ≡ k)) crew x.row u k
          (λ _ live. absurd (not_dead ⊥ live dead))
          (λ o live. let s = r.sits k live in
          (s.0, (set_else views j s.0 u (λ e. o (sym s.2 ∙ ap (λ (v : View). v.row) (some-injective (crew k) x (sym s.1.0 ∙ (ap (get_elem? views) e ∙ l.0))))) ∙ s.1.0, s.1.1), s.2));
      apart = λ i k y z ly lz same. r.apart i k y z (old i y ly).1 (old k z lz).1 same;
      below = λ k. put_cases (λ v. v.live ≡ true → k < 32) crew x.row u k (λ _ live. absurd (not_dead ⊥ live dead)) (λ _. r.below k);
    }

-- a part of the rule over the views after two of them changed
two_views : (crew : ℕ → View) (k n : ℕ) (w x : View) {A : Type 0} (f : View → A) (P : (ℕ → A) → Type 0) → P (put (put (λ j. f (crew j)) k (f w)) n (f x)) → P (λ j. f (put (put crew k w) n x j))
two_views crew k n w x {A} f P p = subst P (sym (put_map f (put crew k w) n x ∙ ap (λ (g : ℕ → A). put g n (f x)) (put_map f crew k w))) p

-- the same where the part reads nothing of the first change
one_view : (crew : ℕ → View) (k n : ℕ) (w x : View) {A : Type 0} (f : View → A) (P : (ℕ → A) → Type 0) → f w ≡ f (crew k) → P (put (λ j. f (crew j)) n (f x)) → P (λ j. f (put (put crew k w) n x j))
one_view crew k n w x {A} f P same p = two_views crew k n w x f P (subst (λ (g : ℕ → A). P (put g n (f x))) (sym (put_same (λ j. f (crew j)) k (f w) same)) p)

last_two : (crew : ℕ → LastView) → LastRule crew → (k n : ℕ) → (crew k).live ≡ true → (w x : LastView) → w.last ≡ false → (x.live ≡ false) ⊎ (x.last ≡ false) → LastRule (put (put crew k w) n x)
last_two crew r k n alive w x not_w not_x i = put_cases (λ v. v.live ≡ true → v.last ≡ true → (j : ℕ) → (put (put crew k w) n x j).live ≡ true → j ≡ i) (put crew k w) n x i
    (λ _ live is. absurd (⊎_elim (λ a. not_dead ⊥ live a) (λ a. not_dead ⊥ is a) not_x))
    (λ _. put_cases (λ v. v.live ≡ true → v.last ≡ true → (j : ℕ) → (put (put crew k w) n x j).live ≡ true → j ≡ i) crew k w i
    (λ _ _ is. absurd (not_dead ⊥ is not_w))
    (λ o live is j _. absurd (o (sym (r i live is k alive)))))

module _ {V : Type 0} (stands : Told → List Done → List Done → ℕ → V → Type 0) (spans : V → List ℕ) (counted : V → ℕ) (told : Told) where
  abbrev S : Type 0
  S = State (Option V) View

  abbrev Rule : S → Type 0
  Rule = Ruled stands spans counted told

  abbrev turn : ℕ
  turn = turn_unit told.pages

  module _ (s : S) (r : Rule s) (id : ℕ) (v : View) (l : Lives s.views id v) where
    -- the row that was drawn last gets a mutator
    pub splits : (n : ℕ) (rows : List ℕ) → v.rows ≡ n ∷ rows
        → Rule record { words = s.words; homes = s.homes; views = set s.views id (record v { rows = rows; last = false }) ++ new_view n v ∷ [] }
    splits n rows had =
        let w : View = record v { rows = rows; last = false } in
        let x : View = new_view n v in
        let k : ℕ = v.row in
        let here = here_is stands spans counted told s r id v l in
        let alive = here_lives stands spans counted told s r id v l in
        let live : w.live ≡ true = l.1 in
        let drew_it : (r.crew k).rows ≡ n ∷ rows = ap (λ (y : View). y.rows) here ∙ had in
        let was_in : is_in n (r.crew k).rows ≡ true = ap (is_in n) drew_it ∙ first_there n rows in
        let fresh = r.counts.drawn k n alive was_in in
        let made = (r.counts.one k n alive (inr was_in)).0 in
        let low : n < 32 = omega (arith, made) in
        let apart : k ≢ n = λ e. not_dead ⊥ alive (ap (λ (i : ℕ). (r.crew i).live) e ∙ fresh.0) in
        let seated1 = seated_now s.views r.crew r.seated id v w l live refl in
        let dead1 : (put r.crew k w n).live ≡ false = ap (λ (y : View). y.live) (put_else r.crew k w n (λ e. apart (sym e))) ∙ fresh.0 in
        let away : (u : ℕ) → r.holder u ≢ n + 1 = λ u is. let was = (r.units.held u (λ z. omega (arith, z, is))).1 in let same : was.0 ≡ n = (let e = was.1 in omega (arith, e, is)) in not_dead ⊥ was.2 (ap (λ (i : ℕ). (r.crew i).live) same ∙ fresh.0) in
        record {
          crew = put (put r.crew k w) n x;
          seated = seated_more (set s.views id w) (put r.crew k w) seated1 n x dead1 refl refl low;
          machine = r.machine;
          holder = r.holder;
          space = r.space;
          used = r.used;
          counter = r.counter;
          history = r.history;
          lost = r.lost;
          words = r.words;
          rows = one_view r.crew k n w x row_view (RowsRule told.pages (moves_of r.history) r.machine) (λ i. row_view (sym here i))
              (rows_enter told.pages r.machine (λ j. row_view (r.crew j)) (moves_of r.history) r.rows n low fresh.0);
          units = one_view r.crew k n w x unit_view (UnitsRule (Good stands told r.lost) (counted_in counted) turn (names told) r.holder r.history s.homes) (λ i. unit_view (sym here i))
              (subst (λ (y : View). UnitsRule (Good stands told r.lost) (counted_in counted) turn (names told) r.holder r.history s.homes (put (λ j. unit_view (r.crew j)) n (unit_with [] y.seen y.faults))) here
              (units_enter (Good stands told r.lost) (counted_in counted) turn (names told) r.holder r.history s.homes (λ j. unit_view (r.crew j)) r.units k n alive fresh.0));
          paged = one_view r.crew k n w x page_view (PagesRule None (spans_in spans) told.pages told.frontier (names_page told) keeps_in (r.counter 0) r.used r.machine.mark r.space r.holder r.history s.homes) (λ i. page_view (sym here i))
              (subst (λ (y : View). PagesRule None (spans_in spans) told.pages told.frontier (names_page told) keeps_in (r.counter 0) r.used r.machine.mark r.space r.holder r.history s.homes (put (λ j. page_view (r.crew j)) n (page_with [] [] y.steady []))) here
              (pages_enter None (spans_in spans) told.pages told.frontier (names_page told) keeps_in (r.counter 0) r.used r.machine.mark r.space r.holder r.history s.homes (λ j. page_view (r.crew j)) r.paged k n alive));
          draws = two_views r.crew k n w x draw_view (DrawsRule (limit told) (first told) r.counter)
              (draws_two (limit told) (first told) r.counter (λ j. draw_view (r.crew j)) r.draws k n (row_low stands spans counted told s r id v l) low apart (draw_view w) (draw_view x)
              (λ _ c is. r.draws.full k alive c (ap (λ (y : View). is_in c y.filled) here ∙ is)) (λ _ c is. absurd (cc))
              (λ c small. subst (λ (y : View). drew c (draw_view w) + drew c (draw_view x) ≡ drew c (draw_view y) + drew c (draw_view (r.crew n))) (sym here) (split_drew c small v (r.crew n) n rows l.1 fresh.0 had))
              (λ c. subst (λ (y : View). is_drawing c (draw_view w) + is_drawing c (draw_view x) ≡ is_drawing c (draw_view y) + is_drawing c (draw_view (r.crew n))) (sym here) (split_busy c v (r.crew n) n rows fresh.0)));
          named = one_view r.crew k n w x name_view (NamesRule makes told.next_name (r.counter 1) r.history) (λ i. name_view (sym here i))
              (names_enter makes told.next_name (r.counter 1) r.history (λ j. name_view (r.crew j)) r.named n);
          counts = two_views r.crew k n w x count_view (CountsRule (min (r.counter 2) 32) r.history)
              (subst (λ (y : CountView). CountsRule (min (r.counter 2) 32) r.history (put (put (λ j. count_view (r.crew j)) k y) n (count_with [] [] [])))
              (λ i. record { live = sym l.1 i; rows = rows; mine = (here i).mine; kept = (here i).kept })
              (counts_enter (min (r.counter 2) 32) r.history (λ j. count_view (r.crew j)) r.counts k n rows alive drew_it));
          failed = one_view r.crew k n w x lost_view (LostRule (r.holder turn) r.lost) (λ i. lost_view (sym here i))
              (lost_enter (r.holder turn) r.lost (λ j. lost_view (r.crew j)) r.failed n fresh.0 (away turn));
          lasts = two_views r.crew k n w x last_view LastRule (last_two (λ j. last_view (r.crew j)) r.lasts k n alive (last_view w) (last_view x) refl (inr refl));
          lawful = r.lawful;
          bounds = r.bounds;
        }

    -- another mutator, which holds nothing, marks nothing and has a row of zeros, is taken in
    pub joins : (other : ℕ) (x : View) → other ≢ id → get_elem? (set s.views id (both_views v x)) other ≡ some x → x.live ≡ true → IsBlank x → x.drawing ≡ 0 → x.rows ≡ []
        → Rule record { words = s.words; homes = s.homes; views = set (set s.views id (both_views v x)) other spent_view }
    joins other x not_id at lives_x blank idle no_rows =
        let w : View = both_views v x in
        let k : ℕ = v.row in let n : ℕ = x.row in
        let here = here_is stands spans counted told s r id v l in
        let alive = here_lives stands spans counted told s r id v l in
        let live : w.live ≡ true = l.1 in
        let at_old : get_elem? s.views other ≡ some x = sym (set_else s.views id other w not_id) ∙ at in
        let lx : Lives s.views other x = (at_old, lives_x) in
        let there : r.crew n ≡ x = r.seated.knows other x lx in
        let other_lives : (r.crew n).live ≡ true = ap (λ (y : View). y.live) there ∙ lives_x in
        let apart : k ≢ n = λ e. not_id (r.seated.apart other id x v lx l (sym e)) in
        let seated1 = seated_now s.views r.crew r.seated id v w l live refl in
        let mine = r.units.known k alive in let theirs = r.units.known n other_lives in
        let both_seen : v.seen ++ beyond v.seen x.seen ≡ longer v.seen x.seen =
        longer_is r.history v.seen mine.after x.seen theirs.after (mine.is ∙ ap (λ (y : View). y.seen ++ mine.after) here) (theirs.is ∙ ap (λ (y : View). y.seen ++ theirs.after) there)
        in
        let away : r.holder turn ≢ n + 1 = λ is. not_dead ⊥ ((r.units.known n other_lives).holds turn ∙ equal_test (r.holder turn) (n + 1) is) (ap (λ (y : View). holds_of y.holds turn) there ∙ blank.holds turn) in
        record {
          crew = put (put r.crew k w) n spent_view;
          seated = seated_end (set s.views id w) (put r.crew k w) seated1 other x spent_view (at, lives_x) refl;
          machine = r.machine;
          holder = r.holder;
          space = r.space;
          used = r.used;
          counter = r.counter;
          history = r.history;
          lost = r.lost;
          words = r.words;
          rows = one_view r.crew k n w spent_view row_view (RowsRule told.pages (moves_of r.history) r.machine) (λ i. row_view (sym here i))
              (rows_leave told.pages r.machine (λ j. row_view (r.crew j)) (moves_of r.history) r.rows n (row_view spent_view) refl other_lives
              (λ p. ap (λ (y : View). marks_of y.log p) there ∙ blank.marks p) (λ q b. ap (λ (y : View). word_of y.log q) there ∙ blank.row q b));
          units = two_views r.crew k n w spent_view unit_view (UnitsRule (Good stands told r.lost) (counted_in counted) turn (names told) r.holder r.history s.homes)
              (subst (λ (y : UnitView). UnitsRule (Good stands told r.lost) (counted_in counted) turn (names told) r.holder r.history s.homes (put (put (λ j. unit_view (r.crew j)) k y) n (unit_view spent_view)))
              ((λ i. record { live = sym l.1 i; holds = (here i).holds; seen = longer (here i).seen (there i).seen; faults = max (here i).faults (there i).faults })
              ∙ (λ i. record { live = v.live; holds = v.holds; seen = sym both_seen i; faults = max v.faults x.faults }))
              (units_absorb (Good stands told r.lost) (counted_in counted) turn (names told) r.holder r.history s.homes (λ j. unit_view (r.crew j)) r.units k n apart alive other_lives (λ u. ap (λ (y : View). holds_of y.holds u) there ∙ blank.holds u) (unit_view spent_view) refl));
          paged = two_views r.crew k n w spent_view page_view (PagesRule None (spans_in spans) told.pages told.frontier (names_page told) keeps_in (r.counter 0) r.used r.machine.mark r.space r.holder r.history s.homes)
              (subst (λ (y : PageView). PagesRule None (spans_in spans) told.pages told.frontier (names_page told) keeps_in (r.counter 0) r.used r.machine.mark r.space r.holder r.history s.homes (put (put (λ j. page_view (r.crew j)) k y) n (page_view spent_view)))
              (λ i. record { live = sym l.1 i; holds = (here i).holds; spans = (here i).spans; steady = (here i).steady ++ (there i).steady; pages = (here i).pages ++ (there i).pages })
              (pages_absorb None (spans_in spans) told.pages told.frontier (names_page told) keeps_in (r.counter 0) r.used r.machine.mark r.space r.holder r.history s.homes (λ j. page_view (r.crew j)) r.paged k n apart alive other_lives (page_view spent_view) refl));
          draws = two_views r.crew k n w spent_view draw_view (DrawsRule (limit told) (first told) r.counter)
              (draws_two (limit told) (first told) r.counter (λ j. draw_view (r.crew j)) r.draws k n (row_low stands spans counted told s r id v l) (r.seated.below n other_lives) apart (draw_view w) (draw_view spent_view)
              (λ _ c is. ⊎_elim (λ a. r.draws.full k alive c (ap (λ (y : View). is_in c y.filled) here ∙ a)) (λ a. r.draws.full n other_lives c (ap (λ (y : View). is_in c y.filled) there ∙ a)) (in_either c v.filled x.filled is))
              (λ e. absurd (cc))
              (λ c small. subst (λ (z : View × View). drew c (draw_view w) + drew c (draw_view spent_view) ≡ drew c (draw_view z.0) + drew c (draw_view z.1)) (λ i. (sym here i, sym there i)) (join_drew c small v x l.1 lives_x no_rows))
              (λ c. subst (λ (z : View × View). is_drawing c (draw_view w) + is_drawing c (draw_view spent_view) ≡ is_drawing c (draw_view z.0) + is_drawing c (draw_view z.1)) (λ i. (sym here i, sym there i)) (join_busy c v x idle)));
          named = two_views r.crew k n w spent_view name_view (NamesRule makes told.next_name (r.counter 1) r.history)
              (subst (λ (y : NameView). NamesRule makes told.next_name (r.counter 1) r.history (put (put (λ j. name_view (r.crew j)) k y) n (name_view spent_view)))
              (λ i. record { live = sym l.1 i; names = (here i).names ++ (there i).names })
              (names_absorb makes told.next_name (r.counter 1) r.history (λ j. name_view (r.crew j)) r.named k n apart alive other_lives (name_view spent_view) refl));
          counts = two_views r.crew k n w spent_view count_view (CountsRule (min (r.counter 2) 32) r.history)
              (subst (λ (y : CountView). CountsRule (min (r.counter 2) 32) r.history (put (put (λ j. count_view (r.crew j)) k y) n (count_view spent_view)))
              (λ i. record { live = sym l.1 i; rows = (here i).rows; mine = (here i).mine; kept = record { mutator = n; commits = (there i).mine } ∷ ((there i).kept ++ (here i).kept) })
              (counts_absorb (min (r.counter 2) 32) r.history (λ j. count_view (r.crew j)) r.counts k n apart alive other_lives (ap (λ (y : View). y.rows) there ∙ no_rows) (count_view spent_view) refl));
          failed = two_views r.crew k n w spent_view lost_view (LostRule (r.holder turn) r.lost)
              (subst (λ (y : LostView). LostRule (r.holder turn) r.lost (put (put (λ j. lost_view (r.crew j)) k y) n (lost_view spent_view)))
              (λ i. record { live = sym l.1 i; failed = (here i).failed ++ (there i).failed; lost = (here i).lost })
              (lost_absorb (r.holder turn) r.lost (λ j. lost_view (r.crew j)) r.failed k n apart alive other_lives away (lost_view spent_view) refl));
          lasts = two_views r.crew k n w spent_view last_view LastRule (last_two (λ j. last_view (r.crew j)) r.lasts k n alive (last_view w) (last_view spent_view) refl (inl refl));
          lawful = r.lawful;
          bounds = r.bounds;
        }
