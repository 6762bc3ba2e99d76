-- Steps on units keep the whole rule: a unit is taken, given back, and the turn is given back with commits.
use Rattle.std.proofs.Common.{◌≡◌, ◌≢◌, ℕ, ◌+◌, ◌-◌, ◌<◌, ◌≤◌, ◌==◌, ◌||◌, nat_lt, Bool, true, false, if◌then◌else◌, List, [], ◌∷◌, ◌++◌, get_or, min, Option, None, Some, refl, sym, ap, ◌∙◌, subst, ⊎_elim, arith}
use Rattle.std.proofs.Math.ListN.{set}
use mathlib.Core.Option.{none, some}
use mathlib.Core.Logic.{dite}
use native.Mathlib.Decide.{ℕ_discrete}
use lib.ListN.{get_elem?}
use Rattle.atomic_table.specs.Table.{State}
use Rattle.pm3_core.specs.Machine.{put}
use Rattle.pm3_history.specs.Entry.{Done}
use Rattle.pm3_table.specs.declared.view.Hold.TheVariants.{Took, Gave}
use Rattle.pm3_table.specs.declared.view.Span.TheVariants.{Spread}
use Rattle.pm3_table.specs.declared.view.Told.{Told}
use Rattle.pm3_table.specs.declared.view.View.{View}
use Rattle.pm3_table.specs.Crew.{Lives}
use Rattle.pm3_table.specs.Deeds.{marks_of}
use Rattle.pm3_table.specs.Entries.{makes, writes, keeps_in}
use Rattle.pm3_table.specs.Histories.{some_has, by}
use Rattle.pm3_table.specs.Holds.{holds_of, spans_of, is_in}
use Rattle.pm3_table.specs.Names.{NamesRule}
use Rattle.pm3_table.specs.Ops.{took, gave}
use Rattle.pm3_table.specs.Telling.{limit, first, names, names_page, NoneNames, Lawful, Good, spans_in, counted_in, is_steady, HasInSpace, IsOnlyIn, IsSound}
use Rattle.pm3_table.specs.Words.{Encodes, unit_at, unit_word, turn_unit, space_unit}
use Rattle.pm3_table.specs.Rows.{RowsRule, moves_of}
use Rattle.pm3_table.specs.Pages.{PagesRule}
use Rattle.pm3_table.specs.Units.{UnitsRule}
use Rattle.pm3_table.specs.Draws.{DrawsRule}
use Rattle.pm3_table.specs.Counts.{CountsRule}
use Rattle.pm3_table.specs.Lost.{LostRule}
use Rattle.pm3_table.specs.Lasts.{LastRule}
use Rattle.pm3_table.specs.Rule.{Ruled, row_view, unit_view, page_view, draw_view, name_view, count_view, lost_view, last_view}
use Rattle.pm3_table.proofs.Put.{put_at, put_else, put_cases, put_same}
use Rattle.pm3_table.proofs.Advances.{seated_now, unchanged}
use Rattle.pm3_table.proofs.Encoded.{encode_unit}
use Rattle.pm3_table.proofs.RowSteps.{equal_by, equal_test, at_view, here_is, here_lives, knows_row, holds_unit, in_space}
use Rattle.pm3_table.proofs.UnitsKept.{unit_with, takes_part, gives_part}
use Rattle.std.proofs.lemmas.Bool.Decides.{nat_tests}
use Rattle.pm3_table.proofs.Has.{none_join, has_left}
use Rattle.pm3_table.proofs.PagesKept.{page_with, pages_take, pages_give, not_marked}
use Rattle.pm3_table.proofs.NamesKept.{own_of}
use Rattle.pm3_table.proofs.LostKept.{lost_with, lost_take}

append_nothing : (h : List Done) → h ++ [] ≡ h
append_nothing [] = refl
append_nothing (e ∷ es) = ap (λ (l : List Done). e ∷ l) (append_nothing es)

plain_word : (l : ℕ) → unit_word l 0 0 ≡ l
plain_word l = omega arith

not_equal : (a b : ℕ) → a ≢ b → (a == b) ≡ false
not_equal a b o = grind (arith, nat_tests, o)

unnamed : (a b : Bool) → (a ≡ true → b ≡ true) → b ≡ false → a ≡ false
unnamed true b up e = sym (up refl) ∙ e
unnamed false b up e = refl

none_more : (told : Told) (h : List Done) (e : Done) (u : ℕ) → names told e u ≡ false → NoneNames told h u → NoneNames told (h ++ e ∷ []) u
none_more told h e u free spared = none_join (names told) h (e ∷ []) u spared (λ i. free i || false)

pub either_steady : (told : Told) (v : View) (p : ℕ) {X : Type 0} → is_steady told v p ≡ true → (p < told.frontier → X) → (is_in p v.steady ≡ true → X)
    → (some_has writes v.seen p ≡ true → X) → X
either_steady told v p {X} steady a b c = three (nat_lt p told.frontier) (is_in p v.steady) (some_has writes v.seen p) (λ y. a (lt_of p told.frontier y)) b c steady
  where
    lt_of : (x y : ℕ) → nat_lt x y ≡ true → x < y
    lt_of x y e = grind (arith, nat_tests, e)

    three : (x y z : Bool) → (x ≡ true → X) → (y ≡ true → X) → (z ≡ true → X) → (x || (y || z)) ≡ true → X
    three true y z f g h e = f refl
    three false true z f g h e = g refl
    three false false z f g h e = h e

chosen_at : {A : Type 0} (a b : ℕ) (x y : A) → a ≡ b → (if a == b then x else y) ≡ x
chosen_at {A} a b x y e = ap (λ (t : Bool). if t then x else y) (equal_test a b e)

chosen_else : {A : Type 0} (a b : ℕ) (x y : A) → a ≢ b → (if a == b then x else y) ≡ y
chosen_else {A} a b x y o = ap (λ (t : Bool). if t then x else y) (not_equal a b o)

module _ {V : Type 0} (stands : Told → List Done → List Done → ℕ → V → Type 0) (spans : V → List ℕ) (counted : V → ℕ) (told : Told)
    (frame : (lost h : List Done) (e : Done) (u : ℕ) (x : V) → names told e u ≡ false → stands told lost h u x → stands told lost (h ++ e ∷ []) u x) where
  abbrev Slot : Type 0
  Slot = Option V

  abbrev S : Type 0
  S = State Slot View

  abbrev Rule : S → Type 0
  Rule = Ruled stands spans counted told

  abbrev turn : ℕ
  turn = turn_unit told.pages

  -- the law of values, for slots
  pub good_frame : (lost h : List Done) (e : Done) (u : ℕ) (x : Slot) → names told e u ≡ false → Good stands told lost h u x → Good stands told lost (h ++ e ∷ []) u x
  good_frame lost h e u None free good = (good.0, none_more told h e u free good.1, good.2)
  good_frame lost h e u (Some x) free good = frame lost h e u x free good

  module _ (s : S) (r : Rule s) (id : ℕ) (v : View) (l : Lives s.views id v) where
    -- what is told of the view of one that has seen the whole history
    pub sound_now : (w : View) → w.row ≡ v.row → w.seen ≡ r.history → w.mine ≡ v.mine → w.names ≡ v.names → w.pages ≡ v.pages
        → ((j p : ℕ) → HasInSpace told w j p → IsOnlyIn told w j p) → IsSound told w r.lost
    sound_now w row seen mine named pages apart =
        let here = here_is stands spans counted told s r id v l in
        let lives = here_lives stands spans counted told s r id v l in record {
          lawful = subst (Lawful told) (sym seen) r.lawful.0;
          lawful_lost = subst (λ (h : List Done). Lawful told (h ++ r.lost)) (sym seen) r.lawful.1;
          own = mine ∙ (ap (λ (x : View). x.mine) (sym here) ∙ (own_of (min (r.counter 2) 32) r.history (λ k. count_view (r.crew k)) r.counts v.row lives ∙ (λ i. by (sym row i) (sym seen i))));
          new_names = λ n is. let was = r.named.drawn v.row lives n (ap (λ (x : View). is_in n x.names) here ∙ (ap (is_in n) (sym named) ∙ is)) in
              (was.0, ap (λ (h : List Done). some_has makes h n) seen ∙ was.2);
          new_pages = λ p is. let was = r.paged.drawn v.row lives p (ap (λ (x : View). is_in p x.pages) here ∙ (ap (is_in p) (sym pages) ∙ is)) in
              (was.0, ap (λ (h : List Done). some_has (names_page told) h p) seen ∙ not_named p was.3);
          apart = apart;
        }
      where
        not_named : (p : ℕ) → r.used p ≡ false → some_has (names_page told) r.history p ≡ false
        not_named p unused = unnamed (some_has (names_page told) r.history p) (r.used p) (r.paged.named p) unused

    -- a page that the view knows to be persistent is used and of no space
    pub steady_is : (p : ℕ) → is_steady told v p ≡ true → (r.used p ≡ true) × (r.space p ≡ 0)
    steady_is p steady = either_steady told v p steady
        (λ below. (r.paged.opened p below, dite (ℕ_discrete (r.space p) 0) (λ e. e) (λ o. absurd (let f = (r.paged.volatile p o).3 in omega (arith, f, below)))))
        (λ is. r.paged.steady v.row (here_lives stands spans counted told s r id v l) p (ap (λ (x : View). is_in p x.steady) (here_is stands spans counted told s r id v l) ∙ is))
        (λ is. let know = r.units.known v.row (here_lives stands spans counted told s r id v l) in
        r.paged.written p (ap (λ (h : List Done). some_has writes h p) know.is
        ∙ has_left writes (r.crew v.row).seen know.after p (ap (λ (x : View). some_has writes x.seen p) (here_is stands spans counted told s r id v l) ∙ is)))

    -- once it has taken a unit, a page of a space that it holds is in no other, and none that it knows to be persistent
    pub apart_now : (u : ℕ) (x : Slot) (after : List Done) → get_elem? s.homes u ≡ some (some x) → r.history ≡ v.seen ++ after
        → (j p : ℕ) → HasInSpace told (took turn v u after r.lost (spans_in spans x) (counted_in counted x)) j p
        → IsOnlyIn told (took turn v u after r.lost (spans_in spans x) (counted_in counted x)) j p
    apart_now u x after at is j p has = record {
      bare = falls (is_steady told w p) (λ steady. omega (arith, space_is, plain steady));
      kept = λ i left. ⊎_elim (λ same. omega (arith, space_is, same)) (λ was. absurd (omega (arith, space_is, was.1)))
          (r.paged.kept i p (ap (λ (h : List Done). some_has (keeps_in i) h p) is ∙ left));
    }
      where
        w : View
        w = took turn v u after r.lost (spans_in spans x) (counted_in counted x)

        falls : (b : Bool) → (b ≡ true → ⊥) → b ≡ false
        falls true never = absurd (never refl)
        falls false never = refl

        space_is : r.space p ≡ j + 1
        space_is = dite (ℕ_discrete (space_unit told.pages j) u)
            (λ e. equal_by (r.space p) (j + 1) (sym (r.paged.at_home j has.0 x (ap (get_elem? s.homes) e ∙ at) p)
            ∙ sym (ap (λ (f : ℕ → Bool). f p) (put_at (spans_of v.spans) u (λ n. is_in n (spans_in spans x)) (space_unit told.pages j) e)) ∙ has.2))
            (λ o. in_space stands spans counted told s r id v l j p (
              has.0,
              sym (put_else (holds_of v.holds) u true (space_unit told.pages j) o) ∙ has.1,
              sym (ap (λ (f : ℕ → Bool). f p) (put_else (spans_of v.spans) u (λ n. is_in n (spans_in spans x)) (space_unit told.pages j) o)) ∙ has.2,
            ))

        plain : is_steady told w p ≡ true → r.space p ≡ 0
        plain steady = either_steady told w p steady
            (λ below. dite (ℕ_discrete (r.space p) 0) (λ e. e) (λ o. absurd (let f = (r.paged.volatile p o).3 in omega (arith, f, below))))
            (λ in_it. (r.paged.steady v.row (here_lives stands spans counted told s r id v l) p (ap (λ (y : View). is_in p y.steady) (here_is stands spans counted told s r id v l) ∙ in_it)).1)
            (λ in_it. (r.paged.written p (ap (λ (h : List Done). some_has writes h p) is ∙ in_it)).1)

    -- the word of a unit that is free is 0, where a page is of no space
    pub word_free : (u : ℕ) → u < told.pages + 33 → (u < told.pages → r.space u ≡ 0) → get_or s.words (unit_at u) 0 ≡ r.holder u
    word_free u low plain =
        let sp : r.space u ≡ 0 = dite (ℕ_discrete (r.space u) 0) (λ e. e) (λ o. plain (r.paged.low u (r.paged.volatile u o).2).0) in
        let mk : r.machine.mark u ≡ 0 = not_marked None (spans_in spans) told.pages told.frontier (names_page told) keeps_in (r.counter 0) r.used r.machine.mark r.space r.holder r.history s.homes (λ k. page_view (r.crew k)) r.paged u sp in
        r.words.units u low ∙ (λ i. unit_word (r.holder u) (mk i) (sp i)) ∙ plain_word (r.holder u)

    -- a unit that is free is taken
    pub takes_unit : (u : ℕ) (x : Slot) (after : List Done) → u < told.pages + 33 → r.holder u ≡ 0 → (u < told.pages → is_steady told v u ≡ true)
        → get_elem? s.homes u ≡ some (some x) → r.history ≡ v.seen ++ after
        → Rule record {
          words = set s.words (unit_at u) (v.row + 1);
          homes = set s.homes u none;
          views = set s.views id (took turn v u after r.lost (spans_in spans x) (counted_in counted x));
        }
    takes_unit u x after low free steady at is =
        let w : View = took turn v u after r.lost (spans_in spans x) (counted_in counted x) in
        let here = here_is stands spans counted told s r id v l in
        let lives = here_lives stands spans counted told s r id v l in
        let seated = r.seated in
        let live : w.live ≡ true = l.1 in
        let plain : u < told.pages → r.space u ≡ 0 = λ below. (steady_is u (steady below)).1 in
        let sp : r.space u ≡ 0 = dite (ℕ_discrete (r.space u) 0) (λ e. e) (λ o. plain (r.paged.low u (r.paged.volatile u o).2).0) in
        let mk : r.machine.mark u ≡ 0 = not_marked None (spans_in spans) told.pages told.frontier (names_page told) keeps_in (r.counter 0) r.used r.machine.mark r.space r.holder r.history s.homes (λ k. page_view (r.crew k)) r.paged u sp in
        let e = encode_unit told.pages r.machine.word r.holder r.machine.mark r.space r.counter s.words r.words u (v.row + 1) 0 0 (omega (arith, low)) in
        let holder' : ℕ → ℕ = put r.holder u (v.row + 1) in
        record {
          crew = put r.crew v.row w;
          seated = seated_now s.views r.crew seated id v w l live refl;
          machine = r.machine;
          holder = holder';
          space = r.space;
          used = r.used;
          counter = r.counter;
          history = r.history;
          lost = r.lost;
          words = subst (λ (z : ℕ × ((ℕ → ℕ) × (ℕ → ℕ))). Encodes told.pages r.machine.word holder' z.1.0 z.1.1 r.counter (set s.words (unit_at u) z.0))
              (λ i. (plain_word (v.row + 1) i, (put_same r.machine.mark u 0 (sym mk) i, put_same r.space u 0 (sym sp) i))) e;
          rows = unchanged s.views r.crew seated id v w l live refl row_view (RowsRule told.pages (moves_of r.history) r.machine) refl r.rows;
          units = at_view s.views r.crew seated id v w l live refl unit_view (UnitsRule (Good stands told r.lost) (counted_in counted) turn (names told) holder' r.history (set s.homes u none))
              (unit_with (Took u ∷ (r.crew v.row).holds) r.history (if u == turn then counted_in counted x else (r.crew v.row).faults))
              (λ i. record { live = sym live i; holds = Took u ∷ (here i).holds; seen = is i; faults = if u == turn then counted_in counted x else (here i).faults })
              (takes_part (Good stands told r.lost) (counted_in counted) turn (names told) (good_frame r.lost) r.holder r.history s.homes (λ k. unit_view (r.crew k)) r.units v.row lives
              u (if u == turn then counted_in counted x else (r.crew v.row).faults) x (omega (arith, low)) free at
              (λ o. chosen_else u turn (counted_in counted x) (r.crew v.row).faults o) (λ same. chosen_at u turn (counted_in counted x) (r.crew v.row).faults same));
          paged = at_view s.views r.crew seated id v w l live refl page_view (PagesRule None (spans_in spans) told.pages told.frontier (names_page told) keeps_in (r.counter 0) r.used r.machine.mark r.space holder' r.history (set s.homes u none))
              (page_with (Took u ∷ (r.crew v.row).holds) (Spread u (spans_in spans x) ∷ (r.crew v.row).spans) (r.crew v.row).steady (r.crew v.row).pages)
              (λ i. record { live = sym live i; holds = Took u ∷ (here i).holds; spans = Spread u (spans_in spans x) ∷ (here i).spans; steady = (here i).steady; pages = (here i).pages })
              (pages_take None (spans_in spans) told.pages told.frontier (names_page told) keeps_in (r.counter 0) r.used r.machine.mark r.space r.holder r.history s.homes (λ k. page_view (r.crew k)) r.paged v.row lives
              u x free (λ below. steady_is u (steady below)) at (omega (arith, low, r.units.deep)));
          draws = unchanged s.views r.crew seated id v w l live refl draw_view (DrawsRule (limit told) (first told) r.counter) refl r.draws;
          named = unchanged s.views r.crew seated id v w l live refl name_view (NamesRule makes told.next_name (r.counter 1) r.history) refl r.named;
          counts = unchanged s.views r.crew seated id v w l live refl count_view (CountsRule (min (r.counter 2) 32) r.history) refl r.counts;
          failed = at_view s.views r.crew seated id v w l live refl lost_view (LostRule (holder' turn) r.lost)
              (lost_with (r.crew v.row).failed (if u == turn then r.lost else (r.crew v.row).lost))
              (λ i. record { live = sym live i; failed = (here i).failed; lost = if u == turn then r.lost else (here i).lost })
              (lost_take (r.holder turn) r.lost (λ k. lost_view (r.crew k)) r.failed v.row lives (holder' turn) (if u == turn then r.lost else (r.crew v.row).lost)
              (λ mine. dite (ℕ_discrete u turn) (λ same. chosen_at u turn r.lost (r.crew v.row).lost same)
              (λ o. chosen_else u turn r.lost (r.crew v.row).lost o ∙ r.failed.turn_knows v.row (sym (put_else r.holder u (v.row + 1) turn (λ x. o (sym x))) ∙ mine)))
              (λ j o. put_cases (λ h. h ≡ j + 1 → r.holder turn ≡ j + 1) r.holder u (v.row + 1) turn (λ _ x. absurd (o (omega (arith, x)))) (λ _ x. x)));
          lasts = unchanged s.views r.crew seated id v w l live refl last_view LastRule refl r.lasts;
          lawful = r.lawful;
          bounds = r.bounds;
        }

    -- a unit other than the turn is given back
    pub gives_unit : (u : ℕ) (x : Slot) → u < told.pages + 32 → holds_of v.holds u ≡ true
        → ((p : ℕ) → told.pages ≤ u → is_in p (spans_in spans x) ≡ spans_of v.spans u p)
        → ((p : ℕ) → told.pages ≤ u → spans_of v.spans u p ≡ true → marks_of v.log p ≡ false)
        → Good stands told r.lost v.seen u x
        → Rule record { words = set s.words (unit_at u) 0; homes = set s.homes u (some x); views = set s.views id (gave v u) }
    gives_unit u x low holds fits unmarked good =
        let w : View = gave v u in
        let here = here_is stands spans counted told s r id v l in
        let lives = here_lives stands spans counted told s r id v l in
        let seated = r.seated in
        let live : w.live ≡ true = l.1 in
        let mine : r.holder u ≡ v.row + 1 = holds_unit stands spans counted told s r id v l u holds in
        let taken : r.holder u ≢ 0 = λ z. omega (arith, z, mine) in
        let sp : r.space u ≡ 0 = dite (ℕ_discrete (r.space u) 0) (λ e. e) (λ o. absurd (taken (r.paged.volatile u o).1)) in
        let mk : r.machine.mark u ≡ 0 = not_marked None (spans_in spans) told.pages told.frontier (names_page told) keeps_in (r.counter 0) r.used r.machine.mark r.space r.holder r.history s.homes (λ k. page_view (r.crew k)) r.paged u sp in
        let e = encode_unit told.pages r.machine.word r.holder r.machine.mark r.space r.counter s.words r.words u 0 0 0 (omega (arith, low)) in
        let apart : u ≢ turn = λ same. omega (arith, same, low) in
        let holder' : ℕ → ℕ = put r.holder u 0 in
        let held_is : (j : ℕ) → j < 32 → space_unit told.pages j ≡ u → (p : ℕ) → spans_of (r.crew v.row).spans u p ≡ (r.space p == j + 1) = λ j below at p.
        subst (λ (n : ℕ). spans_of (r.crew v.row).spans n p ≡ (r.space p == j + 1)) at (r.paged.held v.row lives j below (ap (λ (y : View). holds_of y.holds (space_unit told.pages j)) here ∙ (ap (holds_of v.holds) at ∙ holds)) p) in
        record {
          crew = put r.crew v.row w;
          seated = seated_now s.views r.crew seated id v w l live refl;
          machine = r.machine;
          holder = holder';
          space = r.space;
          used = r.used;
          counter = r.counter;
          history = r.history;
          lost = r.lost;
          words = subst (λ (z : (ℕ → ℕ) × (ℕ → ℕ)). Encodes told.pages r.machine.word holder' z.0 z.1 r.counter (set s.words (unit_at u) 0))
              (λ i. (put_same r.machine.mark u 0 (sym mk) i, put_same r.space u 0 (sym sp) i)) e;
          rows = unchanged s.views r.crew seated id v w l live refl row_view (RowsRule told.pages (moves_of r.history) r.machine) refl r.rows;
          units = subst (λ (h : List Done). UnitsRule (Good stands told r.lost) (counted_in counted) turn (names told) holder' h (set s.homes u (some x)) (λ k. unit_view (put r.crew v.row w k))) (append_nothing r.history)
              (at_view s.views r.crew seated id v w l live refl unit_view (UnitsRule (Good stands told r.lost) (counted_in counted) turn (names told) holder' (r.history ++ []) (set s.homes u (some x)))
              (unit_with (Gave u ∷ (r.crew v.row).holds) ((r.crew v.row).seen ++ []) (r.crew v.row).faults)
              (λ i. record { live = sym live i; holds = Gave u ∷ (here i).holds; seen = (append_nothing (r.crew v.row).seen ∙ ap (λ (y : View). y.seen) here) i; faults = (here i).faults })
              (gives_part (Good stands told r.lost) (counted_in counted) turn (names told) (good_frame r.lost) r.holder r.history s.homes (λ k. unit_view (r.crew k)) r.units v.row lives
              u (r.crew v.row).faults x [] mine
              (subst (λ (h : List Done). Good stands told r.lost h u x) (ap (λ (y : View). y.seen) (sym here) ∙ sym (append_nothing (r.crew v.row).seen)) good)
              (λ _ _. refl) (λ _. (refl, refl)) (λ same. absurd (apart same))));
          paged = subst (λ (h : List Done). PagesRule None (spans_in spans) told.pages told.frontier (names_page told) keeps_in (r.counter 0) r.used r.machine.mark r.space holder' h (set s.homes u (some x)) (λ k. page_view (put r.crew v.row w k))) (append_nothing r.history)
              (at_view s.views r.crew seated id v w l live refl page_view (PagesRule None (spans_in spans) told.pages told.frontier (names_page told) keeps_in (r.counter 0) r.used r.machine.mark r.space holder' (r.history ++ []) (set s.homes u (some x)))
              (page_with (Gave u ∷ (r.crew v.row).holds) (r.crew v.row).spans (r.crew v.row).steady (r.crew v.row).pages)
              (λ i. record { live = sym live i; holds = Gave u ∷ (here i).holds; spans = (here i).spans; steady = (here i).steady; pages = (here i).pages })
              (pages_give None (spans_in spans) told.pages told.frontier (names_page told) keeps_in (r.counter 0) r.used r.machine.mark r.space r.holder r.history s.homes (λ k. page_view (r.crew k)) r.paged v.row lives
              u x [] mine (omega (arith, low, r.units.deep))
              (λ j below at p. fits p (omega (arith, at)) ∙ (ap (λ (y : View). spans_of y.spans u p) (sym here) ∙ held_is j below at p))
              (λ p is at. let sp_is = (r.paged.volatile p (r.paged.marks p is).0) in
              let low_j : r.space p - 1 < 32 = (let a = sp_is.0 in let b = (r.paged.marks p is).0 in omega (arith, a, b)) in
              let in_it : spans_of v.spans u p ≡ true = ap (λ (y : View). spans_of y.spans u p) (sym here) ∙ (held_is (r.space p - 1) low_j at p ∙ equal_test (r.space p) (r.space p - 1 + 1) (let b = (r.paged.marks p is).0 in omega (arith, b))) in
              let bare : marks_of v.log p ≡ false = unmarked p (omega (arith, at)) in_it in
              let marker : r.machine.mark p ≡ v.row + 1 = sym (r.paged.marks p is).1 ∙ (ap r.holder at ∙ mine) in
              let mine_too : marks_of v.log p ≡ true = (knows_row stands spans counted told s r id v l).marks p ∙ equal_test (r.machine.mark p) (v.row + 1) marker in
              cc)
              (λ p is. absurd (cc)) (λ p is. absurd (cc)) (λ j p is. absurd (cc))));
          draws = unchanged s.views r.crew seated id v w l live refl draw_view (DrawsRule (limit told) (first told) r.counter) refl r.draws;
          named = unchanged s.views r.crew seated id v w l live refl name_view (NamesRule makes told.next_name (r.counter 1) r.history) refl r.named;
          counts = unchanged s.views r.crew seated id v w l live refl count_view (CountsRule (min (r.counter 2) 32) r.history) refl r.counts;
          failed = subst (λ (h : ℕ). LostRule h r.lost (λ k. lost_view (put r.crew v.row w k))) (sym (put_else r.holder u 0 turn (λ x. apart (sym x))))
              (unchanged s.views r.crew seated id v w l live refl lost_view (LostRule (r.holder turn) r.lost) refl r.failed);
          lasts = unchanged s.views r.crew seated id v w l live refl last_view LastRule refl r.lasts;
          lawful = r.lawful;
          bounds = r.bounds;
        }
