-- A page that was drawn, or one of a held space, is settled.
use Rattle.std.proofs.Common.{◌≡◌, ◌≢◌, ◌⊎◌, ℕ, ◌+◌, ◌-◌, ◌<◌, ◌≤◌, ◌==◌, Bool, true, false, if◌then◌else◌, List, [], ◌∷◌, ◌++◌, min, Option, None, refl, sym, ap, ◌∙◌, subst, inl, inr, ⊎_elim, arith}
use Rattle.std.proofs.Math.ListN.{set}
use Rattle.std.proofs.lemmas.Bool.Decides.{nat_tests}
use mathlib.Core.Option.{none, some, some-injective}
use mathlib.Core.Logic.{dite}
use native.Mathlib.Decide.{ℕ_discrete}
use lib.ListN.{get_elem?}
use Rattle.atomic_table.specs.Table.{State}
use Rattle.atomic_table.proofs.Lists.{set_else}
use Rattle.pm3_core.specs.declared.events.Event.TheVariants.{Unmark}
use Rattle.pm3_core.specs.Machine.{Machine, put, marked}
use Rattle.pm3_history.specs.Entry.{Done}
use Rattle.pm3_table.specs.declared.view.Deed.TheVariants.{Unmarked}
use Rattle.pm3_table.specs.declared.view.Hold.TheVariants.{Took}
use Rattle.pm3_table.specs.declared.view.Span.TheVariants.{Went}
use Rattle.pm3_table.specs.declared.view.Told.{Told}
use Rattle.pm3_table.specs.declared.view.View.{View}
use Rattle.pm3_table.specs.Crew.{Lives}
use Rattle.pm3_table.specs.Deeds.{marks_of}
use Rattle.pm3_table.specs.Entries.{makes, keeps_in}
use Rattle.pm3_table.specs.Histories.{NoneHas}
use Rattle.pm3_table.specs.Holds.{holds_of, is_in, without_number}
use Rattle.pm3_table.specs.Names.{NamesRule}
use Rattle.pm3_table.specs.Ops.{settled_in, settled_held}
use Rattle.pm3_table.specs.Settles.{unmark_log, MaySettle, MaySettleIn}
use Rattle.pm3_table.specs.Telling.{limit, first, names, names_page, Good, spans_in, counted_in}
use Rattle.pm3_table.specs.Words.{Encodes, unit_at, unit_word, turn_unit, space_unit}
use Rattle.pm3_table.specs.Rows.{RowView, RowsRule, row_with, moves_of}
use Rattle.pm3_table.specs.Pages.{PagesRule}
use Rattle.pm3_table.specs.Units.{UnitsRule}
use Rattle.pm3_table.specs.Draws.{DrawsRule}
use Rattle.pm3_table.specs.Counts.{CountsRule}
use Rattle.pm3_table.specs.Lost.{LostRule}
use Rattle.pm3_table.specs.Lasts.{LastRule}
use Rattle.pm3_table.specs.Rule.{Ruled, row_view, unit_view, page_view, draw_view, name_view, count_view, lost_view, last_view}
use Rattle.pm3_table.proofs.Put.{put_at, put_else, put_same}
use Rattle.pm3_table.proofs.Advances.{seated_now, unchanged}
use Rattle.pm3_table.proofs.Encoded.{encode_unit}
use Rattle.pm3_table.proofs.RowsKept.{event_keeps, mark_frame, unmark_knows}
use Rattle.pm3_table.proofs.RowSteps.{equal_by, equal_test, may_unmark, at_view, here_is, here_lives, row_low, knows_row, holds_unit, in_space}
use Rattle.pm3_table.proofs.UnitsKept.{unit_with, holds_part}
use Rattle.pm3_table.proofs.UnitSteps.{good_frame}
use Rattle.pm3_table.proofs.PagesKept.{yes_or_no, page_with}
use Rattle.pm3_table.proofs.SettlesKept.{where_to, settle_part}

apart_test : (x i k : ℕ) → i ≢ k → x ≡ k + 1 → (x == i + 1) ≡ false
apart_test x i k o e = grind (arith, nat_tests, o, e)

newer : (p q : ℕ) (xs : List ℕ) → is_in p (q ∷ xs) ≡ true → (is_in p xs ≡ true) ⊎ ((p ≡ q) × (◌≡◌ {A = ℕ} 0 0))
newer p q xs is = dite (ℕ_discrete q p) (λ e. inr (sym e, refl)) (λ o. inl (grind (arith, nat_tests, o, is)))

goes : (pages j : ℕ) → where_to pages (j + 1) ≡ space_unit pages j + 1
goes pages j = grind (arith, nat_tests)

-- who may settle a page in a space may settle it
pub may_settle : (told : Told) (v : View) (j q : ℕ) → MaySettleIn told v j q → MaySettle told v q
may_settle told v j q (inl drawn) = inl drawn
may_settle told v j q (inr has) = inr (j, has)

-- the rows after a mark was taken off, or none was there
record Cleaned (pages : ℕ) (m m' : Machine) (q : ℕ) : Type 0 where
  word : m'.word ≡ m.word
  mark : m'.mark ≡ put m.mark q 0

module _ {V : Type 0} (stands : Told → List Done → List Done → ℕ → V → Type 0) (spans : V → List ℕ) (counted : V → ℕ) (told : Told)
    (frame : (lost h : List Done) (e : Done) (u : ℕ) (x : V) → names told e u ≡ false → stands told lost h u x → stands told lost (h ++ e ∷ []) u x) where
  abbrev S : Type 0
  S = State (Option V) View

  abbrev Rule : S → Type 0
  Rule = Ruled stands spans counted told

  abbrev turn : ℕ
  turn = turn_unit told.pages

  module _ (s : S) (r : Rule s) (id : ℕ) (v : View) (l : Lives s.views id v) (q : ℕ) (may : MaySettle told v q) where
    -- a page that was drawn
    is_drawn : is_in q v.pages ≡ true → (told.frontier ≤ q) × (q < told.pages) × (q < r.counter 0) × (r.used q ≡ false)
    is_drawn is = r.paged.drawn v.row (here_lives stands spans counted told s r id v l) q (ap (λ (x : View). is_in q x.pages) (here_is stands spans counted told s r id v l) ∙ is)

    fresh : (r.used q ≡ false) ⊎ (r.space q ≢ 0)
    fresh = ⊎_elim (λ is. inl (is_drawn is).3) (λ has. inr (λ z. let a = in_space stands spans counted told s r id v l has.0 q has.1 in omega (arith, a, z))) may

    bounds_are : (told.frontier ≤ q) × (q < told.pages) × (q < r.counter 0)
    bounds_are = ⊎_elim (λ is. let d = is_drawn is in (d.0, d.1, d.2))
        (λ has. let a = in_space stands spans counted told s r id v l has.0 q has.1 in let o : r.space q ≢ 0 = (λ z. omega (arith, a, z)) in
        let vol = r.paged.volatile q o in let low = r.paged.low q vol.2 in (vol.3, low.0, low.1)) may

    -- it is free, without a value, and no commit names it
    pub is_free : r.holder q ≡ 0
    is_free = ⊎_elim (λ u. (r.paged.blank q bounds_are.1 u).0) (λ o. (r.paged.volatile q o).1) fresh

    pub not_held : holds_of v.holds q ≡ false
    not_held = ⊎_elim (λ y. absurd (let a = holds_unit stands spans counted told s r id v l q y in omega (arith, a, is_free))) (λ n. n) (yes_or_no (holds_of v.holds q))

    pub at_home : get_elem? s.homes q ≡ some (some None)
    at_home = r.paged.bare q bounds_are.1 fresh

    no_commit : NoneHas (names told) r.history q
    no_commit = let low : q < turn + 1 = (let b = bounds_are.1 in omega (arith, b)) in let home = r.units.home q low is_free in
        let is : home.0 ≡ None = some-injective home.0 None (some-injective (some home.0) (some None) (sym home.1 ∙ at_home)) in
        (subst (λ (x : Option V). Good stands told r.lost r.history q x) is home.2).1

    -- its mark is the mutator's own, or none
    own_mark : (r.machine.mark q ≡ 0) ⊎ (r.machine.mark q ≡ v.row + 1)
    own_mark = dite (ℕ_discrete (r.machine.mark q) 0) inl
        (λ o. let m = r.paged.marks q o in ⊎_elim
        (λ is. absurd (m.0 (r.paged.blank q bounds_are.1 (is_drawn is).3).1))
        (λ has. let sp = in_space stands spans counted told s r id v l has.0 q has.1 in
        let at : r.space q - 1 ≡ has.0 = omega (arith, sp) in
        inr (sym m.1 ∙ (ap (λ (n : ℕ). r.holder (space_unit told.pages n)) at ∙ holds_unit stands spans counted told s r id v l (space_unit told.pages has.0) has.1.1)))
        may)

    -- the rows once the mark is taken off, if there is one
    rows_now : (b : Bool) → marks_of v.log q ≡ b → (m' : Machine) × Cleaned told.pages r.machine m' q × RowsRule told.pages (moves_of r.history) m' (put (λ k. row_view (r.crew k)) v.row (row_with (if b then (Unmarked q ∷ v.log) else v.log)))
    rows_now true is =
        let mine : r.machine.mark q ≡ v.row + 1 = equal_by (r.machine.mark q) (v.row + 1) (sym ((knows_row stands spans counted told s r id v l).marks q) ∙ is) in (
          marked r.machine q 0,
          record { word = refl; mark = refl },
          event_keeps told.pages r.machine (λ k. row_view (r.crew k)) (moves_of r.history) r.rows v.row (Unmark v.row q) (marked r.machine q 0) (Unmarked q ∷ v.log)
              refl (here_lives stands spans counted told s r id v l) (may_unmark told.pages v.row q r.machine (row_low stands spans counted told s r id v l) bounds_are.1 mine, tt) refl (mark_frame r.machine v.row q 0 (inr mine) (inl refl))
              (λ p o. inl (sym (put_else r.machine.mark q 0 p (λ here. o (put_at r.machine.mark q 0 p here)))))
              (unmark_knows told.pages r.machine v.row q v.log (knows_row stands spans counted told s r id v l)),
        )
    rows_now false is =
        let bare : r.machine.mark q ≡ 0 = ⊎_elim (λ z. z) (λ mine. absurd (let a : marks_of v.log q ≡ true = (knows_row stands spans counted told s r id v l).marks q ∙ equal_test (r.machine.mark q) (v.row + 1) mine in cc)) own_mark in (
          r.machine,
          record { word = refl; mark = sym (put_same r.machine.mark q 0 (sym bare)) },
          subst (λ (f : ℕ → RowView). RowsRule told.pages (moves_of r.history) r.machine f)
              (sym (put_same (λ k. row_view (r.crew k)) v.row (row_with v.log) (λ i. record { live = sym (here_lives stands spans counted told s r id v l) i; log = (sym (here_is stands spans counted told s r id v l) i).log }))) r.rows,
        )

    -- a space that the page leaves, or comes to, is the mutator's
    module _ (z : ℕ) (mine : (j : ℕ) → z ≡ j + 1 → holds_of v.holds (space_unit told.pages j) ≡ true) where
      theirs : (j : ℕ) → j < 32 → (r.space q ≡ j + 1) ⊎ (z ≡ j + 1)
          → (get_elem? s.homes (space_unit told.pages j) ≡ some none) × ((i : ℕ) → i ≢ v.row → (r.crew i).live ≡ true → holds_of (r.crew i).holds (space_unit told.pages j) ≡ false)
      theirs j low either =
          let holds : holds_of v.holds (space_unit told.pages j) ≡ true = ⊎_elim
          (λ sp. ⊎_elim (λ is. absurd (let b = (r.paged.blank q bounds_are.1 (is_drawn is).3).1 in omega (arith, b, sp)))
          (λ has. let a = in_space stands spans counted told s r id v l has.0 q has.1 in let same : has.0 ≡ j = omega (arith, a, sp) in ap (λ (n : ℕ). holds_of v.holds (space_unit told.pages n)) (sym same) ∙ has.1.1) may)
          (mine j) either in
          let held : r.holder (space_unit told.pages j) ≡ v.row + 1 = holds_unit stands spans counted told s r id v l (space_unit told.pages j) holds in (
            r.units.out (space_unit told.pages j) (omega (arith, low)) (λ z0. omega (arith, z0, held)),
            λ i o live. (r.units.known i live).holds (space_unit told.pages j) ∙ apart_test (r.holder (space_unit told.pages j)) i v.row o held,
          )

      alone : (i : ℕ) → i ≢ v.row → (r.crew i).live ≡ true → is_in q (r.crew i).pages ≡ false
      alone i o live = ⊎_elim
          (λ y. absurd (⊎_elim
          (λ is. o (r.paged.apart i v.row q live (here_lives stands spans counted told s r id v l) y (ap (λ (x : View). is_in q x.pages) (here_is stands spans counted told s r id v l) ∙ is)))
          (λ has. let a = in_space stands spans counted told s r id v l has.0 q has.1 in let u = (r.paged.volatile q (λ e. omega (arith, a, e))).2 in let n = (r.paged.drawn i live q y).3 in cc) may))
          (λ n. n) (yes_or_no (is_in q (r.crew i).pages))

    -- it comes to no other space
    own_only : (j : ℕ) → MaySettleIn told v j q → r.used q ≡ true → (j + 1 ≡ 0) ⊎ (j + 1 ≡ r.space q)
    own_only j (inl drawn) used = absurd (let n = (is_drawn drawn).3 in cc)
    own_only j (inr has) used = inr (sym (in_space stands spans counted told s r id v l j q has))

    -- it becomes volatile, in a space that the view holds
    pub settles_in : (j : ℕ) → MaySettleIn told v j q → j < 32 → holds_of v.holds (space_unit told.pages j) ≡ true
        → Rule record { words = set s.words (unit_at q) (unit_word 0 0 (j + 1)); homes = s.homes; views = set s.views id (settled_in v q (space_unit told.pages j) (unmark_log v.log q)) }
    settles_in j only low holds =
        let w : View = settled_in v q (space_unit told.pages j) (unmark_log v.log q) in
        let here = here_is stands spans counted told s r id v l in
        let live : w.live ≡ true = l.1 in
        let rows = rows_now (marks_of v.log q) refl in
        let mine : (i : ℕ) → j + 1 ≡ i + 1 → holds_of v.holds (space_unit told.pages i) ≡ true = λ i e. ap (λ (n : ℕ). holds_of v.holds (space_unit told.pages n)) (let x : i ≡ j = omega (arith, e) in x) ∙ holds in
        let e = encode_unit told.pages r.machine.word r.holder r.machine.mark r.space r.counter s.words r.words q 0 0 (j + 1) (let b = bounds_are.1 in omega (arith, b)) in
        record {
          crew = put r.crew v.row w;
          seated = seated_now s.views r.crew r.seated id v w l live refl;
          machine = rows.0;
          holder = put r.holder q 0;
          space = put r.space q (j + 1);
          used = put r.used q true;
          counter = r.counter;
          history = r.history;
          lost = r.lost;
          words = subst (λ (z : (ℕ → ℕ) × (ℕ → ℕ)). Encodes told.pages z.0 (put r.holder q 0) z.1 (put r.space q (j + 1)) r.counter (set s.words (unit_at q) (unit_word 0 0 (j + 1)))) (λ i. (sym rows.1.word i, sym rows.1.mark i)) e;
          rows = at_view s.views r.crew r.seated id v w l live refl row_view (RowsRule told.pages (moves_of r.history) rows.0) (row_with (unmark_log v.log q)) (λ i. record { live = sym live i; log = unmark_log v.log q }) rows.2;
          units = subst (λ (h : ℕ → ℕ). UnitsRule (Good stands told r.lost) (counted_in counted) turn (names told) h r.history s.homes (λ k. unit_view (put r.crew v.row w k))) (sym (put_same r.holder q 0 (sym is_free)))
              (unchanged s.views r.crew r.seated id v w l live refl unit_view (UnitsRule (Good stands told r.lost) (counted_in counted) turn (names told) r.holder r.history s.homes) refl r.units);
          paged = subst (λ (m : ℕ → ℕ). PagesRule None (spans_in spans) told.pages told.frontier (names_page told) keeps_in (r.counter 0) (put r.used q true) m (put r.space q (j + 1)) (put r.holder q 0) r.history s.homes (λ k. page_view (put r.crew v.row w k))) (sym rows.1.mark)
              (at_view s.views r.crew r.seated id v w l live refl page_view (PagesRule None (spans_in spans) told.pages told.frontier (names_page told) keeps_in (r.counter 0) (put r.used q true) (put r.machine.mark q 0) (put r.space q (j + 1)) (put r.holder q 0) r.history s.homes)
              (page_with (r.crew v.row).holds (Went q (where_to told.pages (j + 1)) ∷ (r.crew v.row).spans) (r.crew v.row).steady (without_number q (r.crew v.row).pages))
              (λ i. record { live = sym live i; holds = (here i).holds; spans = Went q (goes told.pages j i) ∷ (here i).spans; steady = (here i).steady; pages = without_number q (here i).pages })
              (settle_part None (spans_in spans) told.pages told.frontier (names_page told) keeps_in (r.counter 0) r.used r.machine.mark r.space r.holder r.history s.homes s.homes (λ k. page_view (r.crew k)) r.paged v.row (here_lives stands spans counted told s r id v l) q (j + 1) 0 (r.crew v.row).holds (r.crew v.row).steady
              bounds_are.1 bounds_are.0 bounds_are.2 fresh (own_only j only) (alone (j + 1) mine) (omega (arith, low)) (λ _. refl) (theirs (j + 1) mine) (λ i _. refl) (λ _. refl) (λ i x. x) (λ p x. inl x)));
          draws = unchanged s.views r.crew r.seated id v w l live refl draw_view (DrawsRule (limit told) (first told) r.counter) refl r.draws;
          named = unchanged s.views r.crew r.seated id v w l live refl name_view (NamesRule makes told.next_name (r.counter 1) r.history) refl r.named;
          counts = unchanged s.views r.crew r.seated id v w l live refl count_view (CountsRule (min (r.counter 2) 32) r.history) refl r.counts;
          failed = subst (λ (h : ℕ → ℕ). LostRule (h turn) r.lost (λ k. lost_view (put r.crew v.row w k))) (sym (put_same r.holder q 0 (sym is_free)))
              (unchanged s.views r.crew r.seated id v w l live refl lost_view (LostRule (r.holder turn) r.lost) refl r.failed);
          lasts = unchanged s.views r.crew r.seated id v w l live refl last_view LastRule refl r.lasts;
          lawful = r.lawful;
          bounds = r.bounds;
        }

    -- it becomes persistent, and the mutator holds it
    pub settles_held : Rule record { words = set s.words (unit_at q) (unit_word (v.row + 1) 0 0); homes = set s.homes q none; views = set s.views id (settled_held v q (unmark_log v.log q)) }
    settles_held =
        let w : View = settled_held v q (unmark_log v.log q) in
        let here = here_is stands spans counted told s r id v l in
        let live : w.live ≡ true = l.1 in
        let rows = rows_now (marks_of v.log q) refl in
        let mine : (i : ℕ) → 0 ≡ i + 1 → holds_of v.holds (space_unit told.pages i) ≡ true = λ i e. absurd (omega (arith, e)) in
        let e = encode_unit told.pages r.machine.word r.holder r.machine.mark r.space r.counter s.words r.words q (v.row + 1) 0 0 (let b = bounds_are.1 in omega (arith, b)) in
        let holder' : ℕ → ℕ = put r.holder q (v.row + 1) in
        let away : turn ≢ q = λ x. let b = bounds_are.1 in omega (arith, b, x) in
        record {
          crew = put r.crew v.row w;
          seated = seated_now s.views r.crew r.seated id v w l live refl;
          machine = rows.0;
          holder = holder';
          space = put r.space q 0;
          used = put r.used q true;
          counter = r.counter;
          history = r.history;
          lost = r.lost;
          words = subst (λ (z : (ℕ → ℕ) × (ℕ → ℕ)). Encodes told.pages z.0 holder' z.1 (put r.space q 0) r.counter (set s.words (unit_at q) (unit_word (v.row + 1) 0 0))) (λ i. (sym rows.1.word i, sym rows.1.mark i)) e;
          rows = at_view s.views r.crew r.seated id v w l live refl row_view (RowsRule told.pages (moves_of r.history) rows.0) (row_with (unmark_log v.log q)) (λ i. record { live = sym live i; log = unmark_log v.log q }) rows.2;
          units = at_view s.views r.crew r.seated id v w l live refl unit_view (UnitsRule (Good stands told r.lost) (counted_in counted) turn (names told) holder' r.history (set s.homes q none))
              (unit_with (Took q ∷ (r.crew v.row).holds) (r.crew v.row).seen (r.crew v.row).faults) (λ i. record { live = sym live i; holds = Took q ∷ (here i).holds; seen = (here i).seen; faults = (here i).faults })
              (holds_part (Good stands told r.lost) (counted_in counted) turn (names told) (good_frame stands spans counted told frame r.lost) r.holder r.history s.homes (λ k. unit_view (r.crew k)) r.units v.row (here_lives stands spans counted told s r id v l) q
              (let b = bounds_are.1 in omega (arith, b)) is_free no_commit);
          paged = subst (λ (m : ℕ → ℕ). PagesRule None (spans_in spans) told.pages told.frontier (names_page told) keeps_in (r.counter 0) (put r.used q true) m (put r.space q 0) holder' r.history (set s.homes q none) (λ k. page_view (put r.crew v.row w k))) (sym rows.1.mark)
              (at_view s.views r.crew r.seated id v w l live refl page_view (PagesRule None (spans_in spans) told.pages told.frontier (names_page told) keeps_in (r.counter 0) (put r.used q true) (put r.machine.mark q 0) (put r.space q 0) holder' r.history (set s.homes q none))
              (page_with (Took q ∷ (r.crew v.row).holds) (Went q (where_to told.pages 0) ∷ (r.crew v.row).spans) (q ∷ (r.crew v.row).steady) (without_number q (r.crew v.row).pages))
              (λ i. record { live = sym live i; holds = Took q ∷ (here i).holds; spans = Went q 0 ∷ (here i).spans; steady = q ∷ (here i).steady; pages = without_number q (here i).pages })
              (settle_part None (spans_in spans) told.pages told.frontier (names_page told) keeps_in (r.counter 0) r.used r.machine.mark r.space r.holder r.history s.homes (set s.homes q none) (λ k. page_view (r.crew k)) r.paged v.row (here_lives stands spans counted told s r id v l) q 0 (v.row + 1) (Took q ∷ (r.crew v.row).holds) (q ∷ (r.crew v.row).steady)
              bounds_are.1 bounds_are.0 bounds_are.2 fresh (λ _. inl refl) (alone 0 mine) (omega arith) (λ o. absurd (o refl)) (theirs 0 mine) (λ i o. set_else s.homes q i none o) (λ o. absurd (o refl))
              (λ i x. sym (put_else (holds_of (r.crew v.row).holds) q true (space_unit told.pages i) (λ at. let b = bounds_are.1 in omega (arith, at, b))) ∙ x)
              (λ p x. newer p q (r.crew v.row).steady x)));
          draws = unchanged s.views r.crew r.seated id v w l live refl draw_view (DrawsRule (limit told) (first told) r.counter) refl r.draws;
          named = unchanged s.views r.crew r.seated id v w l live refl name_view (NamesRule makes told.next_name (r.counter 1) r.history) refl r.named;
          counts = unchanged s.views r.crew r.seated id v w l live refl count_view (CountsRule (min (r.counter 2) 32) r.history) refl r.counts;
          failed = subst (λ (h : ℕ). LostRule h r.lost (λ k. lost_view (put r.crew v.row w k))) (sym (put_else r.holder q (v.row + 1) turn away))
              (unchanged s.views r.crew r.seated id v w l live refl lost_view (LostRule (r.holder turn) r.lost) refl r.failed);
          lasts = unchanged s.views r.crew r.seated id v w l live refl last_view LastRule refl r.lasts;
          lawful = r.lawful;
          bounds = r.bounds;
        }
