-- The turn is given back, with commits that join the history and others that failed.
use Rattle.std.proofs.Common.{◌≡◌, ◌≢◌, ℕ, zero, suc, ◌+◌, ◌<◌, ◌≤◌, ◌==◌, ◌||◌, ◌&&◌, not, Bool, true, false, List, [], ◌∷◌, ◌++◌, append_assoc, map, min, Option, None, Some, refl, sym, ap, ◌∙◌, subst, inl, inr, ⊎_elim, arith}
use Rattle.std.proofs.Math.Bool.{or-true}
use Rattle.std.proofs.Math.ListN as list
use Rattle.std.specs.List.{list_any}
use Rattle.std.specs.FinSet as set
use mathlib.Core.Option as maybe
use mathlib.Core.Option.{none, some}
use mathlib.Core.Logic.{dite}
use native.Mathlib.Decide.{ℕ_discrete}
use lib.ListN.{get_elem?}
use Rattle.atomic_table.specs.Table.{State}
use Rattle.pm3_core.specs.declared.events.TheConstants.{ROWS}
use Rattle.pm3_core.specs.declared.events.Event.{Event}
use Rattle.pm3_core.specs.Naming.{page_in}
use Rattle.pm3_core.specs.Machine.{Machine, put}
use Rattle.pm3_core.specs.Cleared.{Cleared}
use Rattle.pm3_history.specs.Entry.{Done, Move, Pass}
use Rattle.pm3_table.specs.declared.view.Hold.TheVariants.{Gave}
use Rattle.pm3_table.specs.declared.view.Told.{Told}
use Rattle.pm3_table.specs.declared.view.View.{View}
use Rattle.pm3_table.specs.Crew.{Lives}
use Rattle.pm3_table.specs.Deeds.{IsClearedIn}
use Rattle.pm3_table.specs.Entries.{makes, touches, moved_of, moved_by, touched_by, writes, keeps_in}
use Rattle.pm3_table.specs.Histories.{some_has, AllBy}
use Rattle.pm3_table.specs.Holds.{holds_of, spans_of, is_in}
use Rattle.pm3_table.specs.Names.{NamesRule, spare}
use Rattle.pm3_table.specs.Ops.{turned}
use Rattle.pm3_table.specs.Telling.{NoneNames, limit, first, names, names_page, Lawful, Good, spans_in, counted_in, is_steady, in_some_space, knows_used, MayJoin}
use Rattle.pm3_table.specs.Words.{Encodes, unit_at, turn_unit, space_unit}
use Rattle.pm3_table.specs.Rows.{RowView, RowsRule, moves_from, moves_of}
use Rattle.pm3_table.specs.Pages.{PagesRule}
use Rattle.pm3_table.specs.Units.{UnitView, UnitsRule}
use Rattle.pm3_table.specs.Draws.{DrawsRule}
use Rattle.pm3_table.specs.Counts.{CountsRule}
use Rattle.pm3_table.specs.Lost.{LostRule}
use Rattle.pm3_table.specs.Lasts.{LastRule}
use Rattle.pm3_table.specs.Rule.{Ruled, row_view, unit_view, page_view, draw_view, name_view, count_view, lost_view, last_view}
use Rattle.pm3_table.proofs.Put.{put_here, put_same}
use Rattle.pm3_table.proofs.Has.{has_left, own_front}
use Rattle.pm3_table.proofs.Advances.{seated_now, unchanged}
use Rattle.pm3_table.proofs.Encoded.{encode_unit}
use Rattle.pm3_table.proofs.RowsKept.{moves_part}
use Rattle.pm3_table.proofs.RowSteps.{equal_by, at_view, here_is, here_lives, row_low, knows_row, holds_unit, in_space}
use Rattle.pm3_table.proofs.UnitsKept.{unit_with, gives_part}
use Rattle.pm3_table.proofs.PagesKept.{yes_or_no, page_with, pages_give, held_page, not_marked}
use Rattle.pm3_table.proofs.NamesKept.{name_with, names_join, count_with, counts_join}
use Rattle.pm3_table.proofs.LostKept.{lost_with, lost_give}
use Rattle.pm3_table.proofs.UnitSteps.{good_frame, steady_is}

-- a page that a commit writes is a unit that it names, and one that its images name
either_more : (a b c d : Bool) → (a ≡ true → c ≡ true) → (b ≡ true → d ≡ true) → (a || b) ≡ true → (c || d) ≡ true
either_more true b c d f g e = ap (λ (x : Bool). x || d) (f refl)
either_more false true c d f g e = ap (λ (x : Bool). c || x) (g refl) ∙ or-true c
either_more false false c d f g e = absurd (cc)

some_none : (b : Bool) → b ≡ true → b ≡ false → ⊥
some_none b yes_it no_it = absurd (cc)

written_names : (told : Told) (p : ℕ) (h : List Done) → some_has writes h p ≡ true → some_has (names told) h p ≡ true
written_names told p [] is = is
written_names told p (e ∷ es) is = either_more (writes e p) (some_has writes es p) (names told e p) (some_has (names told) es p) (λ w. grind (arith, w)) (written_names told p es) is

written_named : (told : Told) (p : ℕ) (h : List Done) → some_has writes h p ≡ true → some_has (names_page told) h p ≡ true
written_named told p [] is = is
written_named told p (e ∷ es) is = either_more (writes e p) (some_has writes es p) (names_page told e p) (some_has (names_page told) es p) (λ w. grind (arith, w)) (written_named told p es) is

-- the moves of a longer history
moves-append : (h more : List Done) → moves_of (h ++ more) ≡ moves_of h ++ moves_of more
moves-append [] more = refl
moves-append (e ∷ es) more = ap (λ (l : List Event). moves_from e.mutator (moved_of e) ++ l) (moves-append es more) ∙ sym (append_assoc (moves_from e.mutator (moved_of e)) (moves_of es) (moves_of more))

moved_in : (p : ℕ) (ms : List Move) → is_in p (map (λ m. page_in m.from) ms) ≡ true → list_any (λ m. page_in m.from == p) ms ≡ true
moved_in p [] h = h
moved_in p (m ∷ ms) h = again (page_in m.from == p) (is_in p (map (λ x. page_in x.from) ms)) (list_any (λ x. page_in x.from == p) ms) (moved_in p ms) h
  where
    again : (a b c : Bool) → (b ≡ true → c ≡ true) → (a || b) ≡ true → (a || c) ≡ true
    again true b c up e = refl
    again false b c up e = up e

-- what is moved from is touched
touched_if : (pass : Option Pass) (p : ℕ) → is_in p (moved_by pass) ≡ true → touched_by pass p ≡ true
touched_if None p is = absurd (cc)
touched_if (Some x) p is = ap (λ (a : Bool). a || (set.contains x.marked p && not (set.contains x.pinned p))) (moved_in p x.moves is)

has_first : (has : Done → ℕ → Bool) (e : Done) (es : List Done) (p : ℕ) → has e p ≡ true → some_has has (e ∷ es) p ≡ true
has_first has e es p is = λ i. is i || some_has has es p

has_later : (has : Done → ℕ → Bool) (e : Done) (es : List Done) (p : ℕ) → some_has has es p ≡ true → some_has has (e ∷ es) p ≡ true
has_later has e es p is = later (has e p) (some_has has es p) is
  where
    later : (a b : Bool) → b ≡ true → (a || b) ≡ true
    later true b e = refl
    later false b e = e

append_none : (l : List Event) → l ++ [] ≡ l
append_none [] = refl
append_none (x ∷ xs) = ap (λ (l : List Event). x ∷ l) (append_none xs)

-- the moves of commits join the events
commits_part : (pages : ℕ) (m : Machine) (crew : ℕ → RowView) (done : List Event) → RowsRule pages done m crew → (k : ℕ) → k < ROWS → (more : List Done) → AllBy k more
    → ((p : ℕ) → some_has touches more p ≡ true → (p < pages) × Cleared m k p) → RowsRule pages (done ++ moves_of more) m crew
commits_part pages m crew done r k row [] own each = subst (λ (l : List Event). RowsRule pages l m crew) (sym (append_none done)) r
commits_part pages m crew done r k row (e ∷ es) own each =
    let first : RowsRule pages (done ++ moves_from k (moved_of e)) m crew = moves_part pages m crew done r k row (moved_of e) (λ p is. each p (has_first touches e es p (touched_if e.pass p is))) in
    let all = commits_part pages m crew (done ++ moves_from k (moved_of e)) first k row es own.1 (λ p is. each p (has_later touches e es p is)) in
    subst (λ (l : List Event). RowsRule pages l m crew) (append_assoc done (moves_from k (moved_of e)) (moves_of es) ∙ (λ i. done ++ (moves_from (sym own.0 i) (moved_of e) ++ moves_of es))) all

-- a part on units whose values are judged by another test
regood : {S : Type 0} (good good' : List Done → ℕ → S → Type 0) (count : S → ℕ) (turn : ℕ) (names : Done → ℕ → Bool) (holder : ℕ → ℕ) (history : List Done) (homes : List (maybe.Option S)) (crew : ℕ → UnitView)
    → holder turn ≢ 0 → ((h : List Done) (u : ℕ) (x : S) → u ≢ turn → good h u x → good' h u x)
    → UnitsRule good count turn names holder history homes crew → UnitsRule good' count turn names holder history homes crew
regood good good' count turn names holder history homes crew taken alike r = record {
  deep = r.deep;
  home = λ u low free. let was = r.home u low free in (was.0, was.1, alike history u was.0 (λ same. taken (ap holder (sym same) ∙ free)) was.2);
  out = r.out;
  held = r.held;
  known = r.known;
  turn_sees = r.turn_sees;
  one_sees = r.one_sees;
  heard = r.heard;
  heard_out = r.heard_out;
}

module _ {V : Type 0} (stands : Told → List Done → List Done → ℕ → V → Type 0) (spans : V → List ℕ) (counted : V → ℕ) (told : Told)
    (frame : (lost h : List Done) (e : Done) (u : ℕ) (x : V) → names told e u ≡ false → stands told lost h u x → stands told lost (h ++ e ∷ []) u x)
    (alike : (lost more h : List Done) (u : ℕ) (x : V) → u ≢ turn_unit told.pages → stands told lost h u x → stands told more h u x) where
  abbrev S : Type 0
  S = State (Option V) View

  abbrev Rule : S → Type 0
  Rule = Ruled stands spans counted told

  abbrev turn : ℕ
  turn = turn_unit told.pages

  good_alike : (lost more h : List Done) (u : ℕ) (x : Option V) → u ≢ turn → Good stands told lost h u x → Good stands told more h u x
  good_alike lost more h u None o good = good
  good_alike lost more h u (Some x) o good = alike lost more h u x o good

  module _ (s : S) (r : Rule s) (id : ℕ) (v : View) (l : Lives s.views id v) where
    -- what the view has cleared is cleared
    pub cleared_is : (p : ℕ) → IsClearedIn told.pages v.log p → (p < told.pages) × Cleared r.machine v.row p
    cleared_is p is =
        let know = knows_row stands spans counted told s r id v l in
        let mine : r.machine.mark p ≡ v.row + 1 = equal_by (r.machine.mark p) (v.row + 1) (sym (know.marks p) ∙ is.0) in
        ((r.rows.marked p (λ z. omega (arith, z, mine))).0, (mine, λ n low. sym (know.reads p n mine) ∙ is.1 n low))

    some_space : (n p : ℕ) → n ≤ 32 → in_some_space told v n p ≡ true → r.used p ≡ true
    some_space zero p low is = absurd (cc)
    some_space (suc n) p low is = split (holds_of v.holds (space_unit told.pages n)) (spans_of v.spans (space_unit told.pages n) p) (in_some_space told v n p)
        (λ a b. let sp : r.space p ≡ n + 1 = in_space stands spans counted told s r id v l n p (omega (arith, low), a, b) in (r.paged.volatile p (λ z. omega (arith, z, sp))).2)
        (some_space n p (omega (arith, low))) is
      where
        split : (a b c : Bool) → (a ≡ true → b ≡ true → r.used p ≡ true) → (c ≡ true → r.used p ≡ true) → ((a && b) || c) ≡ true → r.used p ≡ true
        split true true c one two e = one refl refl
        split true false c one two e = two e
        split false b c one two e = two e

    -- what the view knows to be used is
    pub used_is : (p : ℕ) → knows_used told v p ≡ true → r.used p ≡ true
    unfolding knows_used
    used_is p is = three (is_steady told v p) (in_some_space told v 32 p) (some_has (names_page told) v.seen p)
        (λ a. (steady_is stands spans counted told frame s r id v l p a).0)
        (some_space 32 p (omega arith))
        (λ a. let know = r.units.known v.row (here_lives stands spans counted told s r id v l) in
        r.paged.named p (ap (λ (h : List Done). some_has (names_page told) h p) know.is
        ∙ has_left (names_page told) (r.crew v.row).seen know.after p (ap (λ (x : View). some_has (names_page told) x.seen p) (here_is stands spans counted told s r id v l) ∙ a)))
        is
      where
        three : (a b c : Bool) → (a ≡ true → r.used p ≡ true) → (b ≡ true → r.used p ≡ true) → (c ≡ true → r.used p ≡ true) → (a || (b || c)) ≡ true → r.used p ≡ true
        three true b c x y z e = x refl
        three false true c x y z e = y refl
        three false false c x y z e = z e

    -- the pages that commits of this view write are those that it holds
    persists : (p : ℕ) (more : List Done) → ((u : ℕ) → holds_of v.holds u ≡ false → NoneNames told more u)
        → ((q : ℕ) → some_has (names_page told) more q ≡ true → knows_used told v q ≡ true)
        → some_has writes more p ≡ true → (r.used p ≡ true) × (r.space p ≡ 0)
    persists p more held uses is =
        let low = (r.paged.low p (used_is p (uses p (written_named told p more is)))).0 in
        let mine : r.holder p ≡ v.row + 1 = holds_unit stands spans counted told s r id v l p
        (⊎_elim (λ y. y) (λ n. absurd (some_none (some_has (names told) more p) (written_names told p more is) (held p n))) (yes_or_no (holds_of v.holds p))) in
        held_page None (spans_in spans) told.pages told.frontier (names_page told) keeps_in (r.counter 0) r.used r.machine.mark r.space r.holder r.history s.homes (λ k. page_view (r.crew k)) r.paged p low (λ z. omega (arith, z, mine))

    pub gives_turn : (x : Option V) (more failed : List Done) → holds_of v.holds turn ≡ true
        → Good stands told (v.lost ++ failed) (v.seen ++ more) turn x → v.faults ≤ counted_in counted x → MayJoin told v more failed
        → Rule record { words = list.set s.words (unit_at turn) 0; homes = list.set s.homes turn (some x); views = list.set s.views id (turned turn v more failed (counted_in counted x)) }
    gives_turn x more failed holds good heard may =
        let w : View = turned turn v more failed (counted_in counted x) in
        let here = here_is stands spans counted told s r id v l in
        let lives = here_lives stands spans counted told s r id v l in
        let seated = r.seated in
        let live : w.live ≡ true = l.1 in
        let mine : r.holder turn ≡ v.row + 1 = holds_unit stands spans counted told s r id v l turn holds in
        let taken : r.holder turn ≢ 0 = λ z. omega (arith, z, mine) in
        let all : r.history ≡ v.seen = r.units.turn_sees v.row mine ∙ ap (λ (y : View). y.seen) here in
        let lost_is : r.lost ≡ v.lost = sym (r.failed.turn_knows v.row mine) ∙ ap (λ (y : View). y.lost) here in
        let lost' : List Done = r.lost ++ failed in
        let lost_now : lost' ≡ v.lost ++ failed = ap (λ (h : List Done). h ++ failed) lost_is in
        let own : AllBy v.row more = own_front v.row more failed may.own in
        let sp : r.space turn ≡ 0 = dite (ℕ_discrete (r.space turn) 0) (λ e. e) (λ o. absurd (taken (r.paged.volatile turn o).1)) in
        let mk : r.machine.mark turn ≡ 0 = not_marked None (spans_in spans) told.pages told.frontier (names_page told) keeps_in (r.counter 0) r.used r.machine.mark r.space r.holder r.history s.homes (λ k. page_view (r.crew k)) r.paged turn sp in
        let e = encode_unit told.pages r.machine.word r.holder r.machine.mark r.space r.counter s.words r.words turn 0 0 0 (omega arith) in
        let holder' : ℕ → ℕ = put r.holder turn 0 in
        let drawn : (n : ℕ) → some_has makes more n ≡ true → is_in n (r.crew v.row).names ≡ true = λ n is. ap (λ (y : View). is_in n y.names) here ∙ may.drawn n is in
        record {
          crew = put r.crew v.row w;
          seated = seated_now s.views r.crew seated id v w l live refl;
          machine = r.machine;
          holder = holder';
          space = r.space;
          used = r.used;
          counter = r.counter;
          history = r.history ++ more;
          lost = lost';
          words = subst (λ (z : (ℕ → ℕ) × (ℕ → ℕ)). Encodes told.pages r.machine.word holder' z.0 z.1 r.counter (list.set s.words (unit_at turn) 0))
              (λ i. (put_same r.machine.mark turn 0 (sym mk) i, put_same r.space turn 0 (sym sp) i)) e;
          rows = unchanged s.views r.crew seated id v w l live refl row_view (RowsRule told.pages (moves_of (r.history ++ more)) r.machine) refl
              (subst (λ (d : List Event). RowsRule told.pages d r.machine (λ k. row_view (r.crew k))) (sym (moves-append r.history more))
              (commits_part told.pages r.machine (λ k. row_view (r.crew k)) (moves_of r.history) r.rows v.row (row_low stands spans counted told s r id v l) more own (λ p is. cleared_is p (may.cleared p is))));
          units = at_view s.views r.crew seated id v w l live refl unit_view (UnitsRule (Good stands told lost') (counted_in counted) turn (names told) holder' (r.history ++ more) (list.set s.homes turn (some x)))
              (unit_with (Gave turn ∷ (r.crew v.row).holds) ((r.crew v.row).seen ++ more) (counted_in counted x))
              (λ i. record { live = sym live i; holds = Gave turn ∷ (here i).holds; seen = (here i).seen ++ more; faults = counted_in counted x })
              (gives_part (Good stands told lost') (counted_in counted) turn (names told) (good_frame stands spans counted told frame lost') r.holder r.history s.homes (λ k. unit_view (r.crew k))
              (regood (Good stands told r.lost) (Good stands told lost') (counted_in counted) turn (names told) r.holder r.history s.homes (λ k. unit_view (r.crew k)) taken (λ h u y o g. good_alike r.lost lost' h u y o g) r.units)
              v.row lives turn (counted_in counted x) x more mine
              (subst (λ (z : List Done × List Done). Good stands told z.0 (z.1 ++ more) turn x) (λ i. (sym lost_now i, (sym here i).seen)) good)
              (λ u other. may.held u (not_held u other))
              (λ o. absurd (o refl))
              (λ _. (refl, subst (λ (y : View). y.faults ≤ counted_in counted x) (sym here) heard)));
          paged = at_view s.views r.crew seated id v w l live refl page_view (PagesRule None (spans_in spans) told.pages told.frontier (names_page told) keeps_in (r.counter 0) r.used r.machine.mark r.space holder' (r.history ++ more) (list.set s.homes turn (some x)))
              (page_with (Gave turn ∷ (r.crew v.row).holds) (r.crew v.row).spans (r.crew v.row).steady (r.crew v.row).pages)
              (λ i. record { live = sym live i; holds = Gave turn ∷ (here i).holds; spans = (here i).spans; steady = (here i).steady; pages = (here i).pages })
              (pages_give None (spans_in spans) told.pages told.frontier (names_page told) keeps_in (r.counter 0) r.used r.machine.mark r.space r.holder r.history s.homes (λ k. page_view (r.crew k)) r.paged v.row lives
              turn x more mine (omega (arith, r.units.deep))
              (λ j below at p. absurd (omega (arith, at, below)))
              (λ p is at. let a = (r.paged.volatile p (r.paged.marks p is).0).0 in let b = (r.paged.marks p is).0 in omega (arith, at, a, b))
              (λ p is. used_is p (may.used p is))
              (λ p is. persists p more may.held may.used is)
              (λ j p is. in_space stands spans counted told s r id v l j p (may.kept j p is)));
          draws = unchanged s.views r.crew seated id v w l live refl draw_view (DrawsRule (limit told) (first told) r.counter) refl r.draws;
          named = at_view s.views r.crew seated id v w l live refl name_view (NamesRule makes told.next_name (r.counter 1) (r.history ++ more))
              (name_with (spare (some_has makes more) (r.crew v.row).names)) (λ i. record { live = sym live i; names = spare (some_has makes more) (here i).names })
              (names_join makes told.next_name (r.counter 1) r.history (λ k. name_view (r.crew k)) r.named v.row lives more drawn);
          counts = at_view s.views r.crew seated id v w l live refl count_view (CountsRule (min (r.counter 2) 32) (r.history ++ more))
              (count_with (r.crew v.row).rows ((r.crew v.row).mine ++ more) (r.crew v.row).kept) (λ i. record { live = sym live i; rows = (here i).rows; mine = (here i).mine ++ more; kept = (here i).kept })
              (counts_join (min (r.counter 2) 32) r.history (λ k. count_view (r.crew k)) r.counts v.row lives more own);
          failed = subst (λ (h : ℕ). LostRule h lost' (λ k. lost_view (put r.crew v.row w k))) (sym (put_here r.holder turn 0))
              (at_view s.views r.crew seated id v w l live refl lost_view (LostRule 0 lost')
              (lost_with ((r.crew v.row).failed ++ failed) ((r.crew v.row).lost ++ failed)) (λ i. record { live = sym live i; failed = (here i).failed ++ failed; lost = (here i).lost ++ failed })
              (lost_give (r.holder turn) r.lost (λ k. lost_view (r.crew k)) r.failed v.row lives failed ((r.crew v.row).lost ++ failed) (⊎_elim (λ e. inl (lost_is ∙ e)) inr may.single.1)));
          lasts = unchanged s.views r.crew seated id v w l live refl last_view LastRule refl r.lasts;
          lawful = (
            subst (λ (h : List Done). Lawful told (h ++ more)) (sym all) may.lawful,
            subst (λ (z : List Done × List Done). Lawful told ((z.0 ++ more) ++ z.1)) (λ i. (sym all i, sym lost_now i)) may.lawful_lost,
          );
          bounds = r.bounds;
        }
      where
        not_held : (u : ℕ) → r.holder u ≢ v.row + 1 → holds_of v.holds u ≡ false
        not_held u other = ⊎_elim (λ y. absurd (other (holds_unit stands spans counted told s r id v l u y))) (λ n. n) (yes_or_no (holds_of v.holds u))
