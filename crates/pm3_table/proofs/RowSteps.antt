-- Steps on row words and on marks keep the whole rule.
use Rattle.std.proofs.Common.{◌≡◌, ◌≢◌, ◌⊎◌, ℕ, ◌+◌, ◌-◌, ◌<◌, ◌==◌, Bool, true, false, if◌then◌else◌, List, ◌∷◌, get_or, min, Option, None, refl, sym, ap, ◌∙◌, subst, inl, inr, arith}
use Rattle.std.proofs.Math.ListN.{set}
use Rattle.std.proofs.lemmas.Bool.Decides.{nat_tests}
use mathlib.Core.Logic.{dite}
use native.Mathlib.Decide.{ℕ_discrete}
use Rattle.atomic_table.specs.Table.{State}
use Rattle.pm3_core.specs.declared.events.TheConstants.{ROWS, ROW_PLACES, PLACES}
use Rattle.pm3_core.specs.declared.events.Event.TheVariants.{Store, Validate, Mark, Read, Unmark}
use Rattle.pm3_core.specs.Naming.{Names}
use Rattle.pm3_core.specs.Machine.{Machine, put, spot, stored, marked, read_off, names_unmarked, admits, effect}
use Rattle.pm3_core.proofs.Names.{unmarked_is, unmarked_not}
use Rattle.pm3_history.specs.Entry.{Done}
use Rattle.pm3_table.specs.declared.view.Deed.{Deed}
use Rattle.pm3_table.specs.declared.view.Deed.TheVariants.{Stored, Stood, Marked, Found, Unmarked}
use Rattle.pm3_table.specs.declared.view.Told.{Told}
use Rattle.pm3_table.specs.declared.view.View.{View}
use Rattle.pm3_table.specs.declared.view.Refusal.{Refusal}
use Rattle.pm3_table.specs.Crew.{Lives, Seated}
use Rattle.pm3_table.specs.Deeds.{word_of, marks_of}
use Rattle.pm3_table.specs.Entries.{makes, keeps_in}
use Rattle.pm3_table.specs.Holds.{holds_of, spans_of}
use Rattle.pm3_table.specs.Ops.{did, refused}
use Rattle.pm3_table.specs.Telling.{limit, first, names, names_page, Good, spans_in, counted_in, mark_by, HasInSpace}
use Rattle.pm3_table.specs.Words.{Encodes, unit_at, unit_word, mark_in, space_in, turn_unit, space_unit}
use Rattle.pm3_table.specs.Rows.{RowView, RowsRule, KnowsRow, row_with, moves_of}
use Rattle.pm3_table.specs.Pages.{PagesRule}
use Rattle.pm3_table.specs.Units.{UnitsRule}
use Rattle.pm3_table.specs.Draws.{DrawsRule}
use Rattle.pm3_table.specs.Names.{NamesRule}
use Rattle.pm3_table.specs.Counts.{CountsRule}
use Rattle.pm3_table.specs.Lost.{LostRule}
use Rattle.pm3_table.specs.Lasts.{LastRule}
use Rattle.pm3_table.specs.Rule.{Ruled, row_view, unit_view, page_view, draw_view, name_view, count_view, lost_view, last_view}
use Rattle.pm3_table.proofs.Put.{put_at, put_else, put_cases, put_same}
use Rattle.pm3_table.proofs.Advances.{seated_now, unchanged, altered}
use Rattle.pm3_table.proofs.Encoded.{encode_same, encode_row, encode_unit, mark_read, space_read}
use Rattle.pm3_table.proofs.RowsKept.{event_keeps, store_frame, store_knows, stood, stand_frame, stand_knows, same_frame, read_frame, read_knows, mark_frame, mark_knows, unmark_knows}
use Rattle.pm3_table.proofs.PagesKept.{marks_part}

may_mark : (pages k p : ℕ) (m : Machine) → k < 32 → p < pages → m.mark p ≡ 0 → admits pages m (Mark k p) ≡ true
may_mark pages k p m a b c = grind (arith, nat_tests, a, b, c)

may_validate : (pages k place : ℕ) (m : Machine) → k < 32 → place < ROW_PLACES → admits pages m (Validate k place) ≡ true
may_validate pages k place m a b = grind (arith, nat_tests, a, b)

pub may_unmark : (pages k p : ℕ) (m : Machine) → k < 32 → p < pages → m.mark p ≡ k + 1 → admits pages m (Unmark k p) ≡ true
may_unmark pages k p m a b c = grind (arith, nat_tests, a, b, c)

pub equal_by : (a b : ℕ) → (a == b) ≡ true → a ≡ b
equal_by a b e = grind (arith, nat_tests, e)

pub equal_test : (a b : ℕ) → a ≡ b → (a == b) ≡ true
equal_test a b e = grind (arith, nat_tests, e)

mark_is : (m k : ℕ) (b : Bool) → b ≡ (m == k + 1) → (m ≢ 0 → m ≡ k + 1) → m ≡ (if b then k + 1 else 0)
mark_is m k true is one = equal_by m (k + 1) (sym is)
mark_is m k false is one = dite (ℕ_discrete m 0) (λ e. e) (λ o. absurd (let yes_it_is : (m == k + 1) ≡ true = equal_test m (k + 1) (one o) in cc))

-- a part of the rule after a step of the seat, whose view there is now x
pub at_view : (views : List View) (crew : ℕ → View) (seated : Seated views crew) (id : ℕ) (v w : View) → Lives views id v → w.live ≡ true → w.row ≡ v.row
    → {A : Type 0} (f : View → A) (P : (ℕ → A) → Type 0) (x : A) → x ≡ f w → P (put (λ j. f (crew j)) v.row x) → P (λ j. f (put crew v.row w j))
at_view views crew seated id v w l alive row {A} f P x is p =
    altered views crew seated id v w l alive row f P (subst (λ (y : A). P (put (λ j. f (crew j)) v.row y)) is p)

module _ {V : Type 0} (stands : Told → List Done → List Done → ℕ → V → Type 0) (spans : V → List ℕ) (counted : V → ℕ) (told : Told) where
  abbrev S : Type 0
  S = State (Option V) View

  abbrev Rule : S → Type 0
  Rule = Ruled stands spans counted told

  module _ (s : S) (r : Rule s) (id : ℕ) (v : View) (l : Lives s.views id v) where
    pub here_is : r.crew v.row ≡ v
    here_is = r.seated.knows id v l

    pub here_lives : (r.crew v.row).live ≡ true
    here_lives = ap (λ (x : View). x.live) here_is ∙ l.1

    pub row_low : v.row < 32
    row_low = r.seated.below v.row here_lives

    pub knows_row : KnowsRow told.pages r.machine v.row v.log
    knows_row = subst (λ (x : View). KnowsRow told.pages r.machine v.row x.log) here_is (r.rows.known v.row here_lives)

    -- a step that changes the log, the refusals, a row word or a mark
    pub row_step : (m' : Machine) (words' : List ℕ) (ds : List Deed) (rs : List Refusal)
        → RowsRule told.pages (moves_of r.history) m' (put (λ k. row_view (r.crew k)) v.row (row_with ds))
        → Encodes told.pages m'.word r.holder m'.mark r.space r.counter words'
        → PagesRule None (spans_in spans) told.pages told.frontier (names_page told) keeps_in (r.counter 0) r.used m'.mark r.space r.holder r.history s.homes (λ k. page_view (r.crew k))
        → Rule record { words = words'; homes = s.homes; views = set s.views id (record v { log = ds; refusals = rs }) }
    row_step m' words' ds rs rows words paged =
        let w : View = record v { log = ds; refusals = rs } in
        let live : w.live ≡ true = l.1 in
        record {
          crew = put r.crew v.row w;
          seated = seated_now s.views r.crew r.seated id v w l live refl;
          machine = m';
          holder = r.holder;
          space = r.space;
          used = r.used;
          counter = r.counter;
          history = r.history;
          lost = r.lost;
          words = words;
          rows = at_view s.views r.crew r.seated id v w l live refl row_view (RowsRule told.pages (moves_of r.history) m') (row_with ds) (λ i. record { live = sym live i; log = ds }) rows;
          units = unchanged s.views r.crew r.seated id v w l live refl unit_view (UnitsRule (Good stands told r.lost) (counted_in counted) (turn_unit told.pages) (names told) r.holder r.history s.homes) refl r.units;
          paged = unchanged s.views r.crew r.seated id v w l live refl page_view (PagesRule None (spans_in spans) told.pages told.frontier (names_page told) keeps_in (r.counter 0) r.used m'.mark r.space r.holder r.history s.homes) refl paged;
          draws = unchanged s.views r.crew r.seated id v w l live refl draw_view (DrawsRule (limit told) (first told) r.counter) refl r.draws;
          named = unchanged s.views r.crew r.seated id v w l live refl name_view (NamesRule makes told.next_name (r.counter 1) r.history) refl r.named;
          counts = unchanged s.views r.crew r.seated id v w l live refl count_view (CountsRule (min (r.counter 2) 32) r.history) refl r.counts;
          failed = unchanged s.views r.crew r.seated id v w l live refl lost_view (LostRule (r.holder (turn_unit told.pages)) r.lost) refl r.failed;
          lasts = unchanged s.views r.crew r.seated id v w l live refl last_view LastRule refl r.lasts;
          lawful = r.lawful;
          bounds = r.bounds;
        }

    -- a store to a place of the own row
    pub stores : (place n : ℕ) → place < ROW_PLACES
        → Rule record { words = set s.words (spot v.row place) n; homes = s.homes; views = set s.views id (did v (Stored place n)) }
    stores place n low =
        let at : spot v.row place < PLACES = omega (arith, low, row_low) in
        let may : admits told.pages r.machine (Store v.row place n) ≡ true = grind (arith, nat_tests, low, row_low) in
        row_step (stored r.machine (spot v.row place) n) (set s.words (spot v.row place) n) (Stored place n ∷ v.log) v.refusals
        (event_keeps told.pages r.machine (λ k. row_view (r.crew k)) (moves_of r.history) r.rows v.row (Store v.row place n) (stored r.machine (spot v.row place) n) (Stored place n ∷ v.log)
        refl here_lives (may, tt) refl (store_frame r.machine v.row place n low) (λ p is. inl refl) (store_knows told.pages r.machine v.row place n v.log knows_row))
        (encode_row told.pages r.machine.word r.holder r.machine.mark r.space r.counter s.words r.words (spot v.row place) n at)
        r.paged

    -- a load of a row word
    pub reads : (row place : ℕ) → row < ROWS → place < ROW_PLACES
        → Rule record { words = set s.words (spot row place) (get_or s.words (spot row place) 0); homes = s.homes; views = set s.views id (did v (Found row place (get_or s.words (spot row place) 0))) }
    reads row place below low =
        let at : spot row place < PLACES = omega (arith, low, below) in
        let n : ℕ = get_or s.words (spot row place) 0 in
        let may : admits told.pages r.machine (Read v.row row place) ≡ true = grind (arith, nat_tests, below, low, row_low) in
        let m' : Machine = read_off told.pages r.machine v.row (spot row place) in
        row_step m' (set s.words (spot row place) n) (Found row place n ∷ v.log) v.refusals
        (event_keeps told.pages r.machine (λ k. row_view (r.crew k)) (moves_of r.history) r.rows v.row (Read v.row row place) m' (Found row place n ∷ v.log)
        refl here_lives (may, tt) refl (read_frame told.pages r.machine v.row (spot row place)) (λ p is. inl refl) (read_knows told.pages r.machine v.row row place n v.log (r.words.rows (spot row place) at) knows_row))
        (encode_same told.pages r.machine.word r.holder r.machine.mark r.space r.counter s.words r.words (spot row place))
        r.paged

    -- what a view knows of its own words
    pub own_word : (place : ℕ) → place < ROW_PLACES → get_or s.words (spot v.row place) 0 ≡ word_of v.log place
    own_word place low = r.words.rows (spot v.row place) (omega (arith, low, row_low)) ∙ sym (knows_row.word place low)

    -- the parts of a page's word are small
    pub lock_small : (u : ℕ) → r.holder u < 33
    lock_small u = dite (ℕ_discrete (r.holder u) 0) (λ e. omega (arith, e))
        (λ o. let h = (r.units.held u o).1 in let b = r.seated.below h.0 h.2 in omega (arith, h.1, b))

    pub mark_small : (p : ℕ) → r.machine.mark p < 33
    mark_small p = dite (ℕ_discrete (r.machine.mark p) 0) (λ e. omega (arith, e))
        (λ o. let h = (r.rows.marked p o).1 in let b = r.seated.below h.0 h.2 in omega (arith, h.1, b))

    pub space_small : (p : ℕ) → r.space p < 33
    space_small p = dite (ℕ_discrete (r.space p) 0) (λ e. omega (arith, e)) (λ o. let b = (r.paged.volatile p o).0 in omega (arith, b))

    pub mark_found : (p : ℕ) → p < told.pages → mark_in (get_or s.words (unit_at p) 0) ≡ r.machine.mark p
    mark_found p low = ap mark_in (r.words.units p (omega (arith, low))) ∙ mark_read (r.holder p) (r.machine.mark p) (r.space p) (omega (arith, lock_small p)) (omega (arith, mark_small p))

    pub space_found : (p : ℕ) → p < told.pages → space_in (get_or s.words (unit_at p) 0) ≡ r.space p
    space_found p low = ap space_in (r.words.units p (omega (arith, low))) ∙ space_read (r.holder p) (r.machine.mark p) (r.space p) (omega (arith, lock_small p)) (omega (arith, mark_small p)) (omega (arith, space_small p))

    -- a load of the word of the page that a place names, found without a mark
    pub validates : (place p : ℕ) → place < ROW_PLACES → Names told.pages (word_of v.log place) p → mark_in (get_or s.words (unit_at p) 0) ≡ 0
        → Rule record { words = set s.words (unit_at p) (get_or s.words (unit_at p) 0); homes = s.homes; views = set s.views id (did v (Stood place)) }
    validates place p low named bare =
        let free : r.machine.mark p ≡ 0 = sym (mark_found p named.0) ∙ bare in
        let word : word_of v.log place ≡ r.machine.word (spot v.row place) = knows_row.word place low in
        let test : names_unmarked told.pages r.machine.mark (r.machine.word (spot v.row place)) ≡ true = unmarked_is told.pages (r.machine.word (spot v.row place)) p r.machine.mark (subst (λ x. Names told.pages x p) word named) free in
        let m' : Machine = stood r.machine (spot v.row place) in
        let may : admits told.pages r.machine (Validate v.row place) ≡ true = may_validate told.pages v.row place r.machine row_low low in
        let does : effect told.pages r.machine (Validate v.row place) ≡ m' = ap (λ b. record r.machine { stands = if b then put r.machine.stands (spot v.row place) true else r.machine.stands }) test in
        row_step m' (set s.words (unit_at p) (get_or s.words (unit_at p) 0)) (Stood place ∷ v.log) v.refusals
        (event_keeps told.pages r.machine (λ k. row_view (r.crew k)) (moves_of r.history) r.rows v.row (Validate v.row place) m' (Stood place ∷ v.log)
        refl here_lives (may, tt) does (stand_frame r.machine v.row place low) (λ q is. inl refl) (stand_knows told.pages r.machine v.row place v.log knows_row))
        (encode_same told.pages r.machine.word r.holder r.machine.mark r.space r.counter s.words r.words (unit_at p))
        r.paged

    -- the same, found with a mark
    pub refuses : (place p : ℕ) → place < ROW_PLACES → Names told.pages (word_of v.log place) p → mark_in (get_or s.words (unit_at p) 0) ≢ 0
        → Rule record { words = set s.words (unit_at p) (get_or s.words (unit_at p) 0); homes = s.homes; views = set s.views id (refused v p (get_or s.words (unit_at p) 0)) }
    refuses place p low named taken =
        let busy : r.machine.mark p ≢ 0 = λ e. taken (mark_found p named.0 ∙ e) in
        let word : word_of v.log place ≡ r.machine.word (spot v.row place) = knows_row.word place low in
        let test : names_unmarked told.pages r.machine.mark (r.machine.word (spot v.row place)) ≡ false = unmarked_not told.pages (r.machine.word (spot v.row place)) p r.machine.mark (subst (λ x. Names told.pages x p) word named) busy in
        let may : admits told.pages r.machine (Validate v.row place) ≡ true = may_validate told.pages v.row place r.machine row_low low in
        let does : effect told.pages r.machine (Validate v.row place) ≡ r.machine = ap (λ b. record r.machine { stands = if b then put r.machine.stands (spot v.row place) true else r.machine.stands }) test in
        row_step r.machine (set s.words (unit_at p) (get_or s.words (unit_at p) 0)) v.log (record { unit = p; word = get_or s.words (unit_at p) 0 } ∷ v.refusals)
        (event_keeps told.pages r.machine (λ k. row_view (r.crew k)) (moves_of r.history) r.rows v.row (Validate v.row place) r.machine v.log
        refl here_lives (may, tt) does (same_frame r.machine v.row) (λ q is. inl refl) knows_row)
        (encode_same told.pages r.machine.word r.holder r.machine.mark r.space r.counter s.words r.words (unit_at p))
        r.paged

    -- the space of a page that the view has in a space that it holds
    pub in_space : (j p : ℕ) → HasInSpace told v j p → r.space p ≡ j + 1
    in_space j p has =
        let holds : holds_of (r.crew v.row).holds (space_unit told.pages j) ≡ true = ap (λ (x : View). holds_of x.holds (space_unit told.pages j)) here_is ∙ has.1 in
        let spread : spans_of (r.crew v.row).spans (space_unit told.pages j) p ≡ true = ap (λ (x : View). spans_of x.spans (space_unit told.pages j) p) here_is ∙ has.2 in
        let same : spans_of (r.crew v.row).spans (space_unit told.pages j) p ≡ (r.space p == j + 1) = r.paged.held v.row here_lives j has.0 holds p in
        equal_by (r.space p) (j + 1) (sym same ∙ spread)

    pub holds_unit : (u : ℕ) → holds_of v.holds u ≡ true → r.holder u ≡ v.row + 1
    holds_unit u holds =
        let same : holds_of (r.crew v.row).holds u ≡ (r.holder u == v.row + 1) = (r.units.known v.row here_lives).holds u in
        let mine : holds_of (r.crew v.row).holds u ≡ true = ap (λ (x : View). holds_of x.holds u) here_is ∙ holds in
        equal_by (r.holder u) (v.row + 1) (sym same ∙ mine)

    pub holds_not : (u : ℕ) → holds_of v.holds u ≡ false → r.holder u ≢ v.row + 1
    holds_not u holds is =
        let same : holds_of (r.crew v.row).holds u ≡ (r.holder u == v.row + 1) = (r.units.known v.row here_lives).holds u in
        let mine : holds_of (r.crew v.row).holds u ≡ false = ap (λ (x : View). holds_of x.holds u) here_is ∙ holds in
        let yes_it_is : (r.holder u == v.row + 1) ≡ true = equal_test (r.holder u) (v.row + 1) is in cc

    -- the word of a page of a space that the view holds
    pub own_page : (j p : ℕ) → HasInSpace told v j p → get_or s.words (unit_at p) 0 ≡ unit_word 0 (mark_by v p) (j + 1)
    own_page j p has =
        let space : r.space p ≡ j + 1 = in_space j p has in
        let vol = r.paged.volatile p (λ e. omega (arith, e, space)) in
        let low : p < told.pages = (r.paged.low p vol.2).0 in
        let owner : r.holder (space_unit told.pages (r.space p - 1)) ≡ v.row + 1 =
        ap (λ (n : ℕ). r.holder (space_unit told.pages n)) (let e : r.space p - 1 ≡ j = omega (arith, space) in e) ∙ holds_unit (space_unit told.pages j) has.1 in
        let mark : r.machine.mark p ≡ mark_by v p = mark_is (r.machine.mark p) v.row (marks_of v.log p) (knows_row.marks p) (λ o. sym (r.paged.marks p o).1 ∙ owner) in
        r.words.units p (omega (arith, low)) ∙ (λ i. unit_word (vol.1 i) (mark i) (space i))

    -- the word of a page without a space is its holder
    pub alone_page : (p : ℕ) → p < told.pages → r.space p ≡ 0 → holds_of v.holds p ≡ (get_or s.words (unit_at p) 0 == v.row + 1)
    alone_page p low space =
        let mark : r.machine.mark p ≡ 0 = dite (ℕ_discrete (r.machine.mark p) 0) (λ e. e) (λ o. absurd ((r.paged.marks p o).0 space)) in
        let word : get_or s.words (unit_at p) 0 ≡ r.holder p = r.words.units p (omega (arith, low)) ∙ omega (arith, mark, space) in
        let same : holds_of (r.crew v.row).holds p ≡ (r.holder p == v.row + 1) = (r.units.known v.row here_lives).holds p in
        ap (λ (x : View). holds_of x.holds p) (sym here_is) ∙ (same ∙ ap (λ (n : ℕ). n == v.row + 1) (sym word))

    -- a mark of a page of a space that the view holds
    pub marks : (j p : ℕ) → HasInSpace told v j p → marks_of v.log p ≡ false
        → Rule record { words = set s.words (unit_at p) (unit_word 0 (v.row + 1) (j + 1)); homes = s.homes; views = set s.views id (did v (Marked p)) }
    marks j p has bare =
        let space : r.space p ≡ j + 1 = in_space j p has in
        let vol = r.paged.volatile p (λ e. omega (arith, e, space)) in
        let low : p < told.pages = (r.paged.low p vol.2).0 in
        let owner : r.holder (space_unit told.pages j) ≡ v.row + 1 = holds_unit (space_unit told.pages j) has.1 in
        let owner_is : r.holder (space_unit told.pages (r.space p - 1)) ≡ v.row + 1 = ap (λ (n : ℕ). r.holder (space_unit told.pages n)) (let e : r.space p - 1 ≡ j = omega (arith, space) in e) ∙ owner in
        let free : r.machine.mark p ≡ 0 = dite (ℕ_discrete (r.machine.mark p) 0) (λ e. e)
        (λ o. let mine : r.machine.mark p ≡ v.row + 1 = sym (r.paged.marks p o).1 ∙ owner_is in let k = knows_row.marks p in absurd (let a : (r.machine.mark p == v.row + 1) ≡ true = equal_test (r.machine.mark p) (v.row + 1) mine in cc)) in
        let m' : Machine = marked r.machine p (v.row + 1) in
        let may : admits told.pages r.machine (Mark v.row p) ≡ true = may_mark told.pages v.row p r.machine row_low low free in
        let e = encode_unit told.pages r.machine.word r.holder r.machine.mark r.space r.counter s.words r.words p 0 (v.row + 1) (j + 1) (omega (arith, low)) in
        row_step m' (set s.words (unit_at p) (unit_word 0 (v.row + 1) (j + 1))) (Marked p ∷ v.log) v.refusals
        (event_keeps told.pages r.machine (λ k. row_view (r.crew k)) (moves_of r.history) r.rows v.row (Mark v.row p) m' (Marked p ∷ v.log)
        refl here_lives (may, tt) refl (mark_frame r.machine v.row p (v.row + 1) (inl free) (inr refl))
        (λ q is. put_cases (λ x. (r.machine.mark q ≡ x) ⊎ ((q < told.pages) × (x ≡ v.row + 1))) r.machine.mark p (v.row + 1) q (λ here. inr (subst (λ n. n < told.pages) (sym here) low, refl)) (λ _. inl refl))
        (mark_knows told.pages r.machine v.row p v.log knows_row))
        (subst (λ (z : (ℕ → ℕ) × (ℕ → ℕ)). Encodes told.pages r.machine.word z.0 m'.mark z.1 r.counter (set s.words (unit_at p) (unit_word 0 (v.row + 1) (j + 1))))
        (λ i. (put_same r.holder p 0 (sym vol.1) i, put_same r.space p (j + 1) (sym space) i)) e)
        (marks_part None (spans_in spans) told.pages told.frontier (names_page told) keeps_in (r.counter 0) r.used r.machine.mark r.space r.holder r.history s.homes (λ k. page_view (r.crew k)) r.paged p (v.row + 1)
        (λ _. ((λ e. omega (arith, e, space)), owner_is)))

    -- the mark taken off
    pub unmarks : (j p : ℕ) → HasInSpace told v j p → marks_of v.log p ≡ true
        → Rule record { words = set s.words (unit_at p) (unit_word 0 0 (j + 1)); homes = s.homes; views = set s.views id (did v (Unmarked p)) }
    unmarks j p has held =
        let space : r.space p ≡ j + 1 = in_space j p has in
        let vol = r.paged.volatile p (λ e. omega (arith, e, space)) in
        let low : p < told.pages = (r.paged.low p vol.2).0 in
        let mine : r.machine.mark p ≡ v.row + 1 = equal_by (r.machine.mark p) (v.row + 1) (sym (knows_row.marks p) ∙ held) in
        let m' : Machine = marked r.machine p 0 in
        let may : admits told.pages r.machine (Unmark v.row p) ≡ true = may_unmark told.pages v.row p r.machine row_low low mine in
        let e = encode_unit told.pages r.machine.word r.holder r.machine.mark r.space r.counter s.words r.words p 0 0 (j + 1) (omega (arith, low)) in
        row_step m' (set s.words (unit_at p) (unit_word 0 0 (j + 1))) (Unmarked p ∷ v.log) v.refusals
        (event_keeps told.pages r.machine (λ k. row_view (r.crew k)) (moves_of r.history) r.rows v.row (Unmark v.row p) m' (Unmarked p ∷ v.log)
        refl here_lives (may, tt) refl (mark_frame r.machine v.row p 0 (inr mine) (inl refl))
        (λ q is. inl (sym (put_else r.machine.mark p 0 q (λ here. is (put_at r.machine.mark p 0 q here)))))
        (unmark_knows told.pages r.machine v.row p v.log knows_row))
        (subst (λ (z : (ℕ → ℕ) × (ℕ → ℕ)). Encodes told.pages r.machine.word z.0 m'.mark z.1 r.counter (set s.words (unit_at p) (unit_word 0 0 (j + 1))))
        (λ i. (put_same r.holder p 0 (sym vol.1) i, put_same r.space p (j + 1) (sym space) i)) e)
        (marks_part None (spans_in spans) told.pages told.frontier (names_page told) keeps_in (r.counter 0) r.used r.machine.mark r.space r.holder r.history s.homes (λ k. page_view (r.crew k)) r.paged p 0
        (λ o. absurd (o refl)))

    -- a load of a unit's word that is not 0, by one that is refused the unit
    pub refuses_unit : (u i : ℕ) → Rule record { words = set s.words i (get_or s.words i 0); homes = s.homes; views = set s.views id (refused v u (get_or s.words i 0)) }
    refuses_unit u i = row_step r.machine (set s.words i (get_or s.words i 0)) v.log (record { unit = u; word = get_or s.words i 0 } ∷ v.refusals)
        (subst (λ (f : ℕ → RowView). RowsRule told.pages (moves_of r.history) r.machine f)
        (sym (put_same (λ k. row_view (r.crew k)) v.row (row_with v.log) (λ j. record { live = sym here_lives j; log = (sym here_is j).log }))) r.rows)
        (encode_same told.pages r.machine.word r.holder r.machine.mark r.space r.counter s.words r.words i)
        r.paged
