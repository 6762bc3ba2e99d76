-- The homes with which a heap starts.
use Rattle.std.proofs.Common.{◌≡◌, ◌⊎◌, ◌≤◌, ◌<◌, ◌+◌, ◌-◌, ◌==◌, ◌||◌, ℕ, zero, suc, Bool, true, false, replicate, List, [], ◌∷◌, Option, Some, None, is_some, option_map, length, get_or, refl, sym, ap, ◌∙◌, subst, inl, inr, ⊎_elim, arith}
use Rattle.std.proofs.lemmas.Bool.{false≢true}
use Rattle.std.proofs.lemmas.Bool.Decides.{nat_tests}
use Rattle.std.proofs.lemmas.List.{length-replicate}
use Rattle.std.specs.FinMap as map
use Rattle.std.specs.FinMap.{get, contains_key, contains_key-keys}
use Rattle.std.specs.FinSet as set
use Rattle.std.specs.List.{list_any}
use Rattle.std.specs.Ordering.{nat_cmp, eq_by_cmp}
use mathlib.Core.Option.{some}
use mathlib.Core.Logic.{dite}
use native.Mathlib.Decide.{dec_lt}
use lib.ListN.{get_elem?}
use Rattle.atomic_table.specs.Seated.{TableId}
use Rattle.pm3_disk.specs.declared.outside.Disk.{Ghosts}
use Rattle.pm3_types.specs.Layout.{PageImage}
use Rattle.pm3_types.proofs.Books.{key_same}
use Rattle.pm3_page.specs.PageMap.{Images}
use Rattle.pm3_page.specs.PageSheets.{sheet_in, sheets_of}
use Rattle.pm3_page.proofs.SheetsOf.{get-sheets_of}
use Rattle.pm3_journal.specs.Journals.{Keeps}
use Rattle.pm3_journal.specs.Opened.{IsOpenStore}
use Rattle.pm3_journal.specs.declared.opened.Opened.{Opened}
use Rattle.pm3_history.specs.Opens.{LawfulFrom}
use Rattle.pm3_table.specs.declared.view.Told.{Told}
use Rattle.pm3_table.specs.declared.view.View.{View}
use Rattle.pm3_table.specs.Entries.{images_refer, sheet_refers}
use Rattle.pm3_table.specs.FirstHomes as table
use Rattle.pm3_table.specs.FirstHomes.{FirstHomes}
use Rattle.pm3_table.specs.Holds.{is_in}
use Rattle.pm3_table.specs.OpensBelow.{OpensBelow}
use Rattle.pm3_table.specs.Starting.{first_view}
use Rattle.pm3_table.specs.Telling.{Good, spans_in, counted_in}
use Rattle.pm3_table.specs.Words.{space_unit, turn_unit}
use Rattle.pm3_table.proofs.Absorbs.{in_either}
use Rattle.pm3_txn.specs.declared.values.Turn.{Turn as Turns}
use Rattle.pm3_txn.specs.declared.values.Value.{Value}
use Rattle.pm3_txn.specs.declared.values.Value.TheVariants.{Page, Space, Turn}
use Rattle.pm3_txn.specs.Draining.{EndsWithTurn, is_turn}
use Rattle.pm3_txn.specs.Frontiers.{IsTop}
use Rattle.pm3_txn.specs.Heaps.{IsBelow, IsHeap}
use Rattle.pm3_access.specs.FreeList.{Numbers}
use Rattle.pm3_access.specs.Holding.{SpaceState}
use Rattle.pm3_txn.specs.Slots.{faults_in, opening_in, pages_in, pages_of, stands_for, turn_state}
use Rattle.pm3_txn.specs.Starts.{IsFilled, IsStarted, blank_space, first_home, first_mutator, page_home, space_over}
use Rattle.pm3_txn.specs.States.{MutatorState}
use Rattle.pm3_txn.specs.Underway.{Belongs}
use Rattle.pm3_txn.specs.Values.{origin_of}
use Rattle.pm3_txn.proofs.Filling.{chosen_low, chosen_high, filled_at}
use Rattle.pm3_txn.proofs.FirstValues.{first_told, good_page, good_space, good_turn}
use Rattle.pm3_txn.proofs.OpensAt.{names_below, pages_below}

pub elem_at : {A : Type 0} (xs : List A) (u : ℕ) (d : A) → u < length xs → get_elem? xs u ≡ some (get_or xs u d)
elem_at [] u d low = absurd (omega (arith, low))
elem_at (x ∷ xs) zero d low = refl
elem_at (x ∷ xs) (suc u) d low = elem_at xs u d (omega (arith, low))

or_parts : (a b : Bool) → (a || b) ≡ true → (a ≡ true) ⊎ (b ≡ true)
or_parts true b is = inl refl
or_parts false b is = inr is

or_first : (a b : Bool) → a ≡ true → (a || b) ≡ true
or_first a b is = ap (λ x. x || b) is

or_second : (a b : Bool) → b ≡ true → (a || b) ≡ true
or_second true b is = refl
or_second false b is = is

in_keys : (p : ℕ) (ks : List ℕ) → is_in p ks ≡ true → list_any (eq_by_cmp nat_cmp p) ks ≡ true
in_keys p [] is = is
in_keys p (k ∷ ks) is = ⊎_elim
    (λ here. or_first (eq_by_cmp nat_cmp p k) (list_any (eq_by_cmp nat_cmp p) ks) (ap (eq_by_cmp nat_cmp p) (let e : k ≡ p = grind (arith, nat_tests, here) in e) ∙ key_same p))
    (λ there. or_second (eq_by_cmp nat_cmp p k) (list_any (eq_by_cmp nat_cmp p) ks) (in_keys p ks there))
    (or_parts (k == p) (is_in p ks) is)

-- a space without pages has none
no_pages_in : (space : SpaceState) (p : ℕ) → space.images ≡ map.empty → space.free ≡ set.empty → is_in p (pages_of space) ≡ false
no_pages_in space p images free = of (is_in p (pages_of space)) refl
  where
    of : (b : Bool) → is_in p (pages_of space) ≡ b → b ≡ false
    of false is = refl
    of true is = absurd (⊎_elim
        (λ a. false≢true (sym (ap (λ (m : Images). contains_key m p) images ∙ ap (λ (o : Option PageImage). is_some o) (map.get-empty nat_cmp p)) ∙ contains_key-keys space.images p ∙ in_keys p (map.keys space.images) a))
        (λ b. false≢true (sym (ap (λ (f : Numbers). set.contains f p) free ∙ set.contains-empty nat_cmp p) ∙ set.contains-items space.free p ∙ in_keys p (set.items space.free) b))
        (in_either p (map.keys space.images) (set.items space.free) is))

pub some_same : {A : Type 0} (x y : A) → some x ≡ some y → x ≡ y
some_same x y same = cc same

module _ {D R : Type 0} (g : Ghosts D R) (s : Opened D R) (open_is : IsOpenStore g s) (frontier : ℕ)
    (top : IsTop (λ p. images_refer s.catalog (sheets_of s.images.images) p ≡ true) s.marks.high_page frontier)
    (turn : Turns D R) (opened : turn.opened.value ≡ s) (journal : turn.journal ≡ s.journal) (next_name : turn.next_name ≡ s.marks.next_name) (high_page : turn.high_page ≡ s.marks.high_page) (file : turn.file ≡ s.pages)
    (homes : List (Option (Value D R))) (long : length homes ≡ s.marks.pages + 33) (filled : IsFilled homes (first_home s.marks.pages s.images.images turn) (s.marks.pages + 33)) where
  abbrev T : Told
  T = first_told g s open_is frontier top

  page_value : (u : ℕ) → u < s.marks.pages → get_or homes u None ≡ page_home s.images.images u
  page_value u low =
      filled_at homes (first_home s.marks.pages s.images.images turn) (s.marks.pages + 33) u filled (omega (arith, low))
      ∙ chosen_low u (s.marks.pages + 32) (space_over s.marks.pages (page_home s.images.images) u) (Some (Turn turn)) (omega (arith, low))
      ∙ chosen_low u s.marks.pages (page_home s.images.images u) (Some (Space (blank_space (u - s.marks.pages)))) low

  space_value : (j : ℕ) → j < 32 → get_or homes (s.marks.pages + j) None ≡ Some (Space (blank_space j))
  space_value j low =
      let u : ℕ = s.marks.pages + j in
      filled_at homes (first_home s.marks.pages s.images.images turn) (s.marks.pages + 33) u filled (omega (arith, low))
      ∙ chosen_low u (s.marks.pages + 32) (space_over s.marks.pages (page_home s.images.images) u) (Some (Turn turn)) (omega (arith, low))
      ∙ chosen_high u s.marks.pages (page_home s.images.images u) (Some (Space (blank_space (u - s.marks.pages)))) (omega arith)
      ∙ ap (λ (n : ℕ). Some (Space (blank_space n))) (let e : (s.marks.pages + j) - s.marks.pages ≡ j = omega arith in e)

  turn_value : get_or homes (s.marks.pages + 32) None ≡ Some (Turn turn)
  turn_value =
      filled_at homes (first_home s.marks.pages s.images.images turn) (s.marks.pages + 33) (s.marks.pages + 32) filled (omega arith)
      ∙ chosen_high (s.marks.pages + 32) (s.marks.pages + 32) (space_over s.marks.pages (page_home s.images.images) (s.marks.pages + 32)) (Some (Turn turn)) (omega arith)

  good_at : Keeps g s.journal → (u : ℕ) → u < s.marks.pages + 33 → Good (stands_for g) T [] [] u (get_or homes u None)
  good_at keeps u below =
      dite (dec_lt u s.marks.pages)
      (λ low. subst (Good (stands_for g) T [] [] u) (sym (page_value u low)) (good_page g s open_is frontier top u low))
      (λ high. dite (dec_lt u (s.marks.pages + 32))
      (λ low.
      let j : ℕ = u - s.marks.pages in
      let at : s.marks.pages + j ≡ u = omega (arith, high) in
      subst (λ (n : ℕ). Good (stands_for g) T [] [] n (get_or homes n None)) at
      (subst (Good (stands_for g) T [] [] (s.marks.pages + j)) (sym (space_value j (omega (arith, low, high)))) (good_space g s open_is frontier top j (omega (arith, low, high)))))
      (λ past.
      let at : s.marks.pages + 32 ≡ u = omega (arith, below, past) in
      subst (λ (n : ℕ). Good (stands_for g) T [] [] n (get_or homes n None)) at
      (subst (Good (stands_for g) T [] [] (s.marks.pages + 32)) (sym turn_value) (good_turn g s open_is frontier top keeps (turn_state turn) opened journal next_name high_page file))))

  page_no_turn : (u : ℕ) (o : Option PageImage) → get s.images.images u ≡ o → is_turn (page_home {D = D} {R = R} s.images.images u) ≡ false
  page_no_turn u None is = ap (λ (o : Option PageImage). is_turn {D = D} {R = R} (option_map Page o)) is
  page_no_turn u (Some image) is = ap (λ (o : Option PageImage). is_turn {D = D} {R = R} (option_map Page o)) is

  bare_page : (p : ℕ) → frontier ≤ p → page_home {D = D} {R = R} s.images.images p ≡ None
  bare_page p high = of (get s.images.images p) refl
    where
      of : (o : Option PageImage) → get s.images.images p ≡ o → page_home {D = D} {R = R} s.images.images p ≡ None
      of None none = ap (option_map Page) none
      of (Some image) there =
          let has : contains_key (sheets_of s.images.images) p ≡ true = ap is_some (get-sheets_of s.images.images p ∙ ap sheet_in there) in
          let low = top.above p (or_first (contains_key (sheets_of s.images.images) p) (list_any (λ from. sheet_refers s.catalog p from (get (sheets_of s.images.images) from)) (map.keys (sheets_of s.images.images))) has) in
          absurd (omega (arith, low, high))

  pub first_homes : Keeps g s.journal → FirstHomes (stands_for g) pages_in T homes
  first_homes keeps = record {
    wide = long;
    good = λ u low. (get_or homes u None, elem_at homes u None (omega (arith, low, long)), good_at keeps u low);
    bare = λ p high low. elem_at homes p None (omega (arith, low, long)) ∙ ap some (page_value p low ∙ bare_page p high);
    spaces = λ j low x at p.
        let same : x ≡ Some (Space (blank_space j)) = some_same x (Some (Space (blank_space j))) (sym at ∙ elem_at homes (space_unit s.marks.pages j) None (omega (arith, low, long)) ∙ ap some (space_value j low)) in
        ap (λ (o : Option (Value D R)). is_in p (spans_in pages_in o)) same ∙ no_pages_in (blank_space j) p refl refl;
  }

  pub opens_below : Keeps g s.journal → OpensBelow T
  opens_below keeps = record {
    pages = λ p refers. top.above p refers;
    names = λ st opens n r has. names_below g s open_is keeps st opens n r has;
  }

  pub told_here : T ≡ record { pages = s.marks.pages; frontier = frontier; next_name = s.marks.next_name; opening = table.opening_in (opening_in g) (get_or homes (turn_unit s.marks.pages) None) }
  told_here = λ i. record {
    pages = s.marks.pages;
    frontier = frontier;
    next_name = s.marks.next_name;
    opening = (ap (origin_of g) (sym opened) ∙ ap (table.opening_in (opening_in g)) (sym turn_value)) i;
  }

  pub ends_with : EndsWithTurn homes turn
  ends_with =
      let last : length homes - 1 ≡ s.marks.pages + 32 = omega (arith, long) in
      record {
        some = omega (arith, long);
        last = ap (λ (n : ℕ). get_or homes n None) last ∙ turn_value;
        others = λ u low. dite (dec_lt u s.marks.pages)
            (λ below. ap is_turn (page_value u below) ∙ page_no_turn u (get s.images.images u) refl)
            (λ high.
            let j : ℕ = u - s.marks.pages in
            let at : u ≡ s.marks.pages + j = omega (arith, high) in
            ap (λ (n : ℕ). is_turn (get_or homes n None)) at ∙ ap is_turn (space_value j (omega (arith, low, long, high))));
      }

  below : Keeps g s.journal → IsBelow T
  below keeps = record {
    names = λ st opens n r has. names_below g s open_is keeps st opens n r has;
    pages = λ st opens a n has. (let low = pages_below g s open_is keeps st opens a n has in let most = top.most in omega (arith, low, most));
  }

  pub heap_is : Keeps g s.journal → (3 ≤ frontier) × (frontier ≤ s.marks.pages) → (told : Told) → T ≡ told → IsHeap told s.catalog frontier
  heap_is keeps low told same = subst (λ (t : Told). IsHeap t s.catalog frontier) same
      (record { catalog_is = refl; frontier_is = refl; small = (let most = open_is.bounds.pages.1 in omega (arith, most)); first = open_is.bounds.next_name.0; least = low.0; most = low.1; below = below keeps })

  pub started : (told : Told) → T ≡ told → IsStarted g s told
  started told same = subst (λ (t : Told). IsStarted g s t) same (record { pages = refl; next_name = refl; opening = refl; frontier = top })

  pub heard : table.faults_in (faults_in g) (record { pages = s.marks.pages; frontier = frontier; next_name = s.marks.next_name; rows = 1 }) homes ≡ g.faults s.journal.disk
  heard = ap (counted_in (faults_in g)) turn_value ∙ ap (λ (j : _). g.faults j.disk) journal

  pub first_is : (reader : R) (refs wrote : List Bool) (pass : TableId × View) (id : TableId) → pass.0 ≡ id → pass.1 ≡ first_view (g.faults s.journal.disk) → refs ≡ replicate 512 true → wrote ≡ replicate 512 false
      → record { pass = pass; space = 0; reader = reader; refs = refs; wrote = wrote; next_name = 0 } ≡ first_mutator id (g.faults s.journal.disk) reader
  first_is reader refs wrote pass id of view refs_are wrote_are = λ i. record { pass = (of i, view i); space = 0; reader = reader; refs = refs_are i; wrote = wrote_are i; next_name = 0 }

  pub first_belongs : (content : R → Option (List ℕ)) (heap : TableId × Told) (m : MutatorState R) (reader : R) → T ≡ heap.1 → m ≡ first_mutator heap.0 (g.faults s.journal.disk) reader
      → content reader ≡ g.content s.pages → Belongs content heap m
  unfolding LawfulFrom
  first_belongs content heap m reader same is reads =
      subst (λ (x : MutatorState R). Belongs content heap x) (sym is)
      (record {
        mutator = record {
          of = refl;
          unmarked = λ p. refl;
          lawful = λ st opens. tt;
          reads = reads ∙ ap (λ (t : Told). t.opening.file) same;
          tags = (length-replicate 512 true, length-replicate 512 false);
          space = omega arith;
        };
        known = λ q tagged. inl refl;
      })
