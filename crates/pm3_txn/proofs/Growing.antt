-- A transaction that draws names and pages for its space, and opens a page of it.
use Rattle.std.proofs.Common.{◌≡◌, ◌<◌, ◌≤◌, ◌+◌, ◌-◌, ◌^◌, ◌==◌, ◌||◌, ◌&&◌, ◌∙◌, inl, inr, ℕ, max, Bool, true, false, not, nat_le, List, Option, Some, None, is_some, refl, sym, ap, arith}
use Rattle.std.proofs.Math.Nat.{le-max_left}
use Rattle.std.proofs.lemmas.Bool.{cases_eq, false≢true, eq-eqb, ne_eqb, and_from, le-leb}
use Rattle.std.specs.Cmp.{nat_cmp_total, unsigned_tied}
use Rattle.std.specs.Option.{option_map}
use Rattle.std.specs.FinMap.{entries, get}
use Rattle.std.specs.FinSet as set
use Rattle.std.specs.FinSet.{contains-insert, contains-remove, same_set, nat_cmp-IsAntisymmetric}
use Rattle.atomic_table.specs.Seated.{TableId}
use Rattle.pm3_core.specs.declared.naming.TheConstants.{BASE}
use Rattle.pm3_types.specs.Layout.{PageImage, blank_sheet, end_of, page_in, used_in, word_in}
use Rattle.pm3_page.specs.Next.{IsNext}
use Rattle.pm3_page.specs.PageSheets.{sheets_over}
use Rattle.pm3_access.specs.Acts.{space_found}
use Rattle.pm3_access.specs.FreeList.{Numbers}
use Rattle.pm3_access.specs.Holding.{Holding, HeldSpaceState, FreeIs, by_space, grown, space_now, with_free}
use Rattle.pm3_access.specs.Making.{current_image, has_room_for, has_space_for}
use Rattle.pm3_access.proofs.Homes as images_at
use Rattle.pm3_table.specs.declared.unit.Limit.TheVariants.{Names, Pages}
use Rattle.pm3_table.specs.declared.view.Deed.{Deed}
use Rattle.pm3_table.specs.declared.view.Told.{Told}
use Rattle.pm3_table.specs.Deeds.{word_of, stands_of, marks_of}
use Rattle.pm3_table.specs.declared.view.View.{View}
use Rattle.pm3_table.specs.Entries.{makes}
use Rattle.pm3_table.specs.Histories.{some_has}
use Rattle.pm3_table.specs.Ops.{drew_name, drew_page, saw_full, settled_in}
use Rattle.pm3_table.specs.Telling.{IsNewName, IsNewPage}
use Rattle.pm3_table.specs.Words.{space_unit}
use Rattle.pm3_txn.specs.declared.faults.AccessFault.TheVariants.{Full}
use Rattle.pm3_txn.specs.DrawnLaws.{HasGrown, HasNoName, IsAlike, unfreed, with_free_page}
use Rattle.pm3_txn.specs.Heaps.{IsBelow}
use Rattle.pm3_txn.specs.Making.{HasGrownSpace}
use Rattle.pm3_txn.specs.Owners.{IsHolding, MayHoldSpace}
use Rattle.pm3_txn.specs.Spaces.{HasDrawnName, HasDrawnPage, HasFree, HasNone, HasOpenedPage, IsNameRefusal, IsPageShortage}
use Rattle.pm3_txn.specs.States.{MutatorState}
use Rattle.pm3_txn.specs.Takes.{with_name, with_view}
use Rattle.pm3_txn.specs.Underway.{IsMutatorOf, IsUnderway}
use Rattle.pm3_txn.specs.OwnStarts.{starts_on}
use Rattle.pm3_txn.specs.Works.{is_own_start}
use Rattle.pm3_txn.proofs.Advancing.{moment}
use Rattle.pm3_txn.proofs.Keeping.{FoundSame, Keeps, keeps_both, keeps_books, keeps_same, row_kept}
use Rattle.pm3_txn.proofs.NamesBelow.{names_alike, names_rise}
use Rattle.pm3_txn.proofs.OwnerDraws.{holdings_draw, holdings_reuse, drawn_names_are_unused}
use Rattle.pm3_txn.proofs.OwnerFree.{holdings_free, holdings_room}
use Rattle.pm3_txn.proofs.OwnerSteps.{draws_are_alike, settles_spread}

-- a blank page has its first object behind its head
blank_end : end_of blank_sheet ≡ 2
unfolding used_in
blank_end = refl

-- one growth after another
grown_both : (told : Told) (v w x : View) (number : ℕ) (h k g : Holding) → HasGrown told v h w number k → HasGrown told w k x number g → HasGrown told v h x number g
grown_both told v w x number h k g first second = (λ st opens done works. second.0 st opens done (first.0 st opens done works), second.1, second.2 ∙ first.2)

-- the space of a holding that is changed is there, and has the pages that it had
pub still_some : (f : HeldSpaceState → HeldSpaceState) (s : Option HeldSpaceState) → is_some (option_map f s) ≡ is_some s
still_some f None = refl
still_some f (Some s) = refl

pub free_starts : (free : HeldSpaceState → Numbers) (room : HeldSpaceState → ℕ) (h : Holding) (a : ℕ) → is_own_start (by_space (λ s. with_free s (free s) (room s)) h) a ≡ is_own_start h a
free_starts free room h a = by h.space
  where
    by : (s : Option HeldSpaceState) → is_own_start (record { pages = h.pages; space = option_map (λ t. with_free t (free t) (room t)) s }) a ≡ is_own_start (record { pages = h.pages; space = s }) a
    by None = refl
    by (Some s) = refl

grown_starts : (image : PageImage) (h : Holding) → space_now h.space image.page ≡ None → (a : ℕ) → is_own_start h a ≡ true → is_own_start (by_space (λ s. grown s image) h) a ≡ true
grown_starts image h none a = by h.space none
  where
    by : (s : Option HeldSpaceState) → space_now s image.page ≡ None → is_own_start (record { pages = h.pages; space = s }) a ≡ true
        → is_own_start (record { pages = h.pages; space = option_map (λ t. grown t image) s }) a ≡ true
    by None absent is = is
    by (Some s) absent is = elim (cases_eq (page_in BASE a) image.page) [
      | inl e ↦ absurd (false≢true (sym (ap (λ (o : Option PageImage). starts_on o (word_in BASE a)) (ap (get s.images.left) e ∙ absent)) ∙ is))
      | inr ne ↦ ap (λ (o : Option PageImage). starts_on o (word_in BASE a)) (images_at.get_other s.images.left image.page (page_in BASE a) image ne) ∙ is
    ]

-- and the same was found
found_itself : (h : Holding) → FoundSame h h
found_itself h = record { images = refl; space = refl }

found_both : (h k g : Holding) → FoundSame h k → FoundSame k g → FoundSame h g
found_both h k g first second = record { images = second.images ∙ first.images; space = second.space ∙ first.space }

found_by : (h : Holding) (s : Option HeldSpaceState) → space_found s ≡ space_found h.space → FoundSame h (record { pages = h.pages; space = s })
found_by h s same = record { images = ap (sheets_over (entries h.pages.found)) same; space = same }

pub free_found : (free : HeldSpaceState → Numbers) (room : HeldSpaceState → ℕ) (h : Holding) → FoundSame h (by_space (λ s. with_free s (free s) (room s)) h)
free_found free room h = found_by h (option_map (λ t. with_free t (free t) (room t)) h.space) (by h.space)
  where
    by : (s : Option HeldSpaceState) → space_found (option_map (λ t. with_free t (free t) (room t)) s) ≡ space_found s
    by None = refl
    by (Some s) = refl

grown_found : (image : PageImage) (h : Holding) → FoundSame h (by_space (λ s. grown s image) h)
grown_found image h = found_by h (option_map (λ t. grown t image) h.space) (by h.space)
  where
    by : (s : Option HeldSpaceState) → space_found (option_map (λ t. grown t image) s) ≡ space_found s
    by None = refl
    by (Some s) = refl

-- A view has only drawn, and seen that counters are full.
pub record HasOnlyDrawn (v w : View) : Type 0 where
  pub alike : IsAlike v w
  pub log : w.log ≡ v.log
  pub refusals : w.refusals ≡ v.refusals
  pub row : w.row ≡ v.row
  pub mine : w.mine ≡ v.mine
  pub faults : w.faults ≡ v.faults

-- the mutator with another view and another next name
abbrev noting : {R : Type 0} → MutatorState R → View → ℕ → MutatorState R
noting m w next = record m { pass = (m.pass.0, w); next_name = next }

module _ {R : Type 0} (content : R → Option (List ℕ)) (heap : TableId × Told) (m : MutatorState R) (w : View) (h g : Holding) (tag : ℕ) (was : IsUnderway content (moment heap tag m h)) (only : HasOnlyDrawn m.pass.1 w)
    (grew : HasGrown heap.1 m.pass.1 h w m.space g) (starts : (a : ℕ) → is_own_start h a ≡ true → is_own_start g a ≡ true) (found : FoundSame h g) where
  keeps : Keeps heap.1 m.pass.1 h w g
  keeps = keeps_both heap.1 m.pass.1 w w h h g (keeps_same heap.1 m.pass.1 w h only.alike.seen) (keeps_books heap.1 w h g starts (λ st opens. grew.2) found)

  pub grown_underway : (next : ℕ) → m.next_name ≤ next → IsMutatorOf content heap (noting m w next) → IsUnderway content (moment heap tag (noting m w next) g)
  grown_underway next rose kept = record {
    mutator = kept;
    known = row_kept heap.1 m.pass.1 w h g keeps m.refs m.wrote (λ q. ap (λ (l : List Deed). word_of l q) only.log) was.known;
    holding = grew.1;
    named = names_rise m.next_name next g rose (names_alike m.next_name h g grew.2 found.space was.named);
  }

  pub has_grown : (next : ℕ) → is_some g.space ≡ true → g.pages ≡ h.pages → HasGrownSpace (moment heap tag m h) (moment heap tag (noting m w next) g)
  has_grown next there same = record {
    same = record {
      heap = refl;
      tag = refl;
      table = refl;
      space = refl;
      refs = refl;
      wrote = refl;
      words = λ q. ap (λ (l : List Deed). word_of l q) only.log;
      stands = λ q. ap (λ (l : List Deed). stands_of l q) only.log;
      marks = λ q. ap (λ (l : List Deed). marks_of l q) only.log;
      row = only.row;
      mine = only.mine;
      faults = only.faults;
    };
    refusals = only.refusals;
    holds = only.alike.holds;
    held = there;
    pages = same;
    names = λ n is. record {
      drawn = only.alike.names n is.drawn;
      from = is.from;
      unmade = ap (λ l. some_has makes l n) only.alike.seen ∙ is.unmade;
      unused = λ st opens a has. is.unused st opens a (ap (λ k. get k a) (sym grew.2) ∙ has);
      low = is.low;
    };
    goes_on = record { works = grew.0; keeps = keeps.objects };
  }

-- the least free page is a free one, or there is none
pub free_here : (s : Option HeldSpaceState) (page : ℕ) → FreeIs s (λ free. IsNext (set.contains free) 0 (Some page)) → FreeIs s (λ free. set.contains free page ≡ true)
free_here None page is = is
free_here (Some s) page is = is.there

pub none_here : (s : Option HeldSpaceState) → FreeIs s (λ free. IsNext (set.contains free) 0 None) → HasNone s
none_here None is = is
none_here (Some s) is = λ p. is p (omega arith)

-- a drawn name
module _ {R : Type 0} (content : R → Option (List ℕ)) (heap : TableId × Told) (m : MutatorState R) (h : Holding) (tag : ℕ) (was : IsUnderway content (moment heap tag m h)) (there : is_some h.space ≡ true) where
  abbrev v : View
  v = m.pass.1

  only_named : (n : ℕ) → HasOnlyDrawn v (drew_name v n)
  only_named n = record { alike = (draws_are_alike v n).2; log = refl; refusals = refl; row = refl; mine = refl; faults = refl }

  named : (n : ℕ) → HasGrown heap.1 v h (drew_name v n) m.space h
  named n = (let on = holdings_draw heap.1 v (drew_name v n) m.space h (draws_are_alike v n).2 refl was.holding in (on.0, on.1, refl))

  pub named_underway : (n : ℕ) → IsMutatorOf content heap (with_name m (drew_name v n) n) → IsUnderway content (moment heap tag (with_name m (drew_name v n) n) h)
  named_underway n kept = grown_underway content heap m (drew_name v n) h h tag was (only_named n) (named n) (λ q e. e) (found_itself h) (max m.next_name (n + 1)) (le-max_left m.next_name (n + 1)) kept

  pub has_drawn_name : (n : ℕ) → IsBelow heap.1 → 1 ≤ heap.1.next_name → n < 2 ^ 62 → IsNewName heap.1 v n → HasDrawnName (moment heap tag m h) (moment heap tag (with_name m (drew_name v n) n) h) n
  has_drawn_name n below first low new =
      let unused : HasNoName heap.1 h n = drawn_names_are_unused heap.1 v m.space h n below was.mutator.lawful new was.holding in
      record {
        grown = has_grown content heap m (drew_name v n) h h tag was (only_named n) (named n) (λ q e. e) (found_itself h) (max m.next_name (n + 1)) there refl;
        drew = record { pages_drawn = omega arith; names_drawn = refl; names_are = refl; noted = refl };
        filled = refl;
        held = refl;
        usable = record { drawn = (draws_are_alike v n).3; from = new.from; unmade = new.unmade; unused = unused; low = (let from = new.from in omega (arith, first, from), low) };
        fresh = (unused, new.from, new.unmade);
      }

  -- a counter that is full
  only_full : (c : ℕ) → HasOnlyDrawn v (saw_full c v)
  only_full c = record { alike = (draws_are_alike v c).0; log = refl; refusals = refl; row = refl; mine = refl; faults = refl }

  full : (c : ℕ) (k : Holding) → IsHolding heap.1 v m.space k → HasGrown heap.1 v k (saw_full c v) m.space k
  full c k holding = (let on = holdings_draw heap.1 v (saw_full c v) m.space k (draws_are_alike v c).0 refl holding in (on.0, on.1, refl))

  pub names_full_underway : IsMutatorOf content heap (with_view m (saw_full 1 v)) → IsUnderway content (moment heap tag (with_view m (saw_full 1 v)) h)
  names_full_underway kept = grown_underway content heap m (saw_full 1 v) h h tag was (only_full 1) (full 1 h was.holding) (λ q e. e) (found_itself h) m.next_name (omega arith) kept

  pub names_full : IsNameRefusal (moment heap tag m h) (moment heap tag (with_view m (saw_full 1 v)) h) (Full Names (2 ^ 62))
  names_full = record {
    full = refl;
    grown = has_grown content heap m (saw_full 1 v) h h tag was (only_full 1) (full 1 h was.holding) (λ q e. e) (found_itself h) m.next_name there refl;
    drew = record { pages_drawn = omega arith; names_drawn = omega arith; names_are = refl; noted = refl };
    filled = refl;
  }

  -- a page that was drawn, once there is room for it among the free ones
  module _ (more : HeldSpaceState → ℕ) where
    abbrev pub roomy : Holding
    roomy = by_space (λ s. with_free s s.free (more s)) h

    room_grown : HasGrown heap.1 v h v m.space roomy
    room_grown = holdings_room heap.1 v m.space h more was.holding

    roomy_some : is_some roomy.space ≡ true
    roomy_some = still_some (λ s. with_free s s.free (more s)) h.space ∙ there

    pages_full_grown : HasGrown heap.1 v h (saw_full 0 v) m.space roomy
    pages_full_grown = grown_both heap.1 v v (saw_full 0 v) m.space h roomy roomy room_grown (full 0 roomy room_grown.1)

    roomy_found : FoundSame h roomy
    roomy_found = free_found (λ s. s.free) more h

    roomy_starts : (a : ℕ) → is_own_start h a ≡ true → is_own_start roomy a ≡ true
    roomy_starts a own = free_starts (λ s. s.free) more h a ∙ own

    pub roomy_underway : IsUnderway content (moment heap tag m roomy)
    roomy_underway = grown_underway content heap m v h roomy tag was (record { alike = record { seen = refl; holds = refl; steady = refl; names = λ n e. e }; log = refl; refusals = refl; row = refl; mine = refl; faults = refl })
        room_grown roomy_starts roomy_found m.next_name (omega arith) was.mutator

    pub pages_full_underway : IsMutatorOf content heap (with_view m (saw_full 0 v)) → IsUnderway content (moment heap tag (with_view m (saw_full 0 v)) roomy)
    pages_full_underway kept = grown_underway content heap m (saw_full 0 v) h roomy tag was (only_full 0) pages_full_grown roomy_starts roomy_found m.next_name (omega arith) kept

    same_current : (s : Option HeldSpaceState) → current_image (option_map (λ t. with_free t t.free (more t)) s) ≡ current_image s
    same_current None = refl
    same_current (Some s) = refl

    same_none : (s : Option HeldSpaceState) → HasNone s → HasNone (option_map (λ t. with_free t t.free (more t)) s)
    same_none None is = is
    same_none (Some s) is = is

    pub pages_full : IsPageShortage (moment heap tag m h) (moment heap tag (with_view m (saw_full 0 v)) roomy) (Full Pages heap.1.pages)
    pages_full = record {
      full = refl;
      grown = has_grown content heap m (saw_full 0 v) h roomy tag was (only_full 0) pages_full_grown roomy_starts roomy_found m.next_name roomy_some refl;
      drew = record { pages_drawn = omega arith; names_drawn = omega arith; names_are = refl; noted = refl };
      filled = refl;
      current = same_current h.space;
      free = same_none h.space;
    }

    module _ (page : ℕ) (high : 3 ≤ page) (low : page < heap.1.pages) (new : IsNewPage heap.1 v page) (room : HeldSpaceState → ℕ) where
      abbrev w : View
      w = settled_in (drew_page v page) page (space_unit heap.1.pages m.space) v.log

      abbrev freer : Holding
      freer = with_free_page roomy page room

      alike : IsAlike v w
      alike =
          let drew = (draws_are_alike v page).1 in let settled = (settles_spread (drew_page v page) page (space_unit heap.1.pages m.space) v.log).0 in
          record {
            seen = settled.seen ∙ drew.seen;
            holds = settled.holds ∙ drew.holds;
            steady = settled.steady ∙ drew.steady;
            names = λ n e. settled.names n (drew.names n e);
          }

      only_paged : HasOnlyDrawn v w
      only_paged = record { alike = alike; log = refl; refusals = refl; row = refl; mine = refl; faults = refl }

      paged : HasGrown heap.1 v h w m.space freer
      paged = grown_both heap.1 v v w m.space h roomy freer room_grown
          (holdings_free heap.1 v w m.space roomy page room room_grown.1 new high low alike (settles_spread (drew_page v page) page (space_unit heap.1.pages m.space) v.log).1)

      freer_found : FoundSame h freer
      freer_found = found_both h roomy freer roomy_found (free_found (λ s. set.insert s.free page) room roomy)

      freer_starts : (a : ℕ) → is_own_start h a ≡ true → is_own_start freer a ≡ true
      freer_starts a own = free_starts (λ s. set.insert s.free page) room roomy a ∙ roomy_starts a own

      pub paged_underway : IsMutatorOf content heap (with_view m w) → IsUnderway content (moment heap tag (with_view m w) freer)
      paged_underway kept = grown_underway content heap m w h freer tag was only_paged paged freer_starts freer_found m.next_name (omega arith) kept

      has_page : (s : Option HeldSpaceState) → is_some s ≡ true → HasFree (option_map (λ t. with_free t (set.insert t.free page) (room t)) s)
      has_page None is = absurd (false≢true is)
      has_page (Some s) is = (page, contains-insert nat_cmp_total s.free page page ∙ ap (λ (b : Bool). b || set.contains s.free page) (unsigned_tied page page ∙ eq-eqb page page refl))

      pub has_drawn_page : HasDrawnPage (moment heap tag m h) (moment heap tag (with_view m w) freer)
      has_drawn_page = record {
        grown = has_grown content heap m w h freer tag was only_paged paged freer_starts freer_found m.next_name (still_some (λ s. with_free s (set.insert s.free page) (room s)) roomy.space ∙ roomy_some) refl;
        drew = record { pages_drawn = refl; names_drawn = omega arith; names_are = refl; noted = refl };
        free = has_page roomy.space roomy_some;
      }

  -- a free page that is opened
  module _ (image : PageImage) (below : IsBelow heap.1) (blank : image.sheet ≡ blank_sheet) (is : FreeIs h.space (λ free. set.contains free image.page ≡ true)) where
    abbrev opened : Holding
    opened = by_space (λ s. grown s image) (unfreed h image.page)

    itself : HasOnlyDrawn v v
    itself = record { alike = record { seen = refl; holds = refl; steady = refl; names = λ n e. e }; log = refl; refusals = refl; row = refl; mine = refl; faults = refl }

    reused : HasGrown heap.1 v h v m.space opened
    reused = holdings_reuse heap.1 v m.space h image below was.mutator.lawful was.holding is blank

    opened_found : FoundSame h opened
    opened_found = found_both h (unfreed h image.page) opened (free_found (λ s. set.remove s.free image.page) (λ s. s.room + 1) h) (grown_found image (unfreed h image.page))

    unfreed_absent : (s : Option HeldSpaceState) → MayHoldSpace heap.1 v m.space s → FreeIs s (λ free. set.contains free image.page ≡ true)
        → space_now (option_map (λ t. with_free t (set.remove t.free image.page) (t.room + 1)) s) image.page ≡ None
    unfreed_absent None held free = absurd free
    unfreed_absent (Some s) held free = held.1.free image.page free

    opened_starts : (a : ℕ) → is_own_start h a ≡ true → is_own_start opened a ≡ true
    opened_starts a own = grown_starts image (unfreed h image.page) (unfreed_absent h.space was.holding.space is) a (free_starts (λ s. set.remove s.free image.page) (λ s. s.room + 1) h a ∙ own)

    pub opened_underway : IsUnderway content (moment heap tag m opened)
    opened_underway = grown_underway content heap m v h opened tag was itself reused opened_starts opened_found m.next_name (omega arith) was.mutator

    unheld : (s : Option HeldSpaceState) → MayHoldSpace heap.1 v m.space s → FreeIs s (λ free. set.contains free image.page ≡ true) → 3 ≤ image.page
    unheld None held free = absurd free
    unheld (Some s) held free = (held.1.within image.page (held.1.spans image.page ∙ second (is_some (get s.images.left image.page)) (set.contains s.free image.page) free)).0
      where
        second : (a b : Bool) → b ≡ true → (a || b) ≡ true
        second true b e = refl
        second false b e = e

    roomy_page : (s : Option HeldSpaceState) → is_some s ≡ true → 3 ≤ image.page → (size : ℕ) → size ≤ 510
        → has_room_for (current_image (option_map (λ t. grown t image) (option_map (λ t. with_free t (set.remove t.free image.page) (t.room + 1)) s))) size ≡ true
    roomy_page None is high size small = absurd (false≢true is)
    roomy_page (Some s) is high size small = ap (λ (o : Option PageImage). has_room_for o size) (images_at.get_same s.images.left image.page image.page image refl) ∙ fits
      where
        fits : has_space_for image size ≡ true
        fits = and_from (not (image.page == 2)) (nat_le (end_of image.sheet + size) 512) (ap not (ne_eqb image.page 2 (λ e. omega (arith, e, high))))
            (ap (λ (k : ℕ). nat_le (k + size) 512) (ap end_of blank ∙ blank_end) ∙ le-leb (2 + size) 512 (omega (arith, small)))

    pub has_opened : HasOpenedPage (moment heap tag m h) (moment heap tag m opened)
    has_opened = record {
      grown = has_grown content heap m v h opened tag was itself reused opened_starts opened_found m.next_name
          (still_some (λ s. grown s image) (unfreed h image.page).space ∙ still_some (λ s. with_free s (set.remove s.free image.page) (s.room + 1)) h.space ∙ there) refl;
      drew = record { pages_drawn = omega arith; names_drawn = omega arith; names_are = refl; noted = refl };
      room = roomy_page h.space there (unheld h.space was.holding.space is);
    }

  -- or is free once more
  pub put_back : (page : ℕ) → FreeIs h.space (λ free. set.contains free page ≡ true) → by_space (λ s. with_free s (set.insert s.free page) (s.room - 1)) (unfreed h page) ≡ h
  put_back page is = (let same = by h.space is in λ i. record { pages = h.pages; space = same i })
    where
      by : (s : Option HeldSpaceState) → FreeIs s (λ free. set.contains free page ≡ true)
          → option_map (λ t. with_free t (set.insert t.free page) (t.room - 1)) (option_map (λ t. with_free t (set.remove t.free page) (t.room + 1)) s) ≡ s
      by None free = refl
      by (Some s) free =
          let both : set.insert (set.remove s.free page) page ≡ s.free = same_set nat_cmp_total nat_cmp-IsAntisymmetric (set.insert (set.remove s.free page) page) s.free (λ q.
          contains-insert nat_cmp_total (set.remove s.free page) page q ∙ ap (λ (b : Bool). b || set.contains (set.remove s.free page) q) (unsigned_tied q page)
          ∙ ap (λ (b : Bool). (q == page) || b) (contains-remove nat_cmp_total s.free page q ∙ ap (λ (b : Bool). not b && set.contains s.free q) (unsigned_tied q page))
          ∙ elim (cases_eq q page) [
            | inl e ↦ ap (λ (b : Bool). b || (not b && set.contains s.free q)) (eq-eqb q page e) ∙ sym (ap (set.contains s.free) e ∙ free)
            | inr ne ↦ ap (λ (b : Bool). b || (not b && set.contains s.free q)) (ne_eqb q page ne)
          ]) in
          let room : s.room + 1 - 1 ≡ s.room = omega arith in λ i. Some (with_free s (both i) (room i))
