-- An entry with a pass leads from a state of a chronicle to one.
use Rattle.std.proofs.Common.{◌≡◌, ◌<◌, ◌+◌, ◌∙◌, ◌⊎◌, inl, inr, ℕ, Bool, true, false, List, Option, Some, None, is_some, refl, sym, ap}
use Rattle.std.specs.Prelude.{slice_index}
use Rattle.std.specs.Ordering.{nat_cmp}
use Rattle.std.specs.FinMap.{FinMap, get, contains_key}
use Rattle.pm3_types.specs.Fields.{Fields}
use Rattle.pm3_types.specs.Graph.{Part}
use Rattle.pm3_types.specs.Layout.{Sheet, page_in, word_in}
use Rattle.pm3_types.specs.PageForm.{IsReferenceIn, map_at, tail_at}
use Rattle.pm3_types.specs.Record.{Record}
use Rattle.pm3_types.specs.Shown.{Book, Images, IsKnown, FitsImages, shown, shown_records, object_at}
use Rattle.pm3_types.proofs.Books.{shown_from}
use Rattle.pm3_history.specs.Laid.{laid, without}
use Rattle.pm3_history.specs.Entry.{Pass, Entry}
use Rattle.pm3_history.specs.Named.{IsNamedOn, book_of, next_book, off_pages, promoted}
use Rattle.pm3_history.specs.State.{State, step, all_images, owned_by}
use Rattle.pm3_history.specs.Lawful.{Tells, StayWithin, MayRefer, IsFree, TakesPages, IsPass, book_for, images_of}
use Rattle.pm3_history.specs.Chronicled.{Chronicled}
use Rattle.pm3_history.proofs.BookOf.{book_of_on}
use Rattle.pm3_history.proofs.NamedOn.{book_of_has}
use Rattle.pm3_history.proofs.Laying.{some_of, some_none, laid_above, laid_below, laid_cases, laid_none, laid_still, without_keeps, without_cases, without_none, off_keeps, off_cases, none_if, there_none}
use Rattle.pm3_history.proofs.OwnedBy.{owned_by_none, owned_after}
use Rattle.pm3_history.proofs.Plainly.{no_zero, no_nil_after, owned_none}
use Rattle.pm3_history.proofs.Replacing.{IsReplaced, nothing_at, fits_now, shows_now}

module _ (catalog : List Fields) (base : ℕ) (st : State) (e : Entry) (p : Pass) (chron : Chronicled catalog base st) (takes : TakesPages base st e p) where
  abbrev over : Images
  over = laid p.after e.written

  abbrev volatile : Images
  volatile = laid (without st.volatile p.before) p.after

  abbrev now : Images
  now = laid (laid st.pages e.written) volatile

  abbrev owner : FinMap nat_cmp ℕ
  owner = laid (without st.owner p.before) (owned_by p.space p.after)

  abbrev new : Book
  new = next_book base st.book e.written (Some p)

  -- a free page has no object that the book has, and no image of a space
  pub free_empty : (w m : ℕ) → get st.book w ≡ Some m → IsFree base st (page_in base w) → ⊥
  free_empty w m has free = free.empty w m has refl

  unowned : (q : ℕ) → get st.owner q ≡ None → get (without st.volatile p.before) q ≡ None
  unowned q none = none_if (get (without st.volatile p.before) q) (λ sheet is. some_none (get st.volatile q) sheet (without_cases st.volatile p.before q sheet is).1 (owned_none st q (chron.owned q) none))

  -- no space keeps an image of a written page
  written_apart : (q : ℕ) (sheet : Sheet) → get e.written q ≡ Some sheet → get volatile q ≡ None
  written_apart q sheet is = by (get p.after q) refl
    where
      left : get p.after q ≡ None → (b : Bool) → contains_key p.changed q ≡ b → get volatile q ≡ None
      left none true changed = laid_below (without st.volatile p.before) p.after q none ∙ unowned q (takes.changed q changed).0
      left none false other = laid_below (without st.volatile p.before) p.after q none ∙ which (takes.promoted q (ap is_some is) other)
        where
          which : (contains_key p.before q ≡ true) ⊎ IsFree base st q → get (without st.volatile p.before) q ≡ None
          which (inl before) = without_none st.volatile p.before q before
          which (inr free) = unowned q free.unowned

      by : (o : Option Sheet) → get p.after q ≡ o → get volatile q ≡ None
      by None none = left none (contains_key p.changed q) refl
      by (Some other) on = absurd (some_none (get e.written q) sheet is (takes.apart q (ap is_some on)))

  above : (q : ℕ) (sheet : Sheet) → get over q ≡ Some sheet → get now q ≡ Some sheet
  above q sheet is = by (laid_cases p.after e.written q sheet is)
    where
      by : (get e.written q ≡ Some sheet) ⊎ ((get e.written q ≡ None) × (get p.after q ≡ Some sheet)) → get now q ≡ Some sheet
      by (inl written) = laid_below (laid st.pages e.written) volatile q (written_apart q sheet written) ∙ laid_above st.pages e.written q sheet written
      by (inr kept) = laid_above (laid st.pages e.written) volatile q sheet (laid_above (without st.volatile p.before) p.after q sheet kept.1)

  -- a page that the pass neither had nor leaves has the image that it had
  elsewhere : (q : ℕ) → get over q ≡ None → get p.before q ≡ None → get now q ≡ get (all_images st) q
  elsewhere q off before = by (get st.volatile q) refl
    where
      none : (get e.written q ≡ None) × (get p.after q ≡ None)
      none = laid_none p.after e.written q off

      same : get volatile q ≡ get st.volatile q
      same = laid_below (without st.volatile p.before) p.after q none.1 ∙ without_keeps st.volatile p.before q before

      by : (o : Option Sheet) → get st.volatile q ≡ o → get now q ≡ get (all_images st) q
      by None nobody =
          laid_below (laid st.pages e.written) volatile q (same ∙ nobody) ∙ laid_below st.pages e.written q none.0 ∙ sym (laid_below st.pages st.volatile q nobody)
      by (Some sheet) on =
          laid_above (laid st.pages e.written) volatile q sheet (same ∙ on) ∙ sym (laid_above st.pages st.volatile q sheet on)

  -- an address that the pass names anew is on a page that it leaves
  pub named_anew : (a n : ℕ) → get (book_of base (laid p.after (promoted e.written p))) a ≡ Some n → (is_some (get over (page_in base a)) ≡ true)
      × ((contains_key p.before (page_in base a) ≡ true) ⊎ IsFree base st (page_in base a))
  named_anew a n is = by (laid_cases p.after (promoted e.written p) (page_in base a) image.0 image.1)
    where
      image : (sheet : Sheet) × (get (laid p.after (promoted e.written p)) (page_in base a) ≡ Some sheet)
      image = some_of (get (laid p.after (promoted e.written p)) (page_in base a)) (book_of_on base (laid p.after (promoted e.written p)) a n is)

      by : (get (promoted e.written p) (page_in base a) ≡ Some image.0) ⊎ ((get (promoted e.written p) (page_in base a) ≡ None) × (get p.after (page_in base a) ≡ Some image.0))
          → (is_some (get over (page_in base a)) ≡ true) × ((contains_key p.before (page_in base a) ≡ true) ⊎ IsFree base st (page_in base a))
      by (inl promoted_) =
          let parts = without_cases e.written p.changed (page_in base a) image.0 promoted_ in
          (ap is_some (laid_above p.after e.written (page_in base a) image.0 parts.1), takes.promoted (page_in base a) (ap is_some parts.1) (ap is_some parts.0))
      by (inr kept) =
          (laid_still p.after e.written (page_in base a) (ap is_some kept.1), takes.after (page_in base a) (ap is_some kept.1))

  pub below : (a n : ℕ) → get new a ≡ Some n → get over (page_in base a) ≡ None → (get p.before (page_in base a) ≡ None) × (get st.book a ≡ Some n)
  below a n has none = by (laid_cases (off_pages base st.book p.before) (book_of base (laid p.after (promoted e.written p))) a n has)
    where
      by : (get (book_of base (laid p.after (promoted e.written p))) a ≡ Some n)
          ⊎ ((get (book_of base (laid p.after (promoted e.written p))) a ≡ None) × (get (off_pages base st.book p.before) a ≡ Some n))
          → (get p.before (page_in base a) ≡ None) × (get st.book a ≡ Some n)
      by (inl anew) =
          absurd (there_none (get over (page_in base a)) ((named_anew a n anew).0) none)
      by (inr old) = off_cases base st.book p.before a n old.1

  -- off the pages that the pass had an address keeps its name
  pub still_booked : (w m : ℕ) → get st.book w ≡ Some m → get p.before (page_in base w) ≡ None → get new w ≡ Some m
  still_booked w m has before = by (get (book_of base (laid p.after (promoted e.written p))) w) refl
    where
      by : (o : Option ℕ) → get (book_of base (laid p.after (promoted e.written p))) w ≡ o → get new w ≡ Some m
      by None none =
          laid_below (off_pages base st.book p.before) (book_of base (laid p.after (promoted e.written p))) w none ∙ off_keeps base st.book p.before w before ∙ has
      by (Some n) is = which (named_anew w n is).1
        where
          which : (contains_key p.before (page_in base w) ≡ true) ⊎ IsFree base st (page_in base w) → get new w ≡ Some m
          which (inl on) = (absurd (there_none (get p.before (page_in base w)) on before))
          which (inr free) = absurd (free_empty w m has free)

  -- what a page off the pass refers to is off it
  refers_off : (q w m : ℕ) → get p.before q ≡ None → get st.book w ≡ Some m
      → (get st.owner (page_in base w) ≡ None) ⊎ (get st.owner (page_in base w) ≡ get st.owner q) → get p.before (page_in base w) ≡ None
  refers_off q w m off has may = none_if (get p.before (page_in base w)) (λ sheet on. which (takes.before (page_in base w) (ap is_some on)))
    where
      inside : get st.owner (page_in base w) ≡ Some p.space → (get st.owner (page_in base w) ≡ None) ⊎ (get st.owner (page_in base w) ≡ get st.owner q) → ⊥
      inside mine (inl none) = some_none (get st.owner (page_in base w)) p.space mine none
      inside mine (inr same) = there_none (get p.before q) (takes.space q (sym same ∙ mine)) off

      which : (get st.owner (page_in base w) ≡ Some p.space) ⊎ IsFree base st (page_in base w) → ⊥
      which (inl mine) = inside mine may
      which (inr free) = free_empty w m has free

  -- a page with an object of the book that the pass hadn't isn't one that it leaves to its space
  pub after_off : (w m : ℕ) → get st.book w ≡ Some m → get p.before (page_in base w) ≡ None → get p.after (page_in base w) ≡ None
  after_off w m has before = none_if (get p.after (page_in base w)) (λ sheet on. which (takes.after (page_in base w) (ap is_some on)))
    where
      which : (contains_key p.before (page_in base w) ≡ true) ⊎ IsFree base st (page_in base w) → ⊥
      which (inl on) = there_none (get p.before (page_in base w)) on before
      which (inr free) = free_empty w m has free

  -- the page of the roots is none of the pass
  roots_before : get p.before 2 ≡ None
  roots_before = none_if (get p.before 2) (λ sheet on. which (takes.before 2 (ap is_some on)))
    where
      which : (get st.owner 2 ≡ Some p.space) ⊎ IsFree base st 2 → ⊥
      which (inl mine) = some_none (get st.owner 2) p.space mine chron.roots_free
      which (inr free) = free.apart refl

  roots_after : get p.after 2 ≡ None
  roots_after = none_if (get p.after 2) (λ sheet on. which (takes.after 2 (ap is_some on)))
    where
      which : (contains_key p.before 2 ≡ true) ⊎ IsFree base st 2 → ⊥
      which (inl on) = there_none (get p.before 2) on roots_before
      which (inr free) = free.apart refl

  pub owner_same : (q : ℕ) → get p.before q ≡ None → get p.after q ≡ None → get owner q ≡ get st.owner q
  owner_same q before after =
      laid_below (without st.owner p.before) (owned_by p.space p.after) q (owned_by_none p.space p.after q after) ∙ without_keeps st.owner p.before q before

  changed_off : (q : ℕ) → get over q ≡ None → get p.changed q ≡ None
  changed_off q off = none_if (get p.changed q) (λ sheet on. there_none (get e.written q) ((takes.changed q (ap is_some on)).2) (laid_none p.after e.written q off).0)

  -- the pages by which the entry is read are among those that it leaves or had
  read_off : (q : ℕ) → get over q ≡ None → get p.before q ≡ None → get (laid p.before p.changed) q ≡ None
  read_off q off before = laid_below p.before p.changed q (changed_off q off) ∙ before

  replaced : FitsImages catalog base new over → IsReplaced catalog base st.book (all_images st) new now over
  replaced fits = record {
    fits = fits;
    above = above;
    below = λ a n has none. (let old = below a n has none in (elsewhere (page_in base a) none old.0, old.1));
    root_page = λ none. elsewhere 2 none roots_before;
    words = λ a n k m sheet has none on reference more is.
        let old = below a n has none in
        still_booked (slice_index sheet.words (word_in base a + 2 + k)) m is
        (refers_off (page_in base a) (slice_index sheet.words (word_in base a + 2 + k)) m old.0 is (chron.within.objects a n k sheet old.1 on reference more));
    slots = λ slot m sheet low none on more is.
        still_booked (slice_index sheet.words (2 + slot)) m is
        (refers_off 2 (slice_index sheet.words (2 + slot)) m roots_before is (chron.within.roots slot sheet low on more));
  }

  placed_now : (a n : ℕ) → get new a ≡ Some n → is_some (get now (page_in base a)) ≡ true
  placed_now a n has = by (get over (page_in base a)) refl
    where
      by : (o : Option Sheet) → get over (page_in base a) ≡ o → is_some (get now (page_in base a)) ≡ true
      by None none = (let old = below a n has none in ap is_some (elsewhere (page_in base a) none old.0) ∙ chron.placed a n old.1)
      by (Some sheet) is = ap is_some (above (page_in base a) sheet is)

  -- a reference from a page off the pass is as it was
  may_still : (q w : ℕ) → get p.before q ≡ None → get p.after q ≡ None → IsKnown st.book w → MayRefer base st.owner q w → MayRefer base owner q w
  may_still q w before after known may more = by known
    where
      by : IsKnown st.book w → (get owner (page_in base w) ≡ None) ⊎ (get owner (page_in base w) ≡ get owner q)
      by (inl zero) = absurd (more zero)
      by (inr is) = which (may more)
        where
          has : (m : ℕ) × (get st.book w ≡ Some m)
          has = some_of (get st.book w) is

          same : get owner (page_in base w) ≡ get st.owner (page_in base w)
          same =
              let off = refers_off q w has.0 before has.1 (may more) in
              owner_same (page_in base w) off (after_off w has.0 has.1 off)

          which : (get st.owner (page_in base w) ≡ None) ⊎ (get st.owner (page_in base w) ≡ get st.owner q)
              → (get owner (page_in base w) ≡ None) ⊎ (get owner (page_in base w) ≡ get owner q)
          which (inl none) = inl (same ∙ none)
          which (inr one) = inr (same ∙ one ∙ sym (owner_same q before after))

  within_now : StayWithin catalog base owner new over → StayWithin catalog base owner new now
  within_now within = record {
    objects = λ a n k sheet has on is. objects a n k sheet has on is (get over (page_in base a)) refl;
    roots = λ slot sheet low on. roots slot sheet low on (get over 2) refl;
  }
    where
      objects : (a n k : ℕ) (sheet : Sheet) → get new a ≡ Some n → get now (page_in base a) ≡ Some sheet
          → IsReferenceIn (map_at catalog sheet (word_in base a)) (tail_at sheet (word_in base a)) k → (o : Option Sheet) → get over (page_in base a) ≡ o
          → MayRefer base owner (page_in base a) (slice_index sheet.words (word_in base a + 2 + k))
      objects a n k sheet has on reference (Some s) is = within.objects a n k sheet has (is ∙ sym (above (page_in base a) s is) ∙ on) reference
      objects a n k sheet has on reference None none =
          let old = below a n has none in
          let was : get (all_images st) (page_in base a) ≡ Some sheet = sym (elsewhere (page_in base a) none old.0) ∙ on in
          may_still (page_in base a) (slice_index sheet.words (word_in base a + 2 + k)) old.0 (laid_none p.after e.written (page_in base a) none).1
          (chron.fits.references a n k sheet old.1 was reference) (chron.within.objects a n k sheet old.1 was reference)

      roots : (slot : ℕ) (sheet : Sheet) → slot < 16 → get now 2 ≡ Some sheet → (o : Option Sheet) → get over 2 ≡ o
          → MayRefer base owner 2 (slice_index sheet.words (2 + slot))
      roots slot sheet low on (Some s) is = within.roots slot sheet low (is ∙ sym (above 2 s is) ∙ on)
      roots slot sheet low on None none =
          let was : get (all_images st) 2 ≡ Some sheet = sym (elsewhere 2 none roots_before) ∙ on in
          may_still 2 (slice_index sheet.words (2 + slot)) roots_before roots_after (chron.fits.roots slot sheet low was) (chron.within.roots slot sheet low was)

  -- an object off the pages of the pass has a name that the entry's images don't show
  unseen : FitsImages catalog base (laid (book_of base p.before) st.book) (laid p.before p.changed) → (a n : ℕ) → get new a ≡ Some n → get over (page_in base a) ≡ None
      → get (shown_records catalog base (laid (book_of base p.before) st.book) (laid p.before p.changed)) n ≡ None
  unseen fits a n has none = none_if (get (shown_records catalog base both images) n) never
    where
      both : Book
      both = laid (book_of base p.before) st.book

      images : Images
      images = laid p.before p.changed

      old : (get p.before (page_in base a) ≡ None) × (get st.book a ≡ Some n)
      old = below a n has none

      nowhere : (b : ℕ) (r : Record) → b ≡ a → object_at both catalog base images b ≡ Some r → ⊥
      nowhere b r same is =
          some_none (object_at both catalog base images b) r is
          (nothing_at catalog base both images b (ap (λ (c : ℕ). get images (page_in base c)) same ∙ read_off (page_in base a) none old.0))

      never : (r : Record) → get (shown_records catalog base both images) n ≡ Some r → ⊥
      never r is =
          let from = shown_from catalog base both images n r is in
          nowhere from.0 r (fits.one from.0 a n from.1 (laid_above (book_of base p.before) st.book a n old.1)) from.2

-- each object of the spaces is in the book
named_now : (catalog : List Fields) (base : ℕ) (st : State) (e : Entry) (p : Pass) → Chronicled catalog base st → TakesPages base st e p
    → (a n : ℕ) → IsNamedOn base (laid (without st.volatile p.before) p.after) a n → get (next_book base st.book e.written (Some p)) a ≡ Some n
named_now catalog base st e p chron takes a n is = by (laid_cases (without st.volatile p.before) p.after page is.sheet is.on)
  where
    page : ℕ
    page = page_in base a

    on : (images : Images) → get images page ≡ Some is.sheet → IsNamedOn base images a n
    on images there = record { sheet = is.sheet; on = there; address = is.address; unmoved = is.unmoved; named = is.named }

    not_promoted : contains_key p.after page ≡ true → get (promoted e.written p) page ≡ None
    not_promoted left = none_if (get (promoted e.written p) page) (λ sheet new.
        some_none (get e.written page) sheet (without_cases e.written p.changed page sheet new).1 (takes.apart page left))

    by : (get p.after page ≡ Some is.sheet) ⊎ ((get p.after page ≡ None) × (get (without st.volatile p.before) page ≡ Some is.sheet))
        → get (next_book base st.book e.written (Some p)) a ≡ Some n
    by (inl left) =
        laid_above (off_pages base st.book p.before) (book_of base (laid p.after (promoted e.written p))) a n
        (book_of_has base (laid p.after (promoted e.written p)) a n
        (on (laid p.after (promoted e.written p)) (laid_below p.after (promoted e.written p) page (not_promoted (ap is_some left)) ∙ left)))
    by (inr kept) =
        let was = without_cases st.volatile p.before page is.sheet kept.1 in
        still_booked catalog base st e p chron takes a n (chron.named a n (on st.volatile was.1)) was.0

pub pass_keeps : (catalog : List Fields) (base pages : ℕ) (st : State) (found left : Part) (tag mutator next_name high_page : ℕ) (written : Images) (p : Pass)
    → let e : Entry = record { tag = tag; mutator = mutator; next_name = next_name; high_page = high_page; found = found; left = left; written = written; pass = Some p } in
    Chronicled catalog base st → Tells st.graph (shown catalog base (book_for base st e) (images_of e)) e → IsPass catalog base pages st e p → Chronicled catalog base (step base st e)
pass_keeps catalog base pages st found left tag mutator next_name high_page written p chron tells pass =
    let e : Entry = record { tag = tag; mutator = mutator; next_name = next_name; high_page = high_page; found = found; left = left; written = written; pass = Some p } in
    let r = replaced catalog base st e p chron pass.takes pass.fits_after in
    let s : Part = shown catalog base (book_for base st e) (images_of e) in
    let book : Book = next_book base st.book written (Some p) in
    let images : Images = laid (laid st.pages written) (laid (without st.volatile p.before) p.after) in
    let images_left : Images = laid p.after written in
    record {
      fits = fits_now catalog base st.book (all_images st) book images images_left r chron.fits;
      placed = placed_now catalog base st e p chron pass.takes;
      named = named_now catalog base st e p chron pass.takes;
      owned = λ q. owned_after st.volatile p.before p.after st.owner p.space q (chron.owned q);
      shows = shows_now catalog base st.book (all_images st) book images images_left r chron.fits st.graph s e tells chron.shows
          pass.only (unseen catalog base st e p chron pass.takes pass.fits)
          (λ none. read_off catalog base st e p chron pass.takes 2 none (roots_before catalog base st e p chron pass.takes));
      roots = laid_still st.pages written 2 chron.roots;
      roots_free =
          owner_same catalog base st e p chron pass.takes 2 (roots_before catalog base st e p chron pass.takes) (roots_after catalog base st e p chron pass.takes)
          ∙ chron.roots_free;
      no_nil = no_nil_after st.graph s e tells chron.no_nil (no_zero catalog base (book_for base st e) (images_of e) pass.fits);
      within = within_now catalog base st e p chron pass.takes pass.within;
    }
