-- A transaction begins with nothing, and goes on with one more persistent page.
use Rattle.std.proofs.Common.{◌≡◌, ◌≢◌, ◌⊎◌, ◌<◌, ◌≤◌, ◌+◌, ◌&&◌, ◌||◌, ◌∙◌, inl, inr, ℕ, Bool, true, eqb, leb, ltb, List, Option, Some, None, is_some, slice_index, refl, sym, ap, subst}
use Rattle.std.proofs.lemmas.Bool.{cases_Bool, cases_eq, and_parts, lt-ltb}
use Rattle.std.specs.Option.{option_or}
use Rattle.std.specs.FinMap.{get, empty, get-empty}
use Rattle.std.specs.Ordering.{nat_cmp}
use Rattle.pm3_core.specs.declared.naming.TheConstants.{BASE}
use Rattle.pm3_types.specs.Fields.{Fields}
use Rattle.pm3_types.specs.Graph.{Part, PartOf, with_part}
use Rattle.pm3_types.specs.Record.{Record}
use Rattle.pm3_types.specs.Layout.{Sheet, PageImage, blank_sheet, is_start, is_address, page_in, word_in}
use Rattle.pm3_types.specs.PageForm.{HasForm, HasObjects, IsReferenceIn, is_memory_reference, map_at, tail_at}
use Rattle.pm3_types.specs.Shown.{Book, Images, FitsImages, IsKnown, shown, shown_records, object_at, roots_in}
use Rattle.pm3_types.proofs.Books.{shown_from}
use Rattle.pm3_types.proofs.Parts.{same_part, get-with_part}
use Rattle.pm3_graph.specs.declared.operations.Op.{Op}
use Rattle.pm3_graph.specs.Frame.{AreNewTo, FrameOfRuns}
use Rattle.pm3_graph.specs.Operation.{IsRun}
use Rattle.pm3_page.specs.PageSheets.{sheet_in}
use Rattle.pm3_access.specs.Acts.{left_images, found_images, left_part, found_part}
use Rattle.pm3_access.specs.Holding.{Holding, image_in, admitted, nothing_held}
use Rattle.pm3_access.proofs.AdmitSteps.{alone, none_else, left_else, left_joined, found_joined}
use Rattle.pm3_access.proofs.HeldSheets.{get-left_images, sheet_same}
use Rattle.pm3_access.proofs.InPlace.{nothing_in_place, admitted_in_place}
use Rattle.pm3_access.proofs.JoinedParts.{AreJoined, shown_joined, fits_joined}
use Rattle.pm3_access.proofs.SoundingHeld.{sound_nothing, sound_admitted}
use Rattle.pm3_access.proofs.SoundingPages.{both}
use Rattle.pm3_history.specs.Homes.{IsHome}
use Rattle.pm3_history.specs.Persistent.{persistent_book}
use Rattle.pm3_history.specs.State.{State, all_images}
use Rattle.pm3_history.proofs.Committing.{fits_among}
use Rattle.pm3_history.proofs.Laying.{some_of, some_none, none_if, there_none, off_cases, off_keeps}
use Rattle.pm3_history.proofs.Persisting.{page_same, persistent_fits}
use Rattle.pm3_history.proofs.Replacing.{nothing_at}
use Rattle.pm3_history.proofs.RunNames.{run_grows}
use Rattle.pm3_txn.specs.Runs.{Runs}
use Rattle.pm3_txn.specs.TransactionLaws.{IsSettled, TransactionsBegin, PagesAreAdmitted}

-- a reference of a store whose page is below a number is one of a store of so many pages
pub narrow : (base pages high w : ℕ) → is_memory_reference base pages w ≡ true → (w ≡ 0) ⊎ (page_in base w < high) → is_memory_reference base high w ≡ true
unfolding is_memory_reference
narrow base pages high w is (inl nil) = ap (λ (b : Bool). b || (is_address base w && ((leb 3 (page_in base w) && ltb (page_in base w) high) && leb 2 (word_in base w)))) (ap (λ (n : ℕ). eqb n 0) nil)
narrow base pages high w is (inr below) = elim (cases_Bool (eqb w 0)) [
  | inl nil ↦ ap (λ (b : Bool). b || (is_address base w && ((leb 3 (page_in base w) && ltb (page_in base w) high) && leb 2 (word_in base w)))) nil
  | inr some ↦ (let tests : (is_address base w && ((leb 3 (page_in base w) && ltb (page_in base w) pages) && leb 2 (word_in base w))) ≡ true =
      sym (ap (λ (b : Bool). b || (is_address base w && ((leb 3 (page_in base w) && ltb (page_in base w) pages) && leb 2 (word_in base w)))) some) ∙ is in
      let outer = and_parts (is_address base w) ((leb 3 (page_in base w) && ltb (page_in base w) pages) && leb 2 (word_in base w)) tests in
      let inner = and_parts (leb 3 (page_in base w) && ltb (page_in base w) pages) (leb 2 (word_in base w)) outer.1 in
      let page = and_parts (leb 3 (page_in base w)) (ltb (page_in base w) pages) inner.0 in
      ap (λ (b : Bool). b || (is_address base w && ((leb 3 (page_in base w) && ltb (page_in base w) high) && leb 2 (word_in base w)))) some
      ∙ both _ _ outer.0 (both _ _ (both _ _ page.0 (lt-ltb (page_in base w) high below)) inner.1))
]

-- a page has the form under another test which its own references pass
pub form_by_places : (catalog : List Fields) (wide tight : ℕ → Bool) (page : ℕ) (sheet : Sheet)
    → ((slot : ℕ) → page ≡ 2 → slot < 16 → wide (slice_index sheet.words (2 + slot)) ≡ true → tight (slice_index sheet.words (2 + slot)) ≡ true)
    → ((s k : ℕ) → page ≢ 2 → is_start sheet s ≡ true → IsReferenceIn (map_at catalog sheet s) (tail_at sheet s) k
    → wide (slice_index sheet.words (s + 2 + k)) ≡ true → tight (slice_index sheet.words (s + 2 + k)) ≡ true)
    → HasForm catalog wide page sheet → HasForm catalog tight page sheet
form_by_places catalog wide tight page sheet slots places form = record {
  roots = λ e. (let r = form.roots e in record {
    words = r.words;
    starts = r.starts;
    head = r.head;
    second = r.second;
    roots = λ slot low. slots slot e low (r.roots slot low);
    rest = r.rest;
    empty = r.empty;
  });
  objects = λ apart. of apart (form.objects apart);
}
  where
    of : page ≢ 2 → (sheet ≡ blank_sheet) ⊎ HasObjects catalog wide page sheet → (sheet ≡ blank_sheet) ⊎ HasObjects catalog tight page sheet
    of apart (inl blank) = inl blank
    of apart (inr o) = inr (record {
      head = o.head;
      second = o.second;
      laid = o.laid;
      heads = o.heads;
      names = o.names;
      references = λ s k is item. places s k apart is item (o.references s k is item);
      padding = o.padding;
    })

module _ (catalog : List Fields) (st : State) (settled : IsSettled catalog st) where
  abbrev pub book : Book
  book = persistent_book BASE st

  -- what the persistent book knows lies below the high page
  pub known_below : (w : ℕ) → IsKnown book w → (w ≡ 0) ⊎ (page_in BASE w < st.high_page)
  known_below w (inl nil) = inl nil
  known_below w (inr is) = (let x = some_of (get book w) is in inr (settled.bounded.pages w x.0 x.1))

  -- the last image of a persistent page refers below the high page
  pub home_form : (pages page : ℕ) (sheet : Sheet) → IsHome BASE st page → get st.pages page ≡ Some sheet
      → HasForm catalog (is_memory_reference BASE pages) page sheet → HasForm catalog (is_memory_reference BASE st.high_page) page sheet
  home_form pages page sheet home on form =
      form_by_places catalog (is_memory_reference BASE pages) (is_memory_reference BASE st.high_page) page sheet
      (λ slot e low is. narrow BASE pages st.high_page (slice_index sheet.words (2 + slot)) is
      (known_below (slice_index sheet.words (2 + slot)) ((persistent_fits catalog BASE st settled.chronicled).roots slot sheet low (ap (get st.pages) (sym e) ∙ on))))
      (λ s k apart starts item is. narrow BASE pages st.high_page (slice_index sheet.words (s + 2 + k)) is (objects home apart s k starts item))
      form
    where
      objects : IsHome BASE st page → page ≢ 2 → (s k : ℕ) → is_start sheet s ≡ true → IsReferenceIn (map_at catalog sheet s) (tail_at sheet s) k
          → (slice_index sheet.words (s + 2 + k) ≡ 0) ⊎ (page_in BASE (slice_index sheet.words (s + 2 + k)) < st.high_page)
      objects (inl two) apart s k starts item = absurd (apart two)
      objects (inr (a, n, at, has)) apart s k starts item = settled.bounded.references a n s k sheet has (ap (get st.pages) at ∙ on) starts item

  -- a persistent page is of no space, and its last image is the page's
  pub home_image : (page : ℕ) → IsHome BASE st page → (get st.owner page ≡ None) × (get (all_images st) page ≡ get st.pages page)
  home_image page home = (let free = unowned home in (free, page_same catalog BASE st settled.chronicled page free))
    where
      unowned : IsHome BASE st page → get st.owner page ≡ None
      unowned (inl two) = ap (get st.owner) two ∙ settled.chronicled.roots_free
      unowned (inr (a, n, at, has)) = ap (get st.owner) (sym at) ∙ (off_cases BASE st.book st.owner a n has).0

  -- on such a page both books have the same objects
  pub home_named : (a n : ℕ) → IsHome BASE st (page_in BASE a) → get st.book a ≡ Some n → get book a ≡ Some n
  home_named a n home has = off_keeps BASE st.book st.owner a (home_image (page_in BASE a) home).0 ∙ has

  pub book_named : (a n : ℕ) → get book a ≡ Some n → get st.book a ≡ Some n
  book_named a n has = (off_cases BASE st.book st.owner a n has).1

  pub book_known : (w : ℕ) → IsKnown book w → IsKnown st.book w
  book_known w (inl nil) = inl nil
  book_known w (inr is) = (let x = some_of (get book w) is in inr (ap is_some (book_named w x.0 x.1)))

  -- the whole book fits what is left as well
  pub whole_fits : (h : Holding) (ops : List (Op × ℕ)) → Runs catalog st h ops → FitsImages catalog BASE st.book (left_images h)
  whole_fits h ops runs = record {
    one = settled.chronicled.fits.one;
    named = settled.chronicled.fits.named;
    objects = λ a n sheet has on. runs.fits.objects a n sheet (home_named a n (home a sheet on) has) on;
    references = λ a n k sheet has on is. book_known (slice_index sheet.words (word_in BASE a + 2 + k)) (runs.fits.references a n k sheet (home_named a n (home a sheet on) has) on is);
    roots = λ slot sheet low on. book_known (slice_index sheet.words (2 + slot)) (runs.fits.roots slot sheet low on);
  }
    where
      sheet_some : (o : Option PageImage) → is_some (sheet_in o) ≡ true → is_some o ≡ true
      sheet_some None is = is
      sheet_some (Some image) is = refl

      home : (a : ℕ) (sheet : Sheet) → get (left_images h) (page_in BASE a) ≡ Some sheet → IsHome BASE st (page_in BASE a)
      home a sheet on = (runs.homes (page_in BASE a) (sheet_some (image_in h (page_in BASE a)) (ap is_some (sym (get-left_images h (page_in BASE a)) ∙ on)))).0

none_held : (q : ℕ) → image_in nothing_held q ≡ None
none_held q = ap (λ (o : Option PageImage). option_or o None) (get-empty nat_cmp q)

pub transactions_begin : TransactionsBegin
transactions_begin catalog st settled = record {
  alone = refl;
  places = nothing_in_place;
  sound = sound_nothing catalog BASE (is_memory_reference BASE st.high_page);
  fits = fits_among catalog BASE (persistent_book BASE st) (left_images nothing_held) st.pages
      (λ q sheet is. absurd (some_none (get (left_images nothing_held) q) sheet is (get-left_images nothing_held q ∙ ap sheet_in (none_held q)))) (persistent_fits catalog BASE st settled.chronicled);
  last = λ page sheet is. absurd (some_none (get (found_images nothing_held) page) sheet is (nothing_in_place.found page (none_held page)));
  held = λ page is. absurd (there_none (image_in nothing_held page) is (none_held page));
  homes = λ page is. absurd (there_none (image_in nothing_held page) is (none_held page));
  run = refl;
  old = λ g. tt;
}

-- What was run on a part is run on it with another one beside it, whose names and roots neither part has.
pub record AreApart (f m : Part) : Type 0 where
  pub records : (n : ℕ) → is_some (get m.records n) ≡ true → get f.records n ≡ None
  pub roots : is_some m.roots ≡ true → f.roots ≡ None

module _ (frame : FrameOfRuns) (catalog : List Fields) (ops : List (Op × ℕ)) (f l m : Part) (run : IsRun catalog ops f l)
    (f_apart : AreApart f m) (l_apart : AreApart l m) (same_roots : l.roots ≡ None → f.roots ≡ None) (new : AreNewTo (with_part f m) ops) where
  over : (o p : Option Record) → (is_some p ≡ true → o ≡ None) → (r : Record) → o ≡ Some r → option_or p o ≡ Some r
  over o None apart r is = is
  over o (Some x) apart r is = absurd (some_none o r is (apart refl))

  over_roots : (o p : Option (List ℕ)) → (is_some p ≡ true → o ≡ None) → (r : List ℕ) → o ≡ Some r → option_or p o ≡ Some r
  over_roots o None apart r is = is
  over_roots o (Some x) apart r is = absurd (some_none o r is (apart refl))

  part : PartOf f (with_part f m)
  part = record {
    records = λ n r is. get-with_part f m n ∙ over (get f.records n) (get m.records n) (f_apart.records n) r is;
    roots = λ names is. over_roots f.roots m.roots f_apart.roots names is;
  }

  -- what was left hides what was found, and the other part is beside both
  swap : {A : Type 0} (a b c : Option A) → (is_some b ≡ true → c ≡ None) → (c ≡ None → a ≡ None) → option_or c (option_or b a) ≡ option_or b c
  swap a None None apart gone = gone refl
  swap a (Some x) None apart gone = refl
  swap a None (Some y) apart gone = refl
  swap a (Some x) (Some y) apart gone = absurd (some_none (Some y) y refl (apart refl))

  kept : (n : ℕ) → get l.records n ≡ None → get f.records n ≡ None
  kept n none = none_if (get f.records n) (λ r is. there_none (get l.records n) ((run_grows catalog ops f l run).kept n (ap is_some is)) none)

  joined : with_part (with_part f m) l ≡ with_part l m
  joined = same_part (with_part (with_part f m) l) (with_part l m)
      (λ q. get-with_part (with_part f m) l q ∙ ap (option_or (get l.records q)) (get-with_part f m q)
      ∙ swap (get f.records q) (get m.records q) (get l.records q) (l_apart.records q) (kept q) ∙ sym (get-with_part l m q))
      (swap f.roots m.roots l.roots l_apart.roots same_roots)

  pub run_beside : IsRun catalog ops (with_part f m) (with_part l m)
  run_beside = subst (IsRun catalog ops (with_part f m)) joined (frame catalog ops f (with_part f m) l part new run)

pub pages_are_admitted : FrameOfRuns → PagesAreAdmitted
pages_are_admitted frame catalog pages st h ops image settled absent on home above sound runs = record {
  alone = runs.alone;
  places = admitted_in_place h runs.places image absent;
  sound = sound_admitted catalog BASE (is_memory_reference BASE st.high_page) h image (home_form catalog st settled pages image.page image.sheet home on sound) runs.sound;
  fits = fits_joined catalog BASE book_now (left_images h) (alone image) (left_images (admitted h image)) (left_joined h image absent) runs.fits alone_fits;
  last = last;
  held = held;
  homes = homes;
  run = subst (λ (p : Part). IsRun catalog ops p (left_part catalog BASE st.book (admitted h image))) (sym found_shown)
      (subst (λ (p : Part). IsRun catalog ops (with_part (found_part catalog BASE st.book h) (shown catalog BASE st.book (alone image))) p) (sym left_shown)
      (run_beside frame catalog ops (found_part catalog BASE st.book h) (left_part catalog BASE st.book h) (shown catalog BASE st.book (alone image)) runs.run
      (apart (found_images h) found_off) (apart (left_images h) left_off) found_roots (runs.old (with_part (found_part catalog BASE st.book h) (shown catalog BASE st.book (alone image))))));
  old = runs.old;
}
  where
    book_now : Book
    book_now = persistent_book BASE st

    alone_last : (q : ℕ) (sheet : Sheet) → get (alone image) q ≡ Some sheet → get st.pages q ≡ Some sheet
    alone_last q sheet is = elim (cases_eq q image.page) [
      | inl e ↦ ap (get st.pages) e ∙ on ∙ sym (sheet_same empty image.page q image.sheet e) ∙ is
      | inr ne ↦ absurd (some_none (get (alone image) q) sheet is (none_else image q ne))
    ]

    alone_fits : FitsImages catalog BASE book_now (alone image)
    alone_fits = fits_among catalog BASE book_now (alone image) st.pages alone_last (persistent_fits catalog BASE st settled.chronicled)

    joined_cases : (images both_ : Images) → AreJoined images (alone image) both_ → (q : ℕ) (sheet : Sheet) → get both_ q ≡ Some sheet
        → (get (alone image) q ≡ Some sheet) ⊎ (get images q ≡ Some sheet)
    joined_cases images both_ joined_ q sheet is = of (get (alone image) q) refl
      where
        of : (o : Option Sheet) → get (alone image) q ≡ o → (get (alone image) q ≡ Some sheet) ⊎ (get images q ≡ Some sheet)
        of None none = inr (sym (joined_.each q ∙ ap (λ (o : Option Sheet). option_or o (get images q)) none) ∙ is)
        of (Some x) has = inl (has ∙ sym (joined_.each q ∙ ap (λ (o : Option Sheet). option_or o (get images q)) has) ∙ is)

    last : (page : ℕ) (sheet : Sheet) → get (found_images (admitted h image)) page ≡ Some sheet → get (all_images st) page ≡ Some sheet
    last page sheet is = of (joined_cases (found_images h) (found_images (admitted h image)) (found_joined h image absent runs.places) page sheet is)
      where
        here : get (alone image) page ≡ Some sheet → page ≡ image.page
        here there = elim (cases_eq page image.page) [
          | inl e ↦ e
          | inr ne ↦ absurd (some_none (get (alone image) page) sheet there (none_else image page ne))
        ]

        of : (get (alone image) page ≡ Some sheet) ⊎ (get (found_images h) page ≡ Some sheet) → get (all_images st) page ≡ Some sheet
        of (inl new) = (home_image catalog st settled page (subst (IsHome BASE st) (sym (here new)) home)).1 ∙ alone_last page sheet new
        of (inr old) = runs.last page sheet old

    or_some : {A : Type 0} (o p : Option A) → (is_some o ≡ true) ⊎ (is_some p ≡ true) → is_some (option_or o p) ≡ true
    or_some None p (inl is) = absurd (cc is)
    or_some None p (inr is) = is
    or_some (Some x) p is = refl

    held : (page : ℕ) → is_some (image_in (admitted h image) page) ≡ true → is_some (get (found_images (admitted h image)) page) ≡ true
    held page is = ap is_some ((found_joined h image absent runs.places).each page) ∙ or_some (get (alone image) page) (get (found_images h) page) (elim (cases_eq page image.page) [
      | inl e ↦ inl (ap is_some (sheet_same empty image.page page image.sheet e))
      | inr ne ↦ inr (runs.held page (ap is_some (sym (left_else h image absent page ne)) ∙ is))
    ])

    homes : (page : ℕ) → is_some (image_in (admitted h image) page) ≡ true → IsHome BASE st page × (2 ≤ page)
    homes page is = elim (cases_eq page image.page) [
      | inl e ↦ (subst (IsHome BASE st) (sym e) home, subst (λ (n : ℕ). 2 ≤ n) (sym e) above)
      | inr ne ↦ runs.homes page (ap is_some (sym (left_else h image absent page ne)) ∙ is)
    ]

    found_shown : found_part catalog BASE st.book (admitted h image) ≡ with_part (found_part catalog BASE st.book h) (shown catalog BASE st.book (alone image))
    found_shown = shown_joined catalog BASE st.book (found_images h) (alone image) (found_images (admitted h image)) (found_joined h image absent runs.places)

    left_shown : left_part catalog BASE st.book (admitted h image) ≡ with_part (left_part catalog BASE st.book h) (shown catalog BASE st.book (alone image))
    left_shown = shown_joined catalog BASE st.book (left_images h) (alone image) (left_images (admitted h image)) (left_joined h image absent)

    found_off : get (found_images h) image.page ≡ None
    found_off = runs.places.found image.page absent

    left_off : get (left_images h) image.page ≡ None
    left_off = get-left_images h image.page ∙ ap sheet_in absent

    -- images without the page show nothing of what it shows
    apart : (images : Images) → get images image.page ≡ None → AreApart (shown catalog BASE st.book images) (shown catalog BASE st.book (alone image))
    apart images off = record {
      records = λ n is. none_if (get (shown_records catalog BASE st.book images) n) (λ r has. one n r has (some_of (get (shown_records catalog BASE st.book (alone image)) n) is));
      roots = λ is. elim (cases_eq 2 image.page) [
        | inl e ↦ ap (roots_in catalog BASE st.book images) (ap (get images) e ∙ off)
        | inr ne ↦ absurd (there_none (roots_in catalog BASE st.book (alone image) (get (alone image) 2)) is (ap (roots_in catalog BASE st.book (alone image)) (none_else image 2 ne)))
      ];
    }
      where
        page_is : (a : ℕ) (r : Record) → object_at st.book catalog BASE (alone image) a ≡ Some r → page_in BASE a ≡ image.page
        page_is a r is = elim (cases_eq (page_in BASE a) image.page) [
          | inl e ↦ e
          | inr ne ↦ absurd (some_none (object_at st.book catalog BASE (alone image) a) r is (nothing_at catalog BASE st.book (alone image) a (none_else image (page_in BASE a) ne)))
        ]

        one : (n : ℕ) (r : Record) → get (shown_records catalog BASE st.book images) n ≡ Some r
            → (x : Record) × (get (shown_records catalog BASE st.book (alone image)) n ≡ Some x) → ⊥
        one n r has (x, also) =
            let mine = shown_from catalog BASE st.book images n r has in
            let its = shown_from catalog BASE st.book (alone image) n x also in
            let same : mine.0 ≡ its.0 = settled.chronicled.fits.one mine.0 its.0 n mine.1 its.1 in
            some_none (object_at st.book catalog BASE images mine.0) r mine.2
            (nothing_at catalog BASE st.book images mine.0 (ap (get images) (ap (page_in BASE) same ∙ page_is its.0 x its.2) ∙ off))

    -- page 2 was found where it is held
    found_roots : (left_part catalog BASE st.book h).roots ≡ None → (found_part catalog BASE st.book h).roots ≡ None
    found_roots none = of (get (left_images h) 2) refl
      where
        no_image : (o : Option PageImage) → sheet_in o ≡ None → o ≡ None
        no_image None is = refl
        no_image (Some x) is = absurd (cc is)

        of : (o : Option Sheet) → get (left_images h) 2 ≡ o → (found_part catalog BASE st.book h).roots ≡ None
        of None off = ap (roots_in catalog BASE st.book (found_images h)) (runs.places.found 2 (no_image (image_in h 2) (sym (get-left_images h 2) ∙ off)))
        of (Some sheet) has = absurd (some_none (roots_in catalog BASE st.book (left_images h) (get (left_images h) 2)) _ (ap (roots_in catalog BASE st.book (left_images h)) has) none)
