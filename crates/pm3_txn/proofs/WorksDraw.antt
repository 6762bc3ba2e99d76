-- A transaction goes on with other free pages, and with a page drawn into its space.
use Rattle.std.proofs.Common.{◌≡◌, ◌≢◌, ◌≤◌, ◌⊎◌, ◌∙◌, ◌||◌, ◌&&◌, inl, inr, ℕ, Bool, true, false, List, Option, Some, None, is_some, refl, sym, ap, subst, arith}
use Rattle.std.proofs.lemmas.Bool.{cases_eq, and_parts, false≢true}
use Rattle.std.specs.Prelude.{slice_index, not}
use Rattle.std.specs.Cmp.{nat_cmp_total}
use Rattle.std.specs.FinMap.{get, insert, nat_cmp-IsAntisymmetric, same_map}
use Rattle.pm3_core.specs.declared.naming.TheConstants.{BASE}
use Rattle.pm3_types.specs.Fields.{Fields}
use Rattle.pm3_types.specs.Graph.{Part}
use Rattle.pm3_types.specs.Layout.{Sheet, PageImage, blank_sheet, page_in, word_in, is_start, is_forwarded}
use Rattle.pm3_types.specs.PageForm.{is_memory_reference}
use Rattle.pm3_types.specs.Shown.{Book, Images, FitsImages, shown}
use Rattle.pm3_types.proofs.FormedObjects.{blank_starts}
use Rattle.pm3_types.proofs.Parts.{same_option}
use Rattle.pm3_graph.specs.declared.operations.Op.{Op}
use Rattle.pm3_graph.specs.Operation.{IsRun}
use Rattle.pm3_page.specs.PageSheets.{sheet_in}
use Rattle.pm3_page.proofs.SheetsOf.{get-sheets_of}
use Rattle.pm3_access.specs.Acts.{left_images, found_images, space_left}
use Rattle.pm3_access.specs.FreeList.{Numbers}
use Rattle.pm3_access.specs.Holding.{Holding, HeldImages, HeldSpaceState, image_in, with_free, grown, by_space}
use Rattle.pm3_access.proofs.GrowSteps.{still_in_place, left_drawn, nothing_shown, blank_fits}
use Rattle.pm3_access.proofs.HeldSheets.{get-left_images}
use Rattle.std.specs.Option.{option_or}
use Rattle.pm3_access.proofs.Homes as images_at
use Rattle.pm3_access.proofs.InPlace.{grown_in_place}
use Rattle.pm3_access.proofs.SoundingHeld.{sound_grown}
use Rattle.pm3_access.proofs.SoundingPages.{form_for_more}
use Rattle.pm3_history.specs.Laid.{laid}
use Rattle.pm3_history.specs.Named.{IsNamedOn, book_of}
use Rattle.pm3_history.specs.Persistent.{persistent_book}
use Rattle.pm3_history.specs.State.{State}
use Rattle.pm3_history.proofs.Laying.{some_none, there_none, one_value}
use Rattle.pm3_history.proofs.NamedOn.{book_of_named, book_of_has}
use Rattle.pm3_txn.specs.Works.{Works, IsOwnName, left_book, found_book, is_own_object, may_hold}
use Rattle.pm3_txn.specs.WorkLaws.{WorksGrow, WorksFree}
use Rattle.pm3_txn.proofs.OwnBooks.{own_on, with_cases}
use Rattle.pm3_txn.proofs.WorksGo.{all_map}

-- of the space by itself, so that it can be none
free_by : (catalog : List Fields) (pages : ℕ) (st : State) (p : HeldImages) (s : Option HeldSpaceState) (ops : List (Op × ℕ)) (free : HeldSpaceState → Numbers) (room : HeldSpaceState → ℕ)
    → Works catalog pages st (record { pages = p; space = s }) ops → Works catalog pages st (by_space (λ t. with_free t (free t) (room t)) (record { pages = p; space = s })) ops
free_by catalog pages st p None ops free room works = works
free_by catalog pages st p (Some s) ops free room works = record {
  places = still_in_place (record { pages = p; space = Some s }) (λ t. with_free t (free t) (room t)) (λ t. refl) works.places;
  form = works.form;
  sound = works.sound;
  fits = works.fits;
  last = works.last;
  held = works.held;
  homes = works.homes;
  space = works.space;
  apart = works.apart;
  old = works.old;
  run = works.run;
  new = works.new;
}

pub works_free : WorksFree
works_free catalog pages st h ops free room works = free_by catalog pages st h.pages h.space ops free room works

or_up : (a b c d : Bool) → (c ≡ true → d ≡ true) → (a || (b && c)) ≡ true → (a || (b && d)) ≡ true
or_up true b c d up is = refl
or_up false true c d up is = up is
or_up false false c d up is = is

-- a blank page is drawn into the space
module _ (p : HeldImages) (s : HeldSpaceState) (image : PageImage) (absent : image_in (record { pages = p; space = Some s }) image.page ≡ None) (blank : image.sheet ≡ blank_sheet) where
  abbrev h : Holding
  h = record { pages = p; space = Some s }

  abbrev new : Holding
  new = record { pages = p; space = Some (grown s image) }

  off : get s.images.left image.page ≡ None
  off = second (get p.left image.page) (get s.images.left image.page) absent
    where
      second : (o u : Option PageImage) → option_or o u ≡ None → u ≡ None
      second None u is = is
      second (Some x) u is = absurd (some_none (Some x) x refl is)

  here : (q : ℕ) → q ≡ image.page → get (space_left new.space) q ≡ Some blank_sheet
  here q e = get-sheets_of (insert s.images.left image.page image) q ∙ ap sheet_in (images_at.get_same s.images.left image.page q image e) ∙ ap Some blank

  other : (q : ℕ) → q ≢ image.page → get (space_left new.space) q ≡ get (space_left h.space) q
  other q ne = get-sheets_of (insert s.images.left image.page image) q ∙ ap sheet_in (images_at.get_other s.images.left image.page q image ne) ∙ sym (get-sheets_of s.images.left q)

  away_own : (a n : ℕ) → get (book_of BASE (space_left h.space)) a ≡ Some n → page_in BASE a ≢ image.page
  away_own a n has e = there_none (get (space_left h.space) (page_in BASE a)) (own_on (space_left h.space) a n has)
      (ap (get (space_left h.space)) e ∙ get-sheets_of s.images.left image.page ∙ ap sheet_in off)

  moved : (now then : Images) (a n : ℕ) → get now (page_in BASE a) ≡ get then (page_in BASE a) → IsNamedOn BASE then a n → IsNamedOn BASE now a n
  moved now then a n same is = record { sheet = is.sheet; on = same ∙ is.on; address = is.address; unmoved = is.unmoved; named = is.named }

  kept : (a n : ℕ) → get (book_of BASE (space_left h.space)) a ≡ Some n → get (book_of BASE (space_left new.space)) a ≡ Some n
  kept a n has = book_of_has BASE (space_left new.space) a n
      (moved (space_left new.space) (space_left h.space) a n (other (page_in BASE a) (away_own a n has)) (book_of_named BASE (space_left h.space) a n has))

  back : (a n : ℕ) → get (book_of BASE (space_left new.space)) a ≡ Some n → get (book_of BASE (space_left h.space)) a ≡ Some n
  back a n has =
      let is = book_of_named BASE (space_left new.space) a n has in
      elim (cases_eq (page_in BASE a) image.page) [
        | inl e ↦ (let same : is.sheet ≡ blank_sheet = one_value (get (space_left new.space) (page_in BASE a)) is.sheet blank_sheet is.on (here (page_in BASE a) e) in
            absurd (false≢true (sym (ap (λ (x : Sheet). is_start x (word_in BASE a)) same ∙ blank_starts 512 (word_in BASE a))
            ∙ (and_parts (is_start is.sheet (word_in BASE a)) (not (is_forwarded (slice_index is.sheet.words (word_in BASE a)))) is.unmoved).0)))
        | inr ne ↦ book_of_has BASE (space_left h.space) a n (moved (space_left h.space) (space_left new.space) a n (sym (other (page_in BASE a) ne)) is)
      ]

  pub grown_own : book_of BASE (space_left new.space) ≡ book_of BASE (space_left h.space)
  grown_own = same_map nat_cmp_total nat_cmp-IsAntisymmetric (book_of BASE (space_left new.space)) (book_of BASE (space_left h.space))
      (λ a. same_option (get (book_of BASE (space_left new.space)) a) (get (book_of BASE (space_left h.space)) a) (back a) (kept a))

  module _ (catalog : List Fields) (pages : ℕ) (st : State) (ops : List (Op × ℕ)) (high : 3 ≤ image.page)
      (away : (a n : ℕ) → get (persistent_book BASE st) a ≡ Some n → page_in BASE a ≢ image.page) (works : Works catalog pages st h ops) where
    book : left_book st new ≡ left_book st h
    book = ap (laid (persistent_book BASE st)) grown_own

    apart_two : image.page ≢ 2
    apart_two e = omega (arith, high, e)

    away_book : (a n : ℕ) → get (left_book st h) a ≡ Some n → page_in BASE a ≢ image.page
    away_book a n has = of (with_cases st (space_left h.space) a n has)
      where
        of : (get (book_of BASE (space_left h.space)) a ≡ Some n) ⊎ ((get (book_of BASE (space_left h.space)) a ≡ None) × (get (persistent_book BASE st) a ≡ Some n)) → page_in BASE a ≢ image.page
        of (inl mine) = away_own a n mine
        of (inr old) = away a n old.1

    drawn : left_images new ≡ insert (left_images h) image.page blank_sheet
    drawn = left_drawn h image refl absent ∙ ap (insert (left_images h) image.page) blank

    left_off : get (left_images h) image.page ≡ None
    left_off = get-left_images h image.page ∙ ap sheet_in absent

    pub grown_more : Works catalog pages st new ops
    grown_more = record {
      places = grown_in_place h works.places image absent;
      form = sound_grown catalog BASE (is_memory_reference BASE pages) h image blank high works.form;
      sound = λ q x on. form_for_more catalog (may_hold pages st h) (may_hold pages st new)
          (λ a. or_up (is_memory_reference BASE st.high_page a) (is_memory_reference BASE pages a) (is_own_object h a) (is_own_object new a) (λ is. ap (λ (b : Book). is_some (get b a)) grown_own ∙ is))
          x.page x.sheet (works.sound q x on);
      fits = subst (λ (b : Book). FitsImages catalog BASE b (left_images new)) (sym book)
          (subst (FitsImages catalog BASE (left_book st h)) (sym drawn) (blank_fits catalog BASE (left_book st h) (left_images h) image.page left_off apart_two away_book works.fits));
      last = works.last;
      held = works.held;
      homes = works.homes;
      space = works.space;
      apart = λ a n has. images_at.get_other s.images.left image.page (page_in BASE a) image (away a n has) ∙ works.apart a n has;
      old = λ a n has. works.old a n (back a n has);
      run = subst (λ (x : Part). IsRun catalog ops (shown catalog BASE (found_book st h) (found_images h)) x)
          (sym (ap (λ (b : Book). shown catalog BASE b (left_images new)) book ∙ ap (shown catalog BASE (left_book st h)) drawn
          ∙ nothing_shown catalog BASE (left_book st h) (left_images h) image.page left_off apart_two)) works.run;
      new = all_map (IsOwnName st (space_left h.space)) (IsOwnName st (space_left new.space)) (λ n is. record { address = is.address; has = kept is.address n is.has; new = is.new }) ops works.new;
    }

grown_by : (catalog : List Fields) (pages : ℕ) (st : State) (p : HeldImages) (s : Option HeldSpaceState) (ops : List (Op × ℕ)) (image : PageImage)
    → is_some s ≡ true → image_in (record { pages = p; space = s }) image.page ≡ None → image.sheet ≡ blank_sheet → 3 ≤ image.page
    → ((a n : ℕ) → get (persistent_book BASE st) a ≡ Some n → page_in BASE a ≢ image.page)
    → Works catalog pages st (record { pages = p; space = s }) ops → Works catalog pages st (by_space (λ t. grown t image) (record { pages = p; space = s })) ops
grown_by catalog pages st p None ops image is absent blank high away works = absurd (cc is)
grown_by catalog pages st p (Some s) ops image is absent blank high away works = grown_more p s image absent blank catalog pages st ops high away works

pub works_grow : WorksGrow
works_grow catalog pages st h ops image is absent blank high away works = grown_by catalog pages st h.pages h.space ops image is absent blank high away works
