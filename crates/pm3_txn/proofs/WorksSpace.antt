-- A transaction goes on with its space.
use Rattle.std.proofs.Common.{◌≡◌, ◌∙◌, ◌⊎◌, ◌||◌, ◌&&◌, inl, inr, ℕ, Bool, true, false, List, Option, Some, None, is_some, refl, sym, ap, subst}
use Rattle.std.specs.Option.{option_or}
use Rattle.std.specs.Ordering.{nat_cmp}
use Rattle.std.specs.FinMap.{get, get-empty}
use Rattle.pm3_core.specs.declared.naming.TheConstants.{BASE}
use Rattle.pm3_types.specs.Fields.{Fields}
use Rattle.pm3_types.specs.Graph.{Part}
use Rattle.pm3_types.specs.Layout.{Sheet, PageImage, page_in}
use Rattle.pm3_types.specs.PageForm.{is_memory_reference}
use Rattle.pm3_types.specs.Shown.{Book, Images, FitsImages, shown, roots_in}
use Rattle.pm3_graph.specs.declared.operations.Op.{Op}
use Rattle.pm3_graph.specs.Frame.{FrameOfRuns}
use Rattle.pm3_graph.specs.Operation.{IsRun}
use Rattle.pm3_page.specs.PageMap.{IsAtHome}
use Rattle.pm3_page.specs.PageSheets.{sheet_in, sheets_of}
use Rattle.pm3_page.proofs.SheetsOf.{get-sheets_of}
use Rattle.pm3_access.specs.Acts.{left_images, found_images, space_left}
use Rattle.pm3_access.specs.Holding.{Holding, HeldImages, HeldSpaceState, SpaceState, image_in, with_held_space}
use Rattle.pm3_access.specs.Sound.{ImagesHaveForm}
use Rattle.pm3_access.proofs.AdmitSteps.{space_left_joined, space_found_joined}
use Rattle.pm3_access.proofs.HeldSheets.{get-left_images}
use Rattle.pm3_access.proofs.InPlace.{space_in_place}
use Rattle.pm3_access.proofs.JoinedParts.{AreJoined, fits_joined}
use Rattle.pm3_access.proofs.SoundingHeld.{sound_held_space}
use Rattle.pm3_access.proofs.SoundingPages.{form_for_more}
use Rattle.pm3_history.specs.Homes.{IsHome}
use Rattle.pm3_history.specs.Persistent.{persistent_book}
use Rattle.pm3_history.specs.Spaces.{AreOfSpace}
use Rattle.pm3_history.specs.State.{State, all_images}
use Rattle.pm3_history.proofs.Committing.{fits_among}
use Rattle.pm3_history.proofs.Holding.{shown_alike}
use Rattle.pm3_history.proofs.Laying.{some_none, there_none, none_if, off_cases}
use Rattle.pm3_txn.specs.TransactionLaws.{IsSettled}
use Rattle.pm3_txn.specs.Works.{Works, IsOwnName, AllMake, book_with, is_own_object, may_hold}
use Rattle.pm3_txn.specs.WorkLaws.{WorksTakeSpace}
use Rattle.pm3_txn.proofs.Admitting.{home_image}
use Rattle.pm3_txn.proofs.OwnBooks.{AreOver, last_owner, last_image, found_known, with_old}
use Rattle.pm3_txn.proofs.WorksBegin.{no_own_object, no_own, book_empty}
use Rattle.pm3_txn.proofs.WorksFound.{left_over, found_over, found_fits}
use Rattle.pm3_txn.proofs.WorksGo.{all_map}
use Rattle.pm3_txn.proofs.WorksGrow.{grown_run, shows_no_new, with_fits}

no_image : (o : Option PageImage) → sheet_in o ≡ None → o ≡ None
no_image None is = refl
no_image (Some x) is = absurd (cc is)

-- page 2 was found where it is held
pub roots_found : (catalog : List Fields) (found_by left_by : Book) (h : Holding) → ((q : ℕ) → image_in h q ≡ None → get (found_images h) q ≡ None)
    → (shown catalog BASE left_by (left_images h)).roots ≡ None → (shown catalog BASE found_by (found_images h)).roots ≡ None
roots_found catalog found_by left_by h found none = of (get (left_images h) 2) refl
  where
    of : (o : Option Sheet) → get (left_images h) 2 ≡ o → (shown catalog BASE found_by (found_images h)).roots ≡ None
    of None off = ap (roots_in catalog BASE found_by (found_images h)) (found 2 (no_image (image_in h 2) (sym (get-left_images h 2) ∙ off)))
    of (Some sheet) has = absurd (some_none (roots_in catalog BASE left_by (left_images h) (get (left_images h) 2)) _ (ap (roots_in catalog BASE left_by (left_images h)) has) none)

or_more : (a b c d : Bool) → d ≡ false → (a || (b && d)) ≡ true → (a || (b && c)) ≡ true
or_more true b c d none is = refl
or_more false true c d none is = absurd (cc)
or_more false false c d none is = absurd (cc is)

-- of a transaction that holds these pages alone
module _ (frame : FrameOfRuns) (catalog : List Fields) (pages : ℕ) (st : State) (settled : IsSettled catalog st) (p : HeldImages) (ops : List (Op × ℕ)) (space : SpaceState)
    (of : AreOfSpace st space.number (sheets_of space.images)) (at_home : IsAtHome space.images) (form : ImagesHaveForm catalog (is_memory_reference BASE pages) space.images) where
  abbrev h : Holding
  h = record { pages = p; space = None }

  abbrev new : Holding
  new = with_held_space h space

  abbrev own : Images
  own = sheets_of space.images

  module _ (works : Works catalog pages st h ops) where
    free : (q : ℕ) → get st.owner q ≡ None → get own q ≡ None
    free q unowned = none_if (get own q) (λ sheet on. some_none (get st.owner q) space.number (last_owner catalog st settled space.number own of q sheet on) unowned)

    home_free : (q : ℕ) → IsHome BASE st q → get own q ≡ None
    home_free q home = free q (home_image catalog st settled q home).0

    not_held : (q : ℕ) → is_some (get space.images q) ≡ true → get p.left q ≡ None
    not_held q is = none_if (get p.left q) (λ image on.
        there_none (get space.images q) is (no_image (get space.images q) (sym (get-sheets_of space.images q) ∙ home_free q (works.homes q (ap is_some on)).0)))

    absent : (q : ℕ) → is_some (get space.images q) ≡ true → image_in h q ≡ None
    absent q is = ap (λ (o : Option PageImage). option_or o None) (not_held q is)

    homes_found : (q : ℕ) → is_some (get p.found q) ≡ true → IsHome BASE st q
    homes_found q is = (works.homes q (sym (works.held q) ∙ is)).0

    left_joined : AreJoined (left_images h) own (left_images new)
    left_joined = space_left_joined h space refl absent

    found_joined : AreJoined (found_images h) own (found_images new)
    found_joined = space_found_joined h space refl absent works.places

    last : (q : ℕ) (sheet : Sheet) → get (found_images new) q ≡ Some sheet → get (all_images st) q ≡ Some sheet
    last q sheet is = by (get own q) refl
      where
        by : (o : Option Sheet) → get own q ≡ o → get (all_images st) q ≡ Some sheet
        by None none = works.last q sheet (sym (found_joined.each q ∙ ap (λ (o : Option Sheet). option_or o (get (found_images h) q)) none) ∙ is)
        by (Some x) has =
            last_image catalog st settled space.number own of q sheet (has ∙ sym (found_joined.each q ∙ ap (λ (o : Option Sheet). option_or o (get (found_images h) q)) has) ∙ is)

    fit : FitsImages catalog BASE (book_with st own) (found_images new)
    fit = found_fits catalog st settled new of homes_found last

    own_fits : FitsImages catalog BASE (book_with st own) own
    own_fits = fits_among catalog BASE (book_with st own) own (found_images new)
        (λ q sheet on. found_joined.each q ∙ ap (λ (o : Option Sheet). option_or o (get (found_images h) q)) on) fit

    off_own : (images : Images) → AreOver st (space_left None) images → (q : ℕ) (sheet : Sheet) → get images q ≡ Some sheet → get own q ≡ None
    off_own images over q sheet on = by (over q sheet on)
      where
        by : ((get (space_left None) q ≡ None) × IsHome BASE st q) ⊎ (get (space_left None) q ≡ Some sheet) → get own q ≡ None
        by (inl home) = home_free q home.1
        by (inr none) = absurd (some_none (get (space_left None) q) sheet none (get-empty nat_cmp q))

    left_off : (q : ℕ) (sheet : Sheet) → get (left_images h) q ≡ Some sheet → get own q ≡ None
    left_off = off_own (left_images h) (left_over st h works.places (λ k is. (works.homes k is).0))

    found_off : (q : ℕ) (sheet : Sheet) → get (found_images h) q ≡ Some sheet → get own q ≡ None
    found_off = off_own (found_images h) (found_over catalog st settled h tt homes_found)

    apart : (a n : ℕ) → get (persistent_book BASE st) a ≡ Some n → get own (page_in BASE a) ≡ None
    apart a n has = free (page_in BASE a) (off_cases BASE st.book st.owner a n has).0

    left_old : FitsImages catalog BASE (persistent_book BASE st) (left_images h)
    left_old = subst (λ (b : Book). FitsImages catalog BASE b (left_images h)) (book_empty st) works.fits

    found_old : FitsImages catalog BASE (persistent_book BASE st) (found_images h)
    found_old = subst (λ (b : Book). FitsImages catalog BASE b (found_images h)) (book_empty st) (found_fits catalog st settled h tt homes_found works.last)

    left_fits : FitsImages catalog BASE (book_with st own) (left_images h)
    left_fits = with_fits catalog st own (left_images h) fit.one fit.named left_off left_old

    same : (images : Images) → FitsImages catalog BASE (persistent_book BASE st) images → ((q : ℕ) (sheet : Sheet) → get images q ≡ Some sheet → get own q ≡ None)
        → shown catalog BASE (book_with st own) images ≡ shown catalog BASE (persistent_book BASE st) images
    same images fits off = shown_alike catalog BASE images (persistent_book BASE st) (book_with st own) fits fit.one
        (λ a n has. with_old st own a (apart a n has) ∙ has)
        (λ a n sheet on has. sym (with_old st own a (off (page_in BASE a) sheet on)) ∙ has)

    run_now : IsRun catalog ops (shown catalog BASE (book_with st own) (found_images h)) (shown catalog BASE (book_with st own) (left_images h))
    run_now = subst (λ (x : Part). IsRun catalog ops x (shown catalog BASE (book_with st own) (left_images h))) (sym (same (found_images h) found_old found_off))
        (subst (λ (x : Part). IsRun catalog ops (shown catalog BASE (persistent_book BASE st) (found_images h)) x) (sym (same (left_images h) left_old left_off))
        (subst (λ (b : Book). IsRun catalog ops (shown catalog BASE b (found_images h)) (shown catalog BASE b (left_images h))) (book_empty st) works.run))

    new_now : AllMake (IsOwnName st own) ops
    new_now = all_map (IsOwnName st (space_left None)) (IsOwnName st own) (λ n is. absurd (no_own is.address n is.has)) ops works.new

    pub taken : Works catalog pages st new ops
    taken = record {
      places = space_in_place h works.places space refl (λ page image on. at_home page image on) absent;
      form = sound_held_space catalog BASE (is_memory_reference BASE pages) h space refl form works.form;
      sound = λ page image on. form_for_more catalog (may_hold pages st h) (may_hold pages st new)
          (λ a. or_more (is_memory_reference BASE st.high_page a) (is_memory_reference BASE pages a) (is_own_object new a) (is_own_object h a) (no_own_object a)) image.page image.sheet (works.sound page image on);
      fits = fits_joined catalog BASE (book_with st own) (left_images h) own (left_images new) left_joined left_fits own_fits;
      last = last;
      held = works.held;
      homes = works.homes;
      space = of;
      apart = λ a n has. no_image (get space.images (page_in BASE a)) (sym (get-sheets_of space.images (page_in BASE a)) ∙ apart a n has);
      old = λ a n has. inl has;
      run = grown_run frame catalog ops (found_images h) (left_images h) own (found_images new) (left_images new) (book_with st own) (book_with st own)
          found_joined left_joined fit.one fit.one refl run_now (roots_found catalog (book_with st own) (book_with st own) h works.places.found)
          (shows_no_new catalog st own (book_with st own) (found_images new) ops settled.chronicled (found_known catalog st settled new.space of) new_now);
      new = new_now;
    }

-- of the space by itself, so that it can be none
taken_by : FrameOfRuns → (catalog : List Fields) (pages : ℕ) (st : State) (p : HeldImages) (s : Option HeldSpaceState) (ops : List (Op × ℕ)) (space : SpaceState) → IsSettled catalog st
    → s ≡ None → AreOfSpace st space.number (sheets_of space.images) → IsAtHome space.images → ImagesHaveForm catalog (is_memory_reference BASE pages) space.images
    → Works catalog pages st (record { pages = p; space = s }) ops → Works catalog pages st (with_held_space (record { pages = p; space = s }) space) ops
taken_by frame catalog pages st p (Some s) ops space settled none of at_home form works = absurd (some_none (Some s) s refl none)
taken_by frame catalog pages st p None ops space settled none of at_home form works = taken frame catalog pages st settled p ops space of at_home form works

pub works_take_space : FrameOfRuns → WorksTakeSpace
works_take_space frame catalog pages st h ops space settled none of at_home form works =
    taken_by frame catalog pages st h.pages h.space ops space settled none of at_home form works
