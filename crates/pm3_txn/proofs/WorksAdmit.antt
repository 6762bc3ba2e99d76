-- A transaction goes on with one more persistent page.
use Rattle.std.proofs.Common.{◌≡◌, ◌≤◌, ◌∙◌, ◌⊎◌, ◌||◌, ◌&&◌, inl, inr, ℕ, Bool, true, Option, Some, None, is_some, refl, sym, ap, subst}
use Rattle.std.proofs.lemmas.Bool.{cases_eq}
use Rattle.std.specs.Option.{option_or}
use Rattle.std.specs.FinMap.{get, empty}
use Rattle.pm3_core.specs.declared.naming.TheConstants.{BASE}
use Rattle.pm3_types.specs.Layout.{Sheet, PageImage, page_in}
use Rattle.pm3_types.specs.PageForm.{HasForm, is_memory_reference}
use Rattle.pm3_types.specs.Shown.{Images, FitsImages, IsOneToOne, shown, roots_in}
use Rattle.pm3_graph.specs.Frame.{FrameOfRuns}
use Rattle.pm3_page.specs.PageSheets.{sheet_in}
use Rattle.pm3_access.specs.Acts.{left_images, found_images, left_part, found_part, space_left, space_found}
use Rattle.pm3_access.specs.Holding.{image_in, admitted, space_now}
use Rattle.pm3_access.proofs.AdmitSteps.{alone, none_else, left_joined, found_joined}
use Rattle.pm3_access.proofs.HeldSheets.{get-left_images, sheet_same}
use Rattle.pm3_access.proofs.Homes as images_at
use Rattle.pm3_access.proofs.InPlace.{admitted_in_place}
use Rattle.pm3_access.proofs.JoinedParts.{fits_joined}
use Rattle.pm3_access.proofs.SoundingHeld.{sound_admitted}
use Rattle.pm3_access.proofs.SoundingPages.{form_for_more}
use Rattle.pm3_history.specs.Homes.{IsHome}
use Rattle.pm3_history.specs.Persistent.{persistent_book}
use Rattle.pm3_history.specs.State.{all_images}
use Rattle.pm3_history.proofs.Committing.{fits_among}
use Rattle.pm3_history.proofs.Holding.{shown_alike}
use Rattle.pm3_history.proofs.Laying.{some_none, off_cases}
use Rattle.pm3_history.proofs.Persisting.{persistent_fits}
use Rattle.pm3_txn.specs.Works.{book_with, left_book, found_book, is_own_object, may_hold, without_space}
use Rattle.pm3_txn.specs.WorkLaws.{WorksAdmit}
use Rattle.pm3_txn.proofs.Admitting.{home_form, home_image}
use Rattle.pm3_txn.proofs.OwnBooks.{get-space_left, found_owned, found_known, with_old}
use Rattle.pm3_txn.proofs.WorksFound.{found_fits}
use Rattle.pm3_txn.proofs.WorksGrow.{grown_run, shows_no_new, with_fits}

or_first : (a b : Bool) → a ≡ true → (a || b) ≡ true
or_first a b is = ap (λ x. x || b) is

neither : (o u : Option PageImage) → option_or o u ≡ None → u ≡ None
neither None u is = is
neither (Some x) u is = absurd (some_none (Some x) x refl is)

no_image : (o : Option PageImage) → sheet_in o ≡ None → o ≡ None
no_image None is = refl
no_image (Some x) is = absurd (cc is)

pub works_admit : FrameOfRuns → WorksAdmit
works_admit frame catalog pages st h ops image settled absent on home above sound works = record {
  places = admitted_in_place h works.places image absent;
  form = sound_admitted catalog BASE (is_memory_reference BASE pages) h image sound works.form;
  sound = sound_admitted catalog BASE (may_hold pages st h) (without_space h) image below works.sound;
  fits = fits_joined catalog BASE (left_book st h) (left_images h) (alone image) (left_images (admitted h image)) (left_joined h image absent) works.fits alone_fits;
  last = last;
  held = held;
  homes = homes;
  space = works.space;
  apart = works.apart;
  old = works.old;
  run = grown_run frame catalog ops (found_images h) (left_images h) (alone image) (found_images (admitted h image)) (left_images (admitted h image)) (found_book st h) (left_book st h)
      (found_joined h image absent works.places) (left_joined h image absent) found_fit.one works.fits.one
      (shows (space_left h.space) works.fits.one left_apart here_left ∙ sym (shows (space_found h.space) found_fit.one found_apart here_found)) works.run roots
      (shows_no_new catalog st (space_left h.space) (found_book st h) (found_images (admitted h image)) ops settled.chronicled (found_known catalog st settled h.space works.space) works.new);
  new = works.new;
}
  where
    below : HasForm catalog (may_hold pages st h) image.page image.sheet
    below = form_for_more catalog (is_memory_reference BASE st.high_page) (may_hold pages st h)
        (λ a is. or_first (is_memory_reference BASE st.high_page a) (is_memory_reference BASE pages a && is_own_object h a) is)
        image.page image.sheet (home_form catalog st settled pages image.page image.sheet home on sound)

    alone_page : (q : ℕ) (sheet : Sheet) → get (alone image) q ≡ Some sheet → q ≡ image.page
    alone_page q sheet there = elim (cases_eq q image.page) [
      | inl e ↦ e
      | inr ne ↦ absurd (some_none (get (alone image) q) sheet there (none_else image q ne))
    ]

    alone_last : (q : ℕ) (sheet : Sheet) → get (alone image) q ≡ Some sheet → get st.pages q ≡ Some sheet
    alone_last q sheet is = let e = alone_page q sheet is in ap (get st.pages) e ∙ on ∙ sym (sheet_same empty image.page q image.sheet e) ∙ is

    alone_old : FitsImages catalog BASE (persistent_book BASE st) (alone image)
    alone_old = fits_among catalog BASE (persistent_book BASE st) (alone image) st.pages alone_last (persistent_fits catalog BASE st settled.chronicled)

    here_left : get (space_left h.space) image.page ≡ None
    here_left = get-space_left h.space image.page ∙ ap sheet_in (neither (get h.pages.left image.page) (space_now h.space image.page) absent)

    off_left : (q : ℕ) (sheet : Sheet) → get (alone image) q ≡ Some sheet → get (space_left h.space) q ≡ None
    off_left q sheet is = ap (get (space_left h.space)) (alone_page q sheet is) ∙ here_left

    alone_fits : FitsImages catalog BASE (left_book st h) (alone image)
    alone_fits = with_fits catalog st (space_left h.space) (alone image) works.fits.one works.fits.named off_left alone_old

    homes_found : (q : ℕ) → is_some (get h.pages.found q) ≡ true → IsHome BASE st q
    homes_found q is = (works.homes q (sym (works.held q) ∙ is)).0

    found_fit : FitsImages catalog BASE (found_book st h) (found_images h)
    found_fit = found_fits catalog st settled h works.space homes_found works.last

    left_apart : (a n : ℕ) → get (persistent_book BASE st) a ≡ Some n → get (space_left h.space) (page_in BASE a) ≡ None
    left_apart a n has = get-space_left h.space (page_in BASE a) ∙ ap sheet_in (works.apart a n has)

    found_apart : (a n : ℕ) → get (persistent_book BASE st) a ≡ Some n → get (space_found h.space) (page_in BASE a) ≡ None
    found_apart a n has = found_owned catalog st settled h.space works.space (page_in BASE a) (off_cases BASE st.book st.owner a n has).0

    here_found : get (space_found h.space) image.page ≡ None
    here_found = found_owned catalog st settled h.space works.space image.page (home_image catalog st settled image.page home).0

    -- the page shows the same under either book
    shows : (own : Images) → IsOneToOne (book_with st own) → ((a n : ℕ) → get (persistent_book BASE st) a ≡ Some n → get own (page_in BASE a) ≡ None)
        → get own image.page ≡ None → shown catalog BASE (book_with st own) (alone image) ≡ shown catalog BASE (persistent_book BASE st) (alone image)
    shows own one apart off = shown_alike catalog BASE (alone image) (persistent_book BASE st) (book_with st own) alone_old one
        (λ a n has. with_old st own a (apart a n has) ∙ has)
        (λ a n sheet there has. sym (with_old st own a (ap (get own) (alone_page (page_in BASE a) sheet there) ∙ off)) ∙ has)

    joined_cases : (q : ℕ) (sheet : Sheet) → get (found_images (admitted h image)) q ≡ Some sheet → (get (alone image) q ≡ Some sheet) ⊎ (get (found_images h) q ≡ Some sheet)
    joined_cases q sheet is = of (get (alone image) q) refl
      where
        each : get (found_images (admitted h image)) q ≡ option_or (get (alone image) q) (get (found_images h) q)
        each = (found_joined h image absent works.places).each q

        of : (o : Option Sheet) → get (alone image) q ≡ o → (get (alone image) q ≡ Some sheet) ⊎ (get (found_images h) q ≡ Some sheet)
        of None none = inr (sym (each ∙ ap (λ (o : Option Sheet). option_or o (get (found_images h) q)) none) ∙ is)
        of (Some x) has = inl (has ∙ sym (each ∙ ap (λ (o : Option Sheet). option_or o (get (found_images h) q)) has) ∙ is)

    last : (q : ℕ) (sheet : Sheet) → get (found_images (admitted h image)) q ≡ Some sheet → get (all_images st) q ≡ Some sheet
    last q sheet is = of (joined_cases q sheet is)
      where
        of : (get (alone image) q ≡ Some sheet) ⊎ (get (found_images h) q ≡ Some sheet) → get (all_images st) q ≡ Some sheet
        of (inl new) = (home_image catalog st settled q (subst (IsHome BASE st) (sym (alone_page q sheet new)) home)).1 ∙ alone_last q sheet new
        of (inr old) = works.last q sheet old

    held : (q : ℕ) → is_some (get (admitted h image).pages.found q) ≡ is_some (get (admitted h image).pages.left q)
    held q = elim (cases_eq q image.page) [
      | inl e ↦ ap is_some (images_at.get_same h.pages.found image.page q image e) ∙ sym (ap is_some (images_at.get_same h.pages.left image.page q image e))
      | inr ne ↦ ap is_some (images_at.get_other h.pages.found image.page q image ne) ∙ works.held q ∙ sym (ap is_some (images_at.get_other h.pages.left image.page q image ne))
    ]

    homes : (q : ℕ) → is_some (get (admitted h image).pages.left q) ≡ true → IsHome BASE st q × (2 ≤ q)
    homes q is = elim (cases_eq q image.page) [
      | inl e ↦ (subst (IsHome BASE st) (sym e) home, subst (λ (n : ℕ). 2 ≤ n) (sym e) above)
      | inr ne ↦ works.homes q (sym (ap is_some (images_at.get_other h.pages.left image.page q image ne)) ∙ is)
    ]

    -- page 2 was found where it is held
    roots : (left_part catalog BASE (left_book st h) h).roots ≡ None → (found_part catalog BASE (found_book st h) h).roots ≡ None
    roots none = of (get (left_images h) 2) refl
      where
        of : (o : Option Sheet) → get (left_images h) 2 ≡ o → (found_part catalog BASE (found_book st h) h).roots ≡ None
        of None off = ap (roots_in catalog BASE (found_book st h) (found_images h)) (works.places.found 2 (no_image (image_in h 2) (sym (get-left_images h 2) ∙ off)))
        of (Some sheet) has = absurd (some_none (roots_in catalog BASE (left_book st h) (left_images h) (get (left_images h) 2)) _ (ap (roots_in catalog BASE (left_book st h) (left_images h)) has) none)
