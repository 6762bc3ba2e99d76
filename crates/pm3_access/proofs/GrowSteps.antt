-- Changes of the held space that leave what is shown as it was.
use Rattle.std.proofs.Common.{◌≡◌, ◌≢◌, ◌&&◌, ◌∙◌, inl, inr, ℕ, Bool, true, cond, not, List, Option, Some, None, is_some, refl, sym, ap, subst}
use Rattle.std.proofs.lemmas.Bool.{cases_eq}
use Rattle.std.specs.Prelude.{slice_index}
use Rattle.std.specs.Option.{option_or, option_map}
use Rattle.std.specs.Cmp.{nat_cmp_total}
use Rattle.std.specs.FinMap as map
use mathlib.Core.Bool.{true≢false}
use Rattle.pm3_types.specs.Fields.{Fields}
use Rattle.pm3_types.specs.Record.{Record}
use Rattle.pm3_types.specs.Layout.{Sheet, PageImage, blank_sheet, is_forwarded, is_address, page_in, word_in}
use Rattle.pm3_types.specs.Shown.{Book, Images, FitsImages, record_at, object_in, object_at, roots_in, shown_records, shown}
use Rattle.pm3_types.proofs.Books.{shown_alike}
use Rattle.pm3_page.specs.PageSheets.{sheet_in}
use Rattle.pm3_access.specs.Acts.{space_found, left_images, found_images, left_part, AreInPlace}
use Rattle.pm3_access.specs.Holding.{Holding, HeldImages, HeldSpaceState, image_in, space_now, grown, by_space}
use Rattle.pm3_access.proofs.Homes as images_at
use Rattle.pm3_access.proofs.Homes.{some_of, is_some_none}
use Rattle.pm3_access.proofs.HeldSheets.{sheet_same, sheet_other, get-left_images, get-found_images}
use Rattle.pm3_types.proofs.FormedObjects.{blank_starts}
use Rattle.pm3_access.proofs.WriteSteps.{same_roots}

-- images that answer alike are equal
same_images : (images now : Images) → ((q : ℕ) → map.get now q ≡ map.get images q) → now ≡ images
same_images images now alike = map.same_map nat_cmp_total map.nat_cmp-IsAntisymmetric now images alike

-- a change of the free pages and of the page that objects are placed on
module _ (h : Holding) (change : HeldSpaceState → HeldSpaceState) (images : (s : HeldSpaceState) → (change s).images ≡ s.images) where
  space_same : (s : Option HeldSpaceState) (q : ℕ) → space_now (option_map change s) q ≡ space_now s q
  space_same None q = refl
  space_same (Some s) q = ap (λ (i : HeldImages). map.get i.left q) (images s)

  found_same : (s : Option HeldSpaceState) (q : ℕ) → map.get (space_found (option_map change s)) q ≡ map.get (space_found s) q
  found_same None q = refl
  found_same (Some s) q = ap (λ (i : HeldImages). map.get (space_found (Some (record s { images = i }))) q) (images s)

  image_same : (q : ℕ) → image_in (by_space change h) q ≡ image_in h q
  image_same q = ap (option_or (map.get h.pages.left q)) (space_same h.space q)

  pub left_unchanged : left_images (by_space change h) ≡ left_images h
  left_unchanged = same_images (left_images h) (left_images (by_space change h)) (λ q. get-left_images (by_space change h) q ∙ ap sheet_in (image_same q) ∙ sym (get-left_images h q))

  pub found_unchanged : found_images (by_space change h) ≡ found_images h
  found_unchanged = same_images (found_images h) (found_images (by_space change h))
      (λ q. get-found_images (by_space change h) q ∙ ap (option_or (sheet_in (map.get h.pages.found q))) (found_same h.space q) ∙ sym (get-found_images h q))

  pub still_in_place : AreInPlace h → AreInPlace (by_space change h)
  still_in_place places = record {
    home = λ q image is. places.home q image (sym (image_same q) ∙ is);
    apart = λ q is. space_same h.space q ∙ places.apart q is;
    found = λ q none. ap (λ (i : Images). map.get i q) found_unchanged ∙ places.found q (sym (image_same q) ∙ none);
  }

-- a page of zeros that is drawn
module _ (catalog : List Fields) (base : ℕ) (book : Book) (images : Images) (page : ℕ) (absent : map.get images page ≡ None) where
  abbrev after : Images
  after = map.insert images page blank_sheet

  no_object : (at : ℕ) → object_in book catalog (Some blank_sheet) at ≡ None
  no_object at = ap (λ (b : Bool). cond (b && not (is_forwarded (slice_index blank_sheet.words at))) (Some (record_at book catalog blank_sheet.words at)) None) (blank_starts 512 at)

  nothing_more : (a : ℕ) → object_at book catalog base after a ≡ object_at book catalog base images a
  nothing_more a = ap (λ (o : Option Record). cond (is_address base a) o None) (elim (cases_eq (page_in base a) page) [
    | inl e ↦ ap (λ (s : Option Sheet). object_in book catalog s (word_in base a)) (sheet_same images page (page_in base a) blank_sheet e) ∙ no_object (word_in base a)
        ∙ sym (ap (λ (s : Option Sheet). object_in book catalog s (word_in base a)) (ap (map.get images) e ∙ absent))
    | inr ne ↦ ap (λ (s : Option Sheet). object_in book catalog s (word_in base a)) (sheet_other images page (page_in base a) blank_sheet ne)
  ])

  pub nothing_shown : page ≢ 2 → shown catalog base book (map.insert images page blank_sheet) ≡ shown catalog base book images
  nothing_shown apart =
      let records : shown_records catalog base book after ≡ shown_records catalog base book images = shown_alike catalog base book images after (λ a n named. nothing_more a) in
      let roots : roots_in catalog base book after (map.get after 2) ≡ roots_in catalog base book images (map.get images 2) =
      same_roots catalog base book images after (map.get after 2) ∙ ap (roots_in catalog base book images) (sheet_other images page 2 blank_sheet (λ e. apart (sym e))) in
      λ i. record { records = records i; roots = roots i }

  pub blank_fits : page ≢ 2 → ((a n : ℕ) → map.get book a ≡ Some n → page_in base a ≢ page) → FitsImages catalog base book images → FitsImages catalog base book (map.insert images page blank_sheet)
  blank_fits apart away fits = record {
    one = fits.one;
    named = fits.named;
    objects = λ a n sheet named on. fits.objects a n sheet named (sym (sheet_other images page (page_in base a) blank_sheet (away a n named)) ∙ on);
    references = λ a n k sheet named on ref. fits.references a n k sheet named (sym (sheet_other images page (page_in base a) blank_sheet (away a n named)) ∙ on) ref;
    roots = λ slot sheet low on. fits.roots slot sheet low (sym (sheet_other images page 2 blank_sheet (λ e. apart (sym e))) ∙ on);
  }

module _ (h : Holding) (image : PageImage) (space : is_some h.space ≡ true) (absent : image_in h image.page ≡ None) where
  space_here : (s : Option HeldSpaceState) (q : ℕ) → is_some s ≡ true → q ≡ image.page → space_now (option_map (λ t. grown t image) s) q ≡ Some image
  space_here None q is e = absurd (true≢false (sym is))
  space_here (Some s) q is e = images_at.get_same s.images.left image.page q image e

  space_else : (s : Option HeldSpaceState) (q : ℕ) → q ≢ image.page → space_now (option_map (λ t. grown t image) s) q ≡ space_now s q
  space_else None q ne = refl
  space_else (Some s) q ne = images_at.get_other s.images.left image.page q image ne

  alone : (o u : Option PageImage) → option_or o u ≡ None → o ≡ None
  alone None u is = refl
  alone (Some x) u is = is

  drawn_here : (q : ℕ) → q ≡ image.page → image_in (by_space (λ t. grown t image) h) q ≡ Some image
  drawn_here q e = ap (λ (o : Option PageImage). option_or o (space_now (option_map (λ t. grown t image) h.space) q)) (alone (map.get h.pages.left q) (space_now h.space q) (ap (image_in h) e ∙ absent))
      ∙ space_here h.space q space e

  -- the sheets are those that were left, and the new one
  pub left_drawn : left_images (by_space (λ t. grown t image) h) ≡ map.insert (left_images h) image.page image.sheet
  left_drawn = same_images (map.insert (left_images h) image.page image.sheet) (left_images (by_space (λ t. grown t image) h)) (λ q. get-left_images (by_space (λ t. grown t image) h) q ∙ elim (cases_eq q image.page) [
    | inl e ↦ ap sheet_in (drawn_here q e) ∙ sym (sheet_same (left_images h) image.page q image.sheet e)
    | inr ne ↦ ap sheet_in (ap (option_or (map.get h.pages.left q)) (space_else h.space q ne)) ∙ sym (sheet_other (left_images h) image.page q image.sheet ne ∙ get-left_images h q)
  ])

  pub found_drawn : found_images (by_space (λ t. grown t image) h) ≡ found_images h
  found_drawn = same_images (found_images h) (found_images (by_space (λ t. grown t image) h))
      (λ q. get-found_images (by_space (λ t. grown t image) h) q ∙ ap (option_or (sheet_in (map.get h.pages.found q))) (of h.space q) ∙ sym (get-found_images h q))
    where
      of : (s : Option HeldSpaceState) (q : ℕ) → map.get (space_found (option_map (λ t. grown t image) s)) q ≡ map.get (space_found s) q
      of None q = refl
      of (Some s) q = refl

  no_absence : map.get (left_images h) image.page ≡ None
  no_absence = get-left_images h image.page ∙ ap sheet_in absent

  module _ (catalog : List Fields) (base : ℕ) (book : Book) (blank : image.sheet ≡ blank_sheet) (apart : image.page ≢ 2) where
    blank_drawn : left_images (by_space (λ t. grown t image) h) ≡ map.insert (left_images h) image.page blank_sheet
    blank_drawn = left_drawn ∙ ap (map.insert (left_images h) image.page) blank

    pub part_drawn : left_part catalog base book (by_space (λ t. grown t image) h) ≡ left_part catalog base book h
    part_drawn = ap (shown catalog base book) blank_drawn ∙ nothing_shown catalog base book (left_images h) image.page no_absence apart

    pub fits_drawn : ((a n : ℕ) → map.get book a ≡ Some n → page_in base a ≢ image.page) → FitsImages catalog base book (left_images h) → FitsImages catalog base book (left_images (by_space (λ t. grown t image) h))
    fits_drawn away fits = subst (FitsImages catalog base book) (sym blank_drawn) (blank_fits catalog base book (left_images h) image.page no_absence apart away fits)
