-- The names of a space's objects stay where the image of a page becomes another with the same objects.
use Rattle.std.proofs.Common.{◌≡◌, ◌∙◌, ◌+◌, inl, inr, ℕ, Bool, true, not, List, Option, Some, None, is_some, refl, sym, ap}
use Rattle.std.proofs.lemmas.Bool.{cases_eq, and_parts, and_from}
use Rattle.std.specs.Prelude.{slice_index}
use Rattle.std.specs.Option.{option_or, option_map}
use Rattle.std.specs.Cmp.{nat_cmp_total}
use Rattle.std.specs.FinMap.{get, nat_cmp-IsAntisymmetric, same_map}
use Rattle.pm3_core.specs.declared.naming.TheConstants.{BASE}
use Rattle.pm3_types.specs.Fields.{Fields}
use Rattle.pm3_types.specs.Layout.{Sheet, PageImage, page_in, word_in, is_start, is_unmoved, is_forwarded, begins_at}
use Rattle.pm3_types.specs.Shown.{Book, FitsImages}
use Rattle.pm3_types.proofs.FormedObjects.{begins}
use Rattle.pm3_types.proofs.Parts.{same_option}
use Rattle.pm3_page.specs.PageSheets.{sheet_in}
use Rattle.pm3_access.specs.Access.{HaveForm}
use Rattle.pm3_access.specs.Acts.{AreInPlace, left_images, space_left, space_found}
use Rattle.pm3_access.specs.Holding.{Holding, HeldSpaceState, image_in, space_now, space_with}
use Rattle.pm3_access.proofs.Bodies as bodies
use Rattle.pm3_access.proofs.HeldSheets.{changed, changed_by, changed_here, changed_else, get-left_images}
use Rattle.pm3_access.proofs.Homes as images_at
use Rattle.pm3_history.specs.Named.{book_of}
use Rattle.pm3_history.specs.State.{State}
use Rattle.pm3_history.proofs.Laying.{some_none, there_none, one_value}
use Rattle.pm3_history.proofs.NamedOn.{book_of_named, book_of_has}
use Rattle.pm3_txn.specs.OwnStarts.{starts_on}
use Rattle.pm3_txn.specs.Works.{IsLastSpace, is_own_start}
use Rattle.pm3_txn.proofs.OwnBooks.{get-space_left}

-- a sheet of the space is that of an image that is held, and of a page that is not held alone
pub record IsOwn (h : Holding) (q : ℕ) (sheet : Sheet) : Type 0 where
  pub image : PageImage
  pub held : image_in h q ≡ Some image
  pub sheet_is : image.sheet ≡ sheet
  pub off : get h.pages.left q ≡ None

none_by : (o : Option PageImage) → (is_some o ≡ true → ⊥) → o ≡ None
none_by None never = refl
none_by (Some x) never = absurd (never refl)

pub own_held : (h : Holding) → AreInPlace h → (q : ℕ) (sheet : Sheet) → get (space_left h.space) q ≡ Some sheet → IsOwn h q sheet
own_held h places q sheet on = of (space_now h.space q) refl
  where
    off : (image : PageImage) → space_now h.space q ≡ Some image → get h.pages.left q ≡ None
    off image there = none_by (get h.pages.left q) (λ is. some_none (space_now h.space q) image there (places.apart q is))

    of : (o : Option PageImage) → space_now h.space q ≡ o → IsOwn h q sheet
    of None none = absurd (some_none (get (space_left h.space) q) sheet on (get-space_left h.space q ∙ ap sheet_in none))
    of (Some image) there = record {
      image = image;
      held = ap (λ (o : Option PageImage). option_or o (space_now h.space q)) (off image there) ∙ there;
      sheet_is = one_value (get (space_left h.space) q) image.sheet sheet (get-space_left h.space q ∙ ap sheet_in there) on;
      off = off image there;
    }

pub held_own : (h : Holding) (q : ℕ) (image : PageImage) → get h.pages.left q ≡ None → image_in h q ≡ Some image → get (space_left h.space) q ≡ Some image.sheet
held_own h q image off held = get-space_left h.space q ∙ ap sheet_in (sym (ap (λ (o : Option PageImage). option_or o (space_now h.space q)) off) ∙ held)

-- an image of a held page is another
module _ (h : Holding) (page : ℕ) (image now : PageImage) (there : image_in h page ≡ Some image) where
  pub alone_still : (q : ℕ) → is_some (get (changed h page now).pages.left q) ≡ is_some (get h.pages.left q)
  alone_still q = of (get h.pages.left page) refl
    where
      of : (o : Option PageImage) → get h.pages.left page ≡ o → is_some (get (changed_by o h page now).pages.left q) ≡ is_some (get h.pages.left q)
      of None none = refl
      of (Some old) on = elim (cases_eq q page) [
        | inl e ↦ ap is_some (images_at.get_same h.pages.left page q now e) ∙ sym (ap is_some (ap (get h.pages.left) e ∙ on))
        | inr ne ↦ ap is_some (images_at.get_other h.pages.left page q now ne)
      ]

  pub found_still : (q : ℕ) → get (changed h page now).pages.found q ≡ get h.pages.found q
  found_still q = of (get h.pages.left page)
    where
      of : (o : Option PageImage) → get (changed_by o h page now).pages.found q ≡ get h.pages.found q
      of None = refl
      of (Some old) = refl

  pub space_found_still : space_found (changed h page now).space ≡ space_found h.space
  space_found_still = of (get h.pages.left page)
    where
      by : (s : Option HeldSpaceState) → space_found (option_map (λ t. space_with t page now) s) ≡ space_found s
      by None = refl
      by (Some s) = refl

      of : (o : Option PageImage) → space_found (changed_by o h page now).space ≡ space_found h.space
      of None = by h.space
      of (Some old) = refl

  pub last_still : (st : State) → IsLastSpace st h.space → IsLastSpace st (changed h page now).space
  last_still st = of (get h.pages.left page)
    where
      by : (s : Option HeldSpaceState) → IsLastSpace st s → IsLastSpace st (option_map (λ t. space_with t page now) s)
      by None is = is
      by (Some s) is = is

      of : (o : Option PageImage) → IsLastSpace st h.space → IsLastSpace st (changed_by o h page now).space
      of None = by h.space
      of (Some old) = λ is. is

  -- where objects begin on them objects begin still
  pub own_start_still : ((s : ℕ) → is_start image.sheet s ≡ true → is_start now.sheet s ≡ true) → (a : ℕ) → is_own_start h a ≡ true → is_own_start (changed h page now) a ≡ true
  own_start_still more a = of (get h.pages.left page) refl
    where
      by : (s : Option HeldSpaceState) → space_now s page ≡ Some image → starts_on (space_now s (page_in BASE a)) (word_in BASE a) ≡ true
          → starts_on (space_now (option_map (λ t. space_with t page now) s) (page_in BASE a)) (word_in BASE a) ≡ true
      by None has is = is
      by (Some s) has is = elim (cases_eq (page_in BASE a) page) [
        | inl e ↦ ap (λ (o : Option PageImage). starts_on o (word_in BASE a)) (images_at.get_same s.images.left page (page_in BASE a) now e)
            ∙ more (word_in BASE a) (sym (ap (λ (o : Option PageImage). starts_on o (word_in BASE a)) (ap (get s.images.left) e ∙ has)) ∙ is)
        | inr ne ↦ ap (λ (o : Option PageImage). starts_on o (word_in BASE a)) (images_at.get_other s.images.left page (page_in BASE a) now ne) ∙ is
      ]

      of : (o : Option PageImage) → get h.pages.left page ≡ o → is_own_start h a ≡ true → starts_on (space_now (changed_by o h page now).space (page_in BASE a)) (word_in BASE a) ≡ true
      of None none = by h.space (sym (ap (λ (o : Option PageImage). option_or o (space_now h.space page)) none) ∙ there)
      of (Some old) on = λ is. is

  -- one begins where one begins on the other image
  pub own_start_here : get h.pages.left page ≡ None → (a : ℕ) → page_in BASE a ≡ page → is_start now.sheet (word_in BASE a) ≡ true → is_own_start (changed h page now) a ≡ true
  own_start_here alone a at begins = of (get h.pages.left page) refl
    where
      by : (s : Option HeldSpaceState) → space_now s page ≡ Some image → starts_on (space_now (option_map (λ t. space_with t page now) s) (page_in BASE a)) (word_in BASE a) ≡ true
      by None has = absurd (some_none (space_now None page) image has refl)
      by (Some s) has = ap (λ (o : Option PageImage). starts_on o (word_in BASE a)) (images_at.get_same s.images.left page (page_in BASE a) now at) ∙ begins

      of : (o : Option PageImage) → get h.pages.left page ≡ o → starts_on (space_now (changed_by o h page now).space (page_in BASE a)) (word_in BASE a) ≡ true
      of None none = by h.space (sym (ap (λ (o : Option PageImage). option_or o (space_now h.space page)) none) ∙ there)
      of (Some old) on = absurd (some_none (get h.pages.left page) old on alone)

  -- pages of the space stay its pages
  pub own_page_still : (q : ℕ) → is_some (space_now (changed h page now).space q) ≡ is_some (space_now h.space q)
  own_page_still q = of (get h.pages.left page) refl
    where
      by : (s : Option HeldSpaceState) → space_now s page ≡ Some image → is_some (space_now (option_map (λ t. space_with t page now) s) q) ≡ is_some (space_now s q)
      by None has = refl
      by (Some s) has = elim (cases_eq q page) [
        | inl e ↦ ap is_some (images_at.get_same s.images.left page q now e) ∙ sym (ap is_some (ap (get s.images.left) e ∙ has))
        | inr ne ↦ ap is_some (images_at.get_other s.images.left page q now ne)
      ]

      of : (o : Option PageImage) → get h.pages.left page ≡ o → is_some (space_now (changed_by o h page now).space q) ≡ is_some (space_now h.space q)
      of None none = by h.space (sym (ap (λ (o : Option PageImage). option_or o (space_now h.space page)) none) ∙ there)
      of (Some old) on = refl

  module _ (places : AreInPlace h) (places_now : AreInPlace (changed h page now)) (starts : now.sheet.starts ≡ image.sheet.starts)
      (catalog : List Fields) (refers : ℕ → Bool) (form : HaveForm catalog refers h) (book : Book) (fits : FitsImages catalog BASE book (left_images (changed h page now)))
      (into : (a n : ℕ) → get (book_of BASE (space_left h.space)) a ≡ Some n → get book a ≡ Some n) where
    alone_none : (q : ℕ) → get h.pages.left q ≡ None → get (changed h page now).pages.left q ≡ None
    alone_none q none = none_by (get (changed h page now).pages.left q) (λ is. there_none (get h.pages.left q) (sym (alone_still q) ∙ is) none)

    none_alone : (q : ℕ) → get (changed h page now).pages.left q ≡ None → get h.pages.left q ≡ None
    none_alone q none = none_by (get h.pages.left q) (λ is. there_none (get (changed h page now).pages.left q) (alone_still q ∙ is) none)

    later : (q : ℕ) (sheet : Sheet) → get (space_left h.space) q ≡ Some sheet → (x : Sheet) × (get (space_left (changed h page now).space) q ≡ Some x)
    later q sheet on =
        let own = own_held h places q sheet on in
        elim (cases_eq q page) [
          | inl e ↦ (now.sheet, held_own (changed h page now) q now (alone_none q own.off) (ap (image_in (changed h page now)) e ∙ changed_here h page image now there))
          | inr ne ↦ (own.image.sheet, held_own (changed h page now) q own.image (alone_none q own.off) (changed_else h page now q ne ∙ own.held))
        ]

    -- the image before had its objects at the same words
    before : (q : ℕ) (sheet : Sheet) → get (space_left (changed h page now).space) q ≡ Some sheet
        → (x : PageImage) × (image_in h q ≡ Some x) × (get (space_left h.space) q ≡ Some x.sheet) × (sheet.starts ≡ x.sheet.starts)
    before q sheet on =
        let own = own_held (changed h page now) places_now q sheet on in
        elim (cases_eq q page) [
          | inl e ↦ (let is : image_in h q ≡ Some image = ap (image_in h) e ∙ there in
              let same : own.image ≡ now = one_value (image_in (changed h page now) q) own.image now own.held (ap (image_in (changed h page now)) e ∙ changed_here h page image now there) in
              (image, is, held_own h q image (none_alone q own.off) is, sym (ap (λ (s : Sheet). s.starts) own.sheet_is) ∙ ap (λ (x : PageImage). x.sheet.starts) same ∙ starts))
          | inr ne ↦ (let is : image_in h q ≡ Some own.image = sym (changed_else h page now q ne) ∙ own.held in
              (own.image, is, held_own h q own.image (none_alone q own.off) is, sym (ap (λ (s : Sheet). s.starts) own.sheet_is)))
        ]

    kept : (a n : ℕ) → get (book_of BASE (space_left h.space)) a ≡ Some n → get (book_of BASE (space_left (changed h page now).space)) a ≡ Some n
    kept a n has =
        let was = book_of_named BASE (space_left h.space) a n has in
        let is = later (page_in BASE a) was.sheet was.on in
        let own = own_held (changed h page now) places_now (page_in BASE a) is.0 is.1 in
        let on : get (left_images (changed h page now)) (page_in BASE a) ≡ Some is.0 = get-left_images (changed h page now) (page_in BASE a) ∙ ap sheet_in own.held ∙ ap Some own.sheet_is in
        let place = fits.objects a n is.0 (into a n has) on in
        book_of_has BASE (space_left (changed h page now).space) a n (record { sheet = is.0; on = is.1; address = place.0; unmoved = place.1; named = place.2 })

    back : (a n : ℕ) → get (book_of BASE (space_left (changed h page now).space)) a ≡ Some n → get (book_of BASE (space_left h.space)) a ≡ Some n
    back a n has =
        let is = book_of_named BASE (space_left (changed h page now).space) a n has in
        let was = before (page_in BASE a) is.sheet is.on in
        let start : is_start was.0.sheet (word_in BASE a) ≡ true =
        ap (λ (l : List Bool). is_start (record { words = was.0.sheet.words; starts = l }) (word_in BASE a)) (sym was.3)
        ∙ (and_parts (is_start is.sheet (word_in BASE a)) (not (is_forwarded (slice_index is.sheet.words (word_in BASE a)))) is.unmoved).0 in
        let begun : begins_at BASE was.0 a ≡ true = begins BASE was.0 a is.address (sym (places.home (page_in BASE a) was.0 was.1)) start in
        let unmoved : is_unmoved was.0.sheet (word_in BASE a) ≡ true =
        and_from (is_start was.0.sheet (word_in BASE a)) (not (is_forwarded (slice_index was.0.sheet.words (word_in BASE a)))) start
        (ap not (bodies.is_unmoved catalog BASE refers was.0 a (form (page_in BASE a) was.0 was.1) begun)) in
        let old = book_of_has BASE (space_left h.space) a (slice_index was.0.sheet.words (word_in BASE a + 1))
        (record { sheet = was.0.sheet; on = was.2; address = is.address; unmoved = unmoved; named = refl }) in
        old ∙ ap Some (one_value (get (book_of BASE (space_left (changed h page now).space)) a) (slice_index was.0.sheet.words (word_in BASE a + 1)) n
        (kept a (slice_index was.0.sheet.words (word_in BASE a + 1)) old) has)

    pub own_still : book_of BASE (space_left (changed h page now).space) ≡ book_of BASE (space_left h.space)
    own_still = same_map nat_cmp_total nat_cmp-IsAntisymmetric (book_of BASE (space_left (changed h page now).space)) (book_of BASE (space_left h.space))
        (λ a. same_option (get (book_of BASE (space_left (changed h page now).space)) a) (get (book_of BASE (space_left h.space)) a) (back a) (kept a))
