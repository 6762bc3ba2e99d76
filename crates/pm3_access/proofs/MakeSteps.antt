-- A new object is a new record of the part that is left, under a book with one more name.
use Rattle.std.proofs.Common.{◌≡◌, ◌≢◌, ◌⊎◌, ◌<◌, ◌≤◌, ◌+◌, ◌==◌, ◌∙◌, inl, inr, ℕ, zero, suc, Bool, true, not, nat_le, List, [], ◌∷◌, length, Option, Some, None, Ok, is_some, refl, sym, ap, subst, arith}
use Rattle.std.proofs.lemmas.Bool.{and_parts, eq-eqb, eqb-false, leb-true, or_from, ne_eqb, not-true}
use Rattle.std.specs.Prelude.{slice_get}
use Rattle.std.specs.Option.{option_or, option_map, option_and_then}
use Rattle.std.specs.FinMap as maps
use Rattle.std.specs.FinMap.{get, insert}
use mathlib.Core.Bool.{true≢false}
use Rattle.pm3_types.specs.Fields.{Fields}
use Rattle.pm3_types.specs.Layout.{Sheet, PageImage, IsLaid, blank_sheet, is_start, is_address, page_in, word_in, type_in, address, end_of, size_by, head_of, has_tail, placed, placed_on}
use Rattle.pm3_types.specs.PageForm.{HasObjects, map_at}
use Rattle.pm3_access.specs.Access.{ImageHasForm, begins_in, is_object_held}
use Rattle.pm3_types.specs.Shown.{Book, Images, FitsImages, shown}
use Rattle.pm3_graph.specs.declared.operations.Op.TheVariants as ops
use Rattle.pm3_graph.specs.Operation.{new_of, unless_taken, IsStep}
use Rattle.pm3_page.specs.PageSheets.{sheet_in}
use Rattle.pm3_access.specs.Acts.{left_images, left_part, map_by, map_held, AreInPlace, IsNewName, MayBeMade}
use Rattle.pm3_access.specs.Sound.{HasLowPage}
use Rattle.pm3_access.specs.Holding.{Holding, HeldSpaceState, image_in, space_now, space_with}
use Rattle.pm3_access.specs.Making.{has_space_for, has_room_for, next_address, current_in, current_image, space_made, IsMade}
use Rattle.pm3_access.proofs.Homes.{is_some_none}
use Rattle.pm3_access.proofs.HeldSheets.{get-left_images, changed, changed_by, changed_here, left_changed}
use Rattle.pm3_access.proofs.SoundingPages.{both}
use Rattle.pm3_types.proofs.Addressing.{page_in-address, word_in-address, is_address-address}
use Rattle.pm3_access.proofs.InPlace.{changed_in_place}
use Rattle.pm3_access.proofs.NewObjects.{blank_laid, start_here, at_head, type_of_head}
use Rattle.pm3_access.proofs.PlacedObjects.{IsNewObject, shown_more, not_in_book, not_shown, fits_more}

-- the operation on the part that images show
new_step : (catalog : List Fields) (base : ℕ) (book : Book) (images : Images) (p : ℕ) (sheet : Sheet) (map : Fields) (ty tail n : ℕ) → IsNewObject catalog base book images p sheet map ty tail n
    → IsStep catalog (ops.New n ty tail) (shown catalog base book images) 0
    (shown catalog base (insert book (address base p (end_of sheet)) n) (insert images p (placed p sheet (size_by (Some map) tail) (head_of ty tail) n)))
new_step catalog base book images p sheet map ty tail n new =
    ap (λ (b : Bool). unless_taken b n (new_of (shown catalog base book images) n ty tail (slice_get catalog ty)))
    (or_from (n == 0) _ (ne_eqb n 0 new.named) (ap is_some (not_shown catalog base book images p sheet map ty tail n new)))
    ∙ ap (new_of (shown catalog base book images) n ty tail) new.map_is
    ∙ ap (λ part. Ok (0, part)) (sym (shown_more catalog base book images p sheet map ty tail n new))

-- the current page of the space, and its image
abbrev IsCurrent : Option HeldSpaceState → HeldSpaceState → ℕ → PageImage → Type 0
IsCurrent o s page image = (o ≡ Some s) × (s.current ≡ Some page) × (maps.get s.images.left page ≡ Some image)

abbrev Current : Option HeldSpaceState → Type 0
Current o = (s : HeldSpaceState) × (page : ℕ) × (image : PageImage) × (o ≡ Some s) × (s.current ≡ Some page) × (maps.get s.images.left page ≡ Some image)

current_of : (o : Option HeldSpaceState) (size : ℕ) → has_room_for (current_image o) size ≡ true → Current o
current_of None size room = absurd (true≢false (sym room))
current_of (Some s) size room = of s.current refl room
  where
    on : (page : ℕ) (i : Option PageImage) → s.current ≡ Some page → maps.get s.images.left page ≡ i → has_room_for i size ≡ true → Current (Some s)
    on page None current is has = absurd (true≢false (sym has))
    on page (Some image) current is has = (s, page, image, refl, current, is)

    of : (c : Option ℕ) → s.current ≡ c → has_room_for (option_and_then (maps.get s.images.left) c) size ≡ true → Current (Some s)
    of None current has = absurd (true≢false (sym has))
    of (Some page) current has = on page (maps.get s.images.left page) current refl has

type_map : (catalog : List Fields) (ty : ℕ) → ty < length catalog → (map : Fields) × (slice_get catalog ty ≡ Some map)
type_map [] ty low = absurd (omega arith)
type_map (map ∷ rest) zero low = (map, refl)
type_map (map ∷ rest) (suc ty) low = type_map rest ty (omega arith)

laid_of : (catalog : List Fields) (base : ℕ) (refers : ℕ → Bool) (image : PageImage) → ImageHasForm catalog refers image → image.page ≢ 2 → IsLaid catalog image.sheet
laid_of catalog base refers image sound apart = of (sound.objects apart)
  where
    of : (image.sheet ≡ blank_sheet) ⊎ HasObjects catalog refers image.page image.sheet → IsLaid catalog image.sheet
    of (inl is) = subst (IsLaid catalog) (sym is) (blank_laid catalog)
    of (inr objects) = objects.laid

module _ (catalog : List Fields) (base : ℕ) (h new : Holding) (ty tail n at : ℕ) (places : AreInPlace h) (made : IsMade base catalog h ty tail n (Some at) new) where
  abbrev size : ℕ
  size = size_by (slice_get catalog ty) tail

  abbrev here : Current h.space
  here = current_of h.space size made.0

  abbrev s : HeldSpaceState
  s = here.0

  abbrev page : ℕ
  page = here.1

  abbrev image : PageImage
  image = here.2

  current_is : current_in s ≡ Some image
  current_is = ap (option_and_then (maps.get s.images.left)) here.4 ∙ here.5

  current_image_is : current_image h.space ≡ Some image
  current_image_is = ap current_image here.3 ∙ current_is

  in_space : space_now h.space page ≡ Some image
  in_space = ap (λ (o : Option HeldSpaceState). space_now o page) here.3 ∙ here.5

  -- the current page is not held alone
  not_alone : maps.get h.pages.left page ≡ None
  not_alone = of (maps.get h.pages.left page) refl
    where
      of : (o : Option PageImage) → maps.get h.pages.left page ≡ o → maps.get h.pages.left page ≡ None
      of None is = is
      of (Some other) is = absurd (is_some_none image (sym (places.apart page (ap is_some is)) ∙ in_space))

  held_is : image_in h page ≡ Some image
  held_is = ap (λ (o : Option PageImage). option_or o (space_now h.space page)) not_alone ∙ in_space

  home : image.page ≡ page
  home = places.home page image held_is

  abbrev after : PageImage
  after = placed_on image size (head_of ty tail) n

  new_is : new ≡ changed h page after
  new_is =
      made.2
      ∙ ap (λ (o : Option HeldSpaceState). record { pages = h.pages; space = option_map (λ s. space_made s s.current (current_in s) size (head_of ty tail) n) o }) here.3
      ∙ ap (λ (c : Option ℕ). record { pages = h.pages; space = Some (space_made s c (current_in s) size (head_of ty tail) n) }) here.4
      ∙ ap (λ (i : Option PageImage). record { pages = h.pages; space = Some (space_made s (Some page) i size (head_of ty tail) n) }) current_is
      ∙ sym (ap (λ (o : Option HeldSpaceState). record { pages = h.pages; space = option_map (λ s. space_with s page after) o }) here.3)
      ∙ sym (ap (λ (o : Option PageImage). changed_by o h page after) not_alone)

  left_is : left_images new ≡ insert (left_images h) image.page (placed image.page image.sheet size (head_of ty tail) n)
  left_is = ap left_images new_is ∙ left_changed h page image after held_is ∙ ap (λ (p : ℕ). insert (left_images h) p after.sheet) (sym home)

  room : has_space_for image size ≡ true
  room = sym (ap (λ (o : Option PageImage). has_room_for o size) current_image_is) ∙ made.0

  at_is : at ≡ address base image.page (end_of image.sheet)
  at_is = made.1 ∙ ap (next_address base) current_image_is

  pub made_in_place : AreInPlace new
  made_in_place = subst AreInPlace (sym new_is) (changed_in_place h places page image after held_is refl)

  module _ (book : Book) (low : HasLowPage (current_image h.space)) (may : MayBeMade catalog ty tail n) (new_name : IsNewName catalog base book h n) where
    abbrev map : (map : Fields) × (slice_get catalog ty ≡ Some map)
    map = type_map catalog ty may.there

    size_is : size ≡ size_by (Some map.0) tail
    size_is = ap (λ (o : Option Fields). size_by o tail) map.1

    apart : image.page ≢ 2
    apart e = eqb-false image.page 2 (not-true (image.page == 2) (and_parts (not (image.page == 2)) (nat_le (end_of image.sheet + size) 512) room).0) e

    is_new : IsNewObject catalog base book (left_images h) image.page image.sheet map.0 ty tail n
    is_new = record {
      fits = new_name.fits;
      on = get-left_images h image.page ∙ ap sheet_in (ap (image_in h) home ∙ held_is);
      laid = laid_of catalog base new_name.refers image (new_name.form page image held_is) apart;
      page = low image current_image_is;
      apart = apart;
      map_is = map.1;
      type_low = may.type_low;
      tail_low = may.tail_low;
      tail_is = λ none. may.tail_is (ap has_tail map.1 ∙ none);
      room = omega (arith, leb-true (end_of image.sheet + size) 512 (and_parts (not (image.page == 2)) (nat_le (end_of image.sheet + size) 512) room).1, size_is);
      fresh = new_name.fresh;
      named = may.named;
    }

    abbrev after_of : ℕ → Images
    after_of size = insert (left_images h) image.page (placed image.page image.sheet size (head_of ty tail) n)

    pub made_step : IsStep catalog (ops.New n ty tail) (left_part catalog base book h) 0 (left_part catalog base (insert book at n) new)
    made_step =
        new_step catalog base book (left_images h) image.page image.sheet map.0 ty tail n is_new
        ∙ ap (λ (k : ℕ). Ok (0, shown catalog base (insert book (address base image.page (end_of image.sheet)) n) (after_of k))) (sym size_is)
        ∙ ap (λ (images : Images). Ok (0, shown catalog base (insert book (address base image.page (end_of image.sheet)) n) images)) (sym left_is)
        ∙ ap (λ (a : ℕ). Ok (0, shown catalog base (insert book a n) (left_images new))) (sym at_is)

    pub made_fits : FitsImages catalog base (insert book at n) (left_images new)
    made_fits =
        subst (λ (a : ℕ). FitsImages catalog base (insert book a n) (left_images new)) (sym at_is)
        (subst (FitsImages catalog base (insert book (address base image.page (end_of image.sheet)) n)) (ap after_of (sym size_is) ∙ sym left_is)
        (fits_more catalog base book (left_images h) image.page image.sheet map.0 ty tail n is_new))

    word_low : end_of image.sheet < 512
    word_low = omega (arith, is_new.room)

    word_is : word_in base at ≡ end_of image.sheet
    word_is = ap (word_in base) at_is ∙ word_in-address base image.page (end_of image.sheet) word_low

    page_is : page_in base at ≡ image.page
    page_is = ap (page_in base) at_is ∙ page_in-address base image.page (end_of image.sheet) word_low

    image_now : image_in new (page_in base at) ≡ Some after
    image_now = ap (image_in new) (page_is ∙ home) ∙ ap (λ (g : Holding). image_in g page) new_is ∙ changed_here h page image after held_is

    two : 2 ≤ size
    two = omega (arith, size_is)

    fits : end_of image.sheet + size ≤ 512
    fits = omega (arith, is_new.room, size_is)

    -- an object begins at the address, of the type that was asked for
    pub made_object : is_object_held base new at ≡ true
    made_object = ap (λ (o : Option PageImage). begins_in base o at) image_now ∙ both _ _
        (both _ _ (ap (is_address base) at_is ∙ is_address-address base image.page (end_of image.sheet)) (eq-eqb (page_in base at) image.page page_is))
        (ap (is_start after.sheet) word_is ∙ start_here catalog image.page image.sheet size (head_of ty tail) n is_new.laid two fits)

    pub made_map : map_held catalog base new at ≡ slice_get catalog ty
    made_map =
        ap (λ (o : Option PageImage). map_by catalog o (word_in base at)) image_now
        ∙ ap (map_at catalog after.sheet) word_is
        ∙ ap (λ (w : ℕ). slice_get catalog (type_in w)) (at_head catalog image.page image.sheet size (head_of ty tail) n is_new.laid two fits)
        ∙ ap (slice_get catalog) (type_of_head ty tail may.type_low)

    pub made_new : get book at ≡ None
    made_new = ap (get book) at_is ∙ not_in_book catalog base book (left_images h) image.page image.sheet map.0 ty tail n is_new

-- in place, whether the object was made or not
pub make_place : (catalog : List Fields) (base : ℕ) (h new : Holding) (ty tail n : ℕ) (result : Option ℕ) → IsMade base catalog h ty tail n result new → AreInPlace h → AreInPlace new
make_place catalog base h new ty tail n None made places = subst AreInPlace (sym made.1) places
make_place catalog base h new ty tail n (Some a) made places = made_in_place catalog base h new ty tail n a places made
