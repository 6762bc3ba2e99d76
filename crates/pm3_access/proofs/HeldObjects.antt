-- An object that is held, as it lies in the sheet of its page and as its record is shown.
use Rattle.std.proofs.Common.{◌≡◌, ◌≢◌, ◌==◌, ◌&&◌, ◌∙◌, ℕ, Bool, true, false, cond, not, List, Option, Some, None, refl, sym, ap}
use Rattle.std.proofs.lemmas.Bool.{and_parts, eqb-true, cond-true}
use Rattle.std.specs.Prelude.{slice_index}
use Rattle.std.specs.FinMap.{get}
use mathlib.Core.Bool.{true≢false}
use Rattle.pm3_types.specs.Fields.{Fields}
use Rattle.pm3_types.specs.Layout.{Sheet, PageImage, IsLaid, is_start, is_forwarded, is_address, page_in, word_in, begins_at}
use Rattle.pm3_types.specs.PageForm.{map_at, tail_at}
use Rattle.pm3_types.specs.Shown.{Book, Images, FitsImages, record_by, record_at, object_in, shown_records}
use Rattle.pm3_types.proofs.Books.{shown_at}
use Rattle.pm3_access.specs.Access.{begins_in, is_object_held, HaveForm, ImageHasForm}
use Rattle.pm3_page.specs.PageSheets.{sheet_in}
use Rattle.pm3_access.specs.Acts.{left_images, map_by, map_held, IsHeldAs}
use Rattle.pm3_access.specs.Holding.{Holding, image_in}
use Rattle.pm3_access.proofs.HeldSheets.{get-left_images}
use Rattle.pm3_types.proofs.FormedObjects.{objects_of, start_of, some_map, address_of}
use Rattle.pm3_access.proofs.Bodies.{is_unmoved}

-- an object with this map lies on this sheet, and the book, which fits the images, has it under the name n
pub record IsThere (catalog : List Fields) (base : ℕ) (book : Book) (images : Images) (a n : ℕ) (map : Fields) (sheet : Sheet) : Type 0 where
  pub on : get images (page_in base a) ≡ Some sheet
  pub address : is_address base a ≡ true
  pub apart : page_in base a ≢ 2
  pub laid : IsLaid catalog sheet
  pub starts : is_start sheet (word_in base a) ≡ true
  pub unmoved : is_forwarded (slice_index sheet.words (word_in base a)) ≡ false
  pub map_is : map_at catalog sheet (word_in base a) ≡ Some map
  pub fits : FitsImages catalog base book images
  pub named : get book a ≡ Some n

page_is : (base : ℕ) (image : PageImage) (a : ℕ) → begins_at base image a ≡ true → page_in base a ≡ image.page
page_is base image a begins =
    eqb-true (page_in base a) image.page
    (and_parts (is_address base a) (page_in base a == image.page) (and_parts (is_address base a && (page_in base a == image.page)) (is_start image.sheet (word_in base a)) begins).0).1

-- an object that is held lies on the sheet of its page
pub there_of : (catalog : List Fields) (base : ℕ) (book : Book) (h : Holding) (a n : ℕ) (map : Fields) → IsHeldAs catalog base book h a n map
    → (image : PageImage) × (image_in h (page_in base a) ≡ Some image) × IsThere catalog base book (left_images h) a n map image.sheet
there_of catalog base book h a n map held = of (image_in h (page_in base a)) refl
  where
    of : (o : Option PageImage) → image_in h (page_in base a) ≡ o
        → (image : PageImage) × (image_in h (page_in base a) ≡ Some image) × IsThere catalog base book (left_images h) a n map image.sheet
    of None none = absurd (true≢false (sym held.object ∙ ap (λ (o : Option PageImage). begins_in base o a) none))
    of (Some image) is =
        let begins : begins_at base image a ≡ true = sym (ap (λ (o : Option PageImage). begins_in base o a) is) ∙ held.object in
        let sound : ImageHasForm catalog held.refers image = held.form (page_in base a) image is in
        let objects = objects_of catalog held.refers image.page image.sheet (word_in base a) sound (start_of base image a begins) in (
          image,
          is,
          record {
            on = get-left_images h (page_in base a) ∙ ap sheet_in is;
            address = address_of base image a begins;
            apart = λ e. objects.0 (sym (page_is base image a begins) ∙ e);
            laid = objects.1.laid;
            starts = start_of base image a begins;
            unmoved = is_unmoved catalog base held.refers image a sound begins;
            map_is = sym (ap (λ (o : Option PageImage). map_by catalog o (word_in base a)) is) ∙ held.map_is;
            fits = held.fits;
            named = held.named;
          },
        )

-- an object of sound images has a type map
pub map_of : (catalog : List Fields) (base : ℕ) (refers : ℕ → Bool) (h : Holding) (a : ℕ) → HaveForm catalog refers h → is_object_held base h a ≡ true → (map : Fields) × (map_held catalog base h a ≡ Some map)
map_of catalog base refers h a sound object = of (image_in h (page_in base a)) refl
  where
    of : (o : Option PageImage) → image_in h (page_in base a) ≡ o → (map : Fields) × (map_held catalog base h a ≡ Some map)
    of None none = absurd (true≢false (sym object ∙ ap (λ (o : Option PageImage). begins_in base o a) none))
    of (Some image) is =
        let begins : begins_at base image a ≡ true = sym (ap (λ (o : Option PageImage). begins_in base o a) is) ∙ object in
        let objects = objects_of catalog refers image.page image.sheet (word_in base a) (sound (page_in base a) image is) (start_of base image a begins) in
        let whole = objects.1.laid.whole (word_in base a) (start_of base image a begins) in
        let found = some_map (map_at catalog image.sheet (word_in base a)) (tail_at image.sheet (word_in base a)) whole.1 in
        (found.0, ap (λ (o : Option PageImage). map_by catalog o (word_in base a)) is ∙ found.1)

module _ (catalog : List Fields) (book : Book) (map : Fields) (sheet : Sheet) (at : ℕ) where
  -- the object at a word of a sheet is shown
  pub object_is : is_start sheet at ≡ true → is_forwarded (slice_index sheet.words at) ≡ false → map_at catalog sheet at ≡ Some map
      → object_in book catalog (Some sheet) at ≡ Some (record_by book (Some map) sheet.words at (slice_index sheet.words at))
  object_is starts unmoved map_is =
      ap (λ (b : Bool). cond (b && not (is_forwarded (slice_index sheet.words at))) (Some (record_at book catalog sheet.words at)) None) starts
      ∙ ap (λ (b : Bool). cond (not b) (Some (record_at book catalog sheet.words at)) None) unmoved
      ∙ ap (λ (o : Option Fields). Some (record_by book o sheet.words at (slice_index sheet.words at))) map_is

module _ (catalog : List Fields) (base : ℕ) (book : Book) (images : Images) (a n : ℕ) (map : Fields) (sheet : Sheet) (there : IsThere catalog base book images a n map sheet) where
  -- its record is shown under its name
  pub shown_is : get (shown_records catalog base book images) n ≡ Some (record_by book (Some map) sheet.words (word_in base a) (slice_index sheet.words (word_in base a)))
  shown_is =
      shown_at catalog base book images a n there.fits.one there.named
      ∙ cond-true (is_address base a) (object_in book catalog (get images (page_in base a)) (word_in base a)) None there.address
      ∙ ap (λ (s : Option Sheet). object_in book catalog s (word_in base a)) there.on
      ∙ object_is catalog book map sheet (word_in base a) there.starts there.unmoved there.map_is
