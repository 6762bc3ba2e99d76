-- A read of a place is a read of the part that is left.
use Rattle.std.proofs.Common.{◌≡◌, ◌∙◌, ℕ, Bool, true, false, cond, List, Option, Some, None, Err, is_some, refl, sym, ap, subst}
use Rattle.std.specs.Prelude.{slice_index}
use Rattle.std.specs.Option.{option_map}
use Rattle.std.specs.FinMap.{get}
use mathlib.Core.Bool.{true≢false}
use Rattle.pm3_types.specs.Fields.{Fields, is_reference}
use Rattle.pm3_types.specs.declared.places.Place.TheVariants as in_records
use Rattle.pm3_types.specs.Record.{Record}
use Rattle.pm3_types.specs.Graph.{Part}
use Rattle.pm3_types.specs.Places.{is_place, is_place_by, value_at}
use Rattle.pm3_types.specs.Layout.{Sheet, PageImage, page_in, word_in}
use Rattle.pm3_types.specs.PageForm.{IsReferenceIn, map_at, tail_at}
use Rattle.pm3_types.specs.Shown.{Book, Images, IsKnown, record_by, shown}
use Rattle.pm3_graph.specs.declared.operations.Op.TheVariants as ops
use Rattle.pm3_graph.specs.declared.operations.PlainFault.TheVariants.{NoPlace}
use Rattle.pm3_graph.specs.Operation.{outcome, read_of, step_if, IsStep}
use Rattle.pm3_access.specs.declared.places.Place.{Place}
use Rattle.pm3_access.specs.declared.places.Place.TheVariants.{Field, Tail, Byte}
use Rattle.pm3_access.specs.declared.spots.Spot.{Spot}
use Rattle.pm3_access.specs.Spots.{spot_by, spot_in, spot_at, value_in}
use Rattle.pm3_access.specs.Access.{value_by, value_held}
use Rattle.pm3_access.specs.Spots.{has_names}
use Rattle.pm3_access.specs.Acts.{left_images, left_part, read_op, answer_of, IsHeldAs}
use Rattle.pm3_access.specs.Holding.{Holding, image_in}
use Rattle.pm3_access.proofs.Homes.{is_some_none}
use Rattle.pm3_access.proofs.RecordPlaces.{place_of, place_is, value_is, reference_at}
use Rattle.pm3_access.proofs.HeldObjects.{IsThere, there_of, shown_is}

-- the operation is a read of that place of the record
reads_as : (catalog : List Fields) (map : Fields) (n : ℕ) (place : Place) (g : Part) → outcome catalog (read_op map n place) g ≡ read_of catalog g n (place_of map place) (get g.records n)
reads_as catalog map n (Field f) g = of (is_reference map f)
  where
    of : (b : Bool) → outcome catalog (cond b (ops.Reference n f) (ops.Word n f)) g ≡ read_of catalog g n (cond b (in_records.Reference f) (in_records.Word f)) (get g.records n)
    of true = refl
    of false = refl
reads_as catalog map n (Tail k) g = refl
reads_as catalog map n (Byte k) g = refl

-- the record of the object has the place exactly where there is a spot for it
pub is_place_is : (catalog : List Fields) (book : Book) (map : Fields) (sheet : Sheet) (at : ℕ) (place : Place) → map_at catalog sheet at ≡ Some map
    → is_place catalog (record_by book (Some map) sheet.words at (slice_index sheet.words at)) (place_of map place) ≡ is_some (spot_by map (tail_at sheet at) place)
is_place_is catalog book map sheet at place map_is =
    ap (λ (o : Option Fields). is_place_by o (record_by book (Some map) sheet.words at (slice_index sheet.words at)) (place_of map place)) map_is
    ∙ place_is book map sheet.words at (slice_index sheet.words at) place

module _ (catalog : List Fields) (base : ℕ) (book : Book) (images : Images) (a n : ℕ) (map : Fields) (sheet : Sheet) (there : IsThere catalog base book images a n map sheet) (place : Place) where
  abbrev r : Record
  r = record_by book (Some map) sheet.words (word_in base a) (slice_index sheet.words (word_in base a))

  abbrev g : Part
  g = shown catalog base book images

  read_is : outcome catalog (read_op map n place) g ≡ step_if (is_some (spot_by map (tail_at sheet (word_in base a)) place)) (value_at r (place_of map place)) g
  read_is =
      reads_as catalog map n place g
      ∙ ap (read_of catalog g n (place_of map place)) (shown_is catalog base book images a n map sheet there)
      ∙ ap (λ (b : Bool). step_if b (value_at r (place_of map place)) g) (is_place_is catalog book map sheet (word_in base a) place there.map_is)

  -- what is read is the answer
  pub read_at : (v : ℕ) → option_map (value_in sheet.words (word_in base a)) (spot_by map (tail_at sheet (word_in base a)) place) ≡ Some v
      → IsStep catalog (read_op map n place) g (answer_of book map place v) g
  read_at v is =
      read_is
      ∙ ap (λ (b : Bool). step_if b (value_at r (place_of map place)) g) (some_spot (spot_by map (tail_at sheet (word_in base a)) place) is)
      ∙ ap (λ (answer : ℕ). step_if true answer g) (value_is book map sheet.words (word_in base a) (slice_index sheet.words (word_in base a)) place v is)
    where
      some_spot : (o : Option Spot) → option_map (value_in sheet.words (word_in base a)) o ≡ Some v → is_some o ≡ true
      some_spot None e = absurd (is_some_none v e)
      some_spot (Some spot) e = refl

  -- there is no step where there is no place
  pub not_read_at : spot_by map (tail_at sheet (word_in base a)) place ≡ None → outcome catalog (read_op map n place) g ≡ Err NoPlace
  not_read_at none = read_is ∙ ap (λ (o : Option Spot). step_if (is_some o) (value_at r (place_of map place)) g) none

module _ (catalog : List Fields) (base : ℕ) (book : Book) (h : Holding) (a n : ℕ) (map : Fields) (place : Place) (held : IsHeldAs catalog base book h a n map) where
  -- the spot of the place in the image of the page
  pub spot_is : (image : PageImage) → IsThere catalog base book (left_images h) a n map image.sheet → spot_at catalog image.sheet (word_in base a) place ≡ spot_by map (tail_at image.sheet (word_in base a)) place
  spot_is image there = ap (λ (o : Option Fields). spot_in o (tail_at image.sheet (word_in base a)) place) there.map_is

  value_from : (image : PageImage) → image_in h (page_in base a) ≡ Some image → IsThere catalog base book (left_images h) a n map image.sheet
      → value_held catalog base h a place ≡ option_map (value_in image.sheet.words (word_in base a)) (spot_by map (tail_at image.sheet (word_in base a)) place)
  value_from image is there =
      ap (λ (o : Option PageImage). value_by catalog o (word_in base a) place) is
      ∙ ap (option_map (value_in image.sheet.words (word_in base a))) (spot_is image there)

  pub read_step : (v : ℕ) → value_held catalog base h a place ≡ Some v → IsStep catalog (read_op map n place) (left_part catalog base book h) (answer_of book map place v) (left_part catalog base book h)
  read_step v is =
      let there = there_of catalog base book h a n map held in
      read_at catalog base book (left_images h) a n map there.0.sheet there.2 place v (sym (value_from there.0 there.1 there.2) ∙ is)

  -- an address that is read is in the book
  pub read_known : (v : ℕ) → has_names map place ≡ true → value_held catalog base h a place ≡ Some v → IsKnown book v
  read_known v names is =
      let there = there_of catalog base book h a n map held in
      let reference = reference_at map there.0.sheet.words (word_in base a) (tail_at there.0.sheet (word_in base a)) place v names (sym (value_from there.0 there.1 there.2) ∙ is) in
      subst (IsKnown book) reference.2
      (there.2.fits.references a n reference.0 there.0.sheet there.2.named there.2.on
      (subst (λ (o : Option Fields). IsReferenceIn o (tail_at there.0.sheet (word_in base a)) reference.0) (sym there.2.map_is) reference.1))

  pub no_read_step : value_held catalog base h a place ≡ None → outcome catalog (read_op map n place) (left_part catalog base book h) ≡ Err NoPlace
  no_read_step none =
      let there = there_of catalog base book h a n map held in
      not_read_at catalog base book (left_images h) a n map there.0.sheet there.2 place (no_spot there.0.sheet.words (word_in base a) _ (sym (value_from there.0 there.1 there.2) ∙ none))
    where
      no_spot : (words : List ℕ) (at : ℕ) (o : Option Spot) → option_map (value_in words at) o ≡ None → o ≡ None
      no_spot words at None e = refl
      no_spot words at (Some spot) e = absurd (true≢false (ap is_some e))
