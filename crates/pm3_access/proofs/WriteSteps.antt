-- A write to a place is a write to the part that is left, and the book still fits.
use Rattle.std.proofs.Common.{◌≡◌, ◌<◌, ◌+◌, ◌-◌, ◌/◌, ◌%◌, ◌&&◌, ◌∙◌, nat_lt, ℕ, Bool, true, false, cond, List, length, Option, Some, None, Ok, Err, is_some, inl, inr, refl, sym, ap, subst, arith, get_or-set_other}
use Rattle.std.proofs.lemmas.Bool.{and_parts, ltb-true}
use Rattle.std.specs.Prelude.{slice_get, slice_index}
use Rattle.std.specs.Option.{option_map}
use Rattle.std.specs.FinMap.{get, insert}
use mathlib.Core.Bool.{true≢false}
use Rattle.pm3_types.specs.Fields.{Fields, is_reference, has_refs, has_bytes}
use Rattle.pm3_types.specs.declared.type_map.Tail as tails
use Rattle.pm3_types.specs.declared.type_map.Tail.TheVariants.{Empty, Refs, Bytes}
use Rattle.pm3_types.specs.declared.places.Place.TheVariants as in_records
use Rattle.pm3_types.specs.Record.{Record}
use Rattle.pm3_types.specs.Graph.{Part}
use Rattle.pm3_types.specs.Places.{with_value}
use Rattle.pm3_types.specs.Layout.{Sheet, PageImage, is_forwarded, type_in, page_in, word_in, size_by, size_at, with_word}
use Rattle.pm3_types.specs.PageForm.{IsReferenceIn, IsTailReference, tail_at}
use Rattle.pm3_types.specs.Shown.{Book, Images, IsKnown, FitsImages, record_by, object_in, roots_in, shown_records, shown}
use Rattle.pm3_types.proofs.Addressing.{word_in-lt, address_of}
use Rattle.pm3_types.proofs.OneObject.{one_object}
use Rattle.pm3_types.proofs.Writes.{others_kept}
use Rattle.pm3_graph.specs.declared.operations.Op.TheVariants as ops
use Rattle.pm3_graph.specs.declared.operations.PlainFault.TheVariants.{NoPlace}
use Rattle.pm3_graph.specs.Operation.{outcome, write_of, step_if, with_record, IsStep}
use Rattle.pm3_access.specs.declared.places.Place.{Place}
use Rattle.pm3_access.specs.declared.places.Place.TheVariants.{Field, Tail, Byte}
use Rattle.pm3_access.specs.declared.spots.Spot.{Spot}
use Rattle.pm3_access.specs.declared.spots.Spot.TheVariants.{Word, ByteOf}
use Rattle.pm3_access.specs.Spots.{spot_by, word_of, with_value_in, IsValueFor}
use Rattle.pm3_access.specs.Access.{written_by, value_written}
use Rattle.pm3_access.specs.Acts.{left_images, left_part, write_with, write_op, answer_of, IsHeldAs}
use Rattle.pm3_access.specs.Spots.{has_names}
use Rattle.pm3_access.specs.Holding.{Holding, image_in}
use Rattle.pm3_access.proofs.Homes.{is_some_none, some_of}
use Rattle.pm3_access.proofs.HeldSheets.{sheet_other, changed, written_is, left_changed}
use Rattle.pm3_access.proofs.RecordPlaces.{place_of}
use Rattle.pm3_access.proofs.RecordWrites.{word_written, spot_found, with_value_is, spot_within, record_written}
use Rattle.pm3_access.proofs.HeldObjects.{IsThere, there_of, object_is, shown_is}
use Rattle.pm3_access.proofs.ReadSteps.{is_place_is, spot_is}
use Rattle.pm3_access.proofs.FitsWritten.{still_fits}

-- the operation is a write to that place of the record
writes_as : (catalog : List Fields) (map : Fields) (n : ℕ) (place : Place) (x : ℕ) (g : Part) → outcome catalog (write_with map n place x) g ≡ write_of catalog g n (place_of map place) x (get g.records n)
writes_as catalog map n (Field f) x g = of (is_reference map f)
  where
    of : (b : Bool)
        → outcome catalog (cond b (ops.SetReference n f x) (ops.SetWord n f x)) g ≡ write_of catalog g n (cond b (in_records.Reference f) (in_records.Word f)) x (get g.records n)
    of true = refl
    of false = refl
writes_as catalog map n (Tail k) x g = refl
writes_as catalog map n (Byte k) x g = refl

-- page 2 has the same roots
pub same_roots : (catalog : List Fields) (base : ℕ) (book : Book) (images now : Images) (o : Option Sheet) → roots_in catalog base book now o ≡ roots_in catalog base book images o
same_roots catalog base book images now None = refl
same_roots catalog base book images now (Some sheet) = refl

module _ (catalog : List Fields) (base : ℕ) (book : Book) (images : Images) (a n : ℕ) (map : Fields) (sheet : Sheet) (there : IsThere catalog base book images a n map sheet) (place : Place) (v : ℕ) where
  abbrev w : ℕ
  w = word_in base a

  abbrev r : Record
  r = record_by book (Some map) sheet.words w (slice_index sheet.words w)

  abbrev g : Part
  g = shown catalog base book images

  abbrev x : ℕ
  x = answer_of book map place v

  write_is : outcome catalog (write_op book map n place v) g ≡ step_if (is_some (spot_by map (tail_at sheet w) place)) 0 (with_record g n (with_value r (place_of map place) x))
  write_is =
      writes_as catalog map n place x g
      ∙ ap (write_of catalog g n (place_of map place) x) (shown_is catalog base book images a n map sheet there)
      ∙ ap (λ (b : Bool). step_if b 0 (with_record g n (with_value r (place_of map place) x))) (is_place_is catalog book map sheet w place there.map_is)

  -- there is no step where there is no place
  pub not_written_at : spot_by map (tail_at sheet w) place ≡ None → outcome catalog (write_op book map n place v) g ≡ Err NoPlace
  not_written_at none = write_is ∙ ap (λ (o : Option Spot). step_if (is_some o) 0 (with_record g n (with_value r (place_of map place) x))) none

  module _ (spot : Spot) (found : spot_by map (tail_at sheet w) place ≡ Some spot) where
    abbrev i : ℕ
    i = w + 2 + word_of spot

    abbrev word : ℕ
    word = word_written sheet.words w spot v

    abbrev now : Sheet
    now = with_word sheet i word

    until : i < w + size_at catalog sheet w
    until =
        let low = spot_within map (tail_at sheet w) place spot found in
        let size : size_at catalog sheet w ≡ size_by (Some map) (tail_at sheet w) = ap (λ (o : Option Fields). size_by o (tail_at sheet w)) there.map_is in
        omega (arith, low, size)

    within : i < length sheet.words
    within = let whole = there.laid.whole w there.starts in omega (arith, until, whole.2, there.laid.end.1, there.laid.words)

    head_same : slice_index now.words w ≡ slice_index sheet.words w
    head_same = get_or-set_other sheet.words i w word 0 (λ e. omega arith)

    -- the object shows the record with that value
    written_object : IsValueFor place v → object_in book catalog (Some now) w ≡ Some (with_value r (place_of map place) x)
    written_object value =
        object_is catalog book map now w there.starts (ap is_forwarded head_same ∙ there.unmoved) (ap (λ (head : ℕ). slice_get catalog (type_in head)) head_same ∙ there.map_is)
        ∙ ap (λ (head : ℕ). Some (record_by book (Some map) now.words w head)) head_same
        ∙ ap Some (record_written book map sheet.words w (slice_index sheet.words w) place v spot found value within)

    shown_written : IsValueFor place v → shown catalog base book (insert images (page_in base a) now) ≡ with_record g n (with_value r (place_of map place) x)
    shown_written value =
        let records : shown_records catalog base book (insert images (page_in base a) now) ≡ insert (shown_records catalog base book images) n (with_value r (place_of map place) x) =
        one_object catalog base book images (page_in base a) w n sheet now (with_value r (place_of map place) x) there.fits.one (word_in-lt base a) there.on
        (ap (get book) (address_of base a there.address) ∙ there.named)
        (λ t apart. others_kept catalog sheet w i word there.laid there.starts (omega arith) until book t apart) (written_object value) in
        let roots : roots_in catalog base book (insert images (page_in base a) now) (get (insert images (page_in base a) now) 2) ≡ roots_in catalog base book images (get images 2) =
        same_roots catalog base book images (insert images (page_in base a) now) (get (insert images (page_in base a) now) 2)
        ∙ ap (roots_in catalog base book images) (sheet_other images (page_in base a) 2 now (λ e. there.apart (sym e))) in
        λ j. record { records = records j; roots = roots j }

    -- what is written is the step
    pub written_at : IsValueFor place v → IsStep catalog (write_op book map n place v) g 0 (shown catalog base book (insert images (page_in base a) now))
    written_at value =
        write_is
        ∙ ap (λ (o : Option Spot). step_if (is_some o) 0 (with_record g n (with_value r (place_of map place) x))) found
        ∙ ap (λ (h : Part). step_if true 0 h) (sym (shown_written value))

-- a word of a reference place that was written is known
known_word : (book : Book) (map : Fields) (len : ℕ) (place : Place) (spot : Spot) (v : ℕ) (words : List ℕ) (at k : ℕ) → spot_by map len place ≡ Some spot → (has_names map place ≡ true → IsKnown book v)
    → IsReferenceIn (Some map) len k → k ≡ word_of spot → IsKnown book (word_written words at spot v)
known_word book map len (Field f) spot v words at k found known ref same =
    let parts = spot_found (nat_lt f map.count) (Word f) spot found in
    subst (λ (s : Spot). k ≡ word_of s → IsKnown book (word_written words at s v)) parts.1 (λ e. of e ref) same
  where
    of : k ≡ f → IsReferenceIn (Some map) len k → IsKnown book v
    of e (inl is) = known (ap (is_reference map) (sym e) ∙ is.1)
    of e (inr is) = (let low = ltb-true f map.count (spot_found (nat_lt f map.count) (Word f) spot found).0 in let past = is.0 in absurd (omega arith))
known_word book map len (Tail j) spot v words at k found known ref same =
    let parts = spot_found (has_refs map.tail && nat_lt j len) (Word (map.count + j)) spot found in
    let tests = and_parts (has_refs map.tail) (nat_lt j len) parts.0 in
    subst (λ (s : Spot). IsKnown book (word_written words at s v)) parts.1 (known tests.0)
known_word book map len (Byte j) spot v words at k found known ref same =
    let parts = spot_found (has_bytes map.tail && nat_lt j len) (ByteOf (map.count + j / 8) (j % 8)) spot found in
    let tests = and_parts (has_bytes map.tail) (nat_lt j len) parts.0 in
    let place : map.count + j / 8 ≡ word_of spot = ap word_of parts.1 in
    absurd (none tests.0 place ref)
  where
    no_names : (tail : tails.Tail) (i : ℕ) → has_bytes tail ≡ true → IsTailReference tail len i → ⊥
    no_names Empty i is ref = true≢false (sym is)
    no_names Refs i is ref = true≢false (sym is)
    no_names Bytes i is ref = ref

    none : has_bytes map.tail ≡ true → map.count + j / 8 ≡ word_of spot → IsReferenceIn (Some map) len k → ⊥
    none is place (inl low) = (let below = low.0 in omega arith)
    none is place (inr tail) = no_names map.tail (k - map.count) is tail.1

module _ (catalog : List Fields) (base : ℕ) (book : Book) (h : Holding) (a n : ℕ) (map : Fields) (place : Place) (v : ℕ) (held : IsHeldAs catalog base book h a n map) where
  abbrev there : (image : PageImage) × (image_in h (page_in base a) ≡ Some image) × IsThere catalog base book (left_images h) a n map image.sheet
  there = there_of catalog base book h a n map held

  abbrev image : PageImage
  image = there.0

  abbrev spots : Option Spot
  spots = spot_by map (tail_at image.sheet (word_in base a)) place

  written_from : value_written catalog base h a place v ≡ option_map (changed h (page_in base a)) (option_map (λ spot. with_value_in image (word_in base a) spot v) spots)
  written_from =
      written_is catalog base h a place v
      ∙ ap (λ (o : Option PageImage). option_map (changed h (page_in base a)) (written_by catalog o (word_in base a) place v)) there.1
      ∙ ap (λ (o : Option Spot). option_map (changed h (page_in base a)) (option_map (λ spot. with_value_in image (word_in base a) spot v) o)) (spot_is catalog base book h a n map place held image there.2)

  -- one word of one sheet is another
  abbrev IsWrittenTo : Holding → Spot → Type 0
  IsWrittenTo new spot =
      (spots ≡ Some spot)
      × (left_images new ≡ insert (left_images h) (page_in base a) (with_word image.sheet (word_in base a + 2 + word_of spot) (word_written image.sheet.words (word_in base a) spot v)))

  spot_of : (new : Holding) → value_written catalog base h a place v ≡ Some new → (spot : Spot) × IsWrittenTo new spot
  spot_of new is = of spots refl (sym written_from ∙ is)
    where
      of : (o : Option Spot) → spots ≡ o → option_map (changed h (page_in base a)) (option_map (λ spot. with_value_in image (word_in base a) spot v) o) ≡ Some new → (spot : Spot) × IsWrittenTo new spot
      of None found e = absurd (is_some_none new e)
      of (Some spot) found e = (
        spot,
        (
          found,
          ap left_images (sym (some_of (changed h (page_in base a) (with_value_in image (word_in base a) spot v)) new e))
              ∙ left_changed h (page_in base a) image (with_value_in image (word_in base a) spot v) there.1
              ∙ ap (λ (i : PageImage). insert (left_images h) (page_in base a) i.sheet) (with_value_is image (word_in base a) spot v),
        ),
      )

  pub write_step : (new : Holding) → IsValueFor place v → value_written catalog base h a place v ≡ Some new
      → IsStep catalog (write_op book map n place v) (left_part catalog base book h) 0 (left_part catalog base book new)
  write_step new value is =
      let spot = spot_of new is in
      written_at catalog base book (left_images h) a n map image.sheet there.2 place v spot.0 spot.1.0 value
      ∙ ap (λ (images : Images). Ok (0, shown catalog base book images)) (sym spot.1.1)

  pub write_fits : (new : Holding) → (has_names map place ≡ true → IsKnown book v) → value_written catalog base h a place v ≡ Some new → FitsImages catalog base book (left_images new)
  write_fits new known is =
      let spot = spot_of new is in
      subst (FitsImages catalog base book) (sym spot.1.1)
      (still_fits catalog base book (left_images h) a n map image.sheet there.2 (word_in base a + 2 + word_of spot.0) (word_written image.sheet.words (word_in base a) spot.0 v) (omega arith)
      (until catalog base book (left_images h) a n map image.sheet there.2 place v spot.0 spot.1.0)
      (λ k ref e. known_word book map (tail_at image.sheet (word_in base a)) place spot.0 v image.sheet.words (word_in base a) k spot.1.0 known
      (subst (λ (o : Option Fields). IsReferenceIn o (tail_at image.sheet (word_in base a)) k) there.2.map_is ref) (omega arith)))

  pub no_write_step : value_written catalog base h a place v ≡ None → outcome catalog (write_op book map n place v) (left_part catalog base book h) ≡ Err NoPlace
  no_write_step none = not_written_at catalog base book (left_images h) a n map image.sheet there.2 place v (no_spot spots (sym written_from ∙ none))
    where
      no_spot : (o : Option Spot) → option_map (changed h (page_in base a)) (option_map (λ spot. with_value_in image (word_in base a) spot v) o) ≡ None → o ≡ None
      no_spot None e = refl
      no_spot (Some spot) e = absurd (true≢false (ap is_some e))
