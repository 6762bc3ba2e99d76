-- A value written at a place of an object leaves the form of the page.
use Rattle.std.proofs.Common.{◌≡◌, ◌<◌, ◌+◌, ◌-◌, ◌*◌, ◌/◌, ◌%◌, ◌&&◌, ◌∙◌, inl, inr, ℕ, Bool, true, false, ltb, List, get_or, Option, Some, None, refl, sym, ap, subst, arith}
use Rattle.std.specs.Option.{option_map}
use Rattle.std.proofs.lemmas.Bool.{and_parts, ltb-true, false≢true}
use Rattle.pm3_types.specs.Fields.{Fields, is_reference, has_refs, has_bytes}
use Rattle.pm3_types.specs.declared.type_map.Tail.{Tail}
use Rattle.pm3_types.specs.declared.type_map.Tail.TheVariants as tails
use Rattle.pm3_types.specs.Layout.{PageImage, is_start, tail_words, size_by, size_at, with_word_at}
use Rattle.pm3_types.specs.PageForm.{IsReferenceIn, IsTailReference, IsTailBytes, is_padded, map_at, tail_at}
use Rattle.pm3_access.specs.declared.places.Place.{Place}
use Rattle.pm3_access.specs.declared.places.Place.TheVariants.{Field, Tail as Item, Byte}
use Rattle.pm3_access.specs.declared.spots.Spot.{Spot}
use Rattle.pm3_access.specs.declared.spots.Spot.TheVariants.{Word, ByteOf}
use Rattle.pm3_access.specs.Spots.{spot_if, spot_in, with_byte, with_value_in, with_value_at_place, IsValueFor}
use Rattle.pm3_access.specs.Access.{ImageHasForm}
use Rattle.pm3_access.specs.Sound.{refers_by}
use Rattle.pm3_access.proofs.Homes.{some_of, is_some_none}
use Rattle.pm3_types.proofs.FormedObjects.{objects_of}
use Rattle.pm3_access.proofs.Sounding.{objects_written}
use Rattle.pm3_access.proofs.SoundingBytes.{byte_padded}

field_refers : (map : Fields) (len f : ℕ) → f < map.count → IsReferenceIn (Some map) len f → is_reference map f ≡ true
field_refers map len f low (inl item) = item.1
field_refers map len f low (inr item) = absurd (omega (arith, item.0))

no_reference : (map : Fields) (len j : ℕ) → map.tail ≡ tails.Bytes → IsReferenceIn (Some map) len (map.count + j) → ⊥
no_reference map len j bytes (inl item) = omega (arith, item.0)
no_reference map len j bytes (inr item) = subst (λ (t : Tail). IsTailReference t len (map.count + j - map.count)) bytes item.1

refs_tail : (t : Tail) (len : ℕ) → has_refs t ≡ true → tail_words t len ≡ len
refs_tail tails.Empty len is = absurd (false≢true is)
refs_tail tails.Refs len is = refl
refs_tail tails.Bytes len is = absurd (false≢true is)

bytes_tail : (t : Tail) → has_bytes t ≡ true → t ≡ tails.Bytes
bytes_tail tails.Empty is = absurd (false≢true is)
bytes_tail tails.Refs is = absurd (false≢true is)
bytes_tail tails.Bytes is = refl

if_spot : (image new : PageImage) (at v : ℕ) (b : Bool) (s : Spot) → option_map (λ spot. with_value_in image at spot v) (spot_if b s) ≡ Some new → (b ≡ true) × (with_value_in image at s v ≡ new)
if_spot image new at v true s e = (refl, some_of _ _ e)
if_spot image new at v false s e = absurd (is_some_none new e)

module _ (catalog : List Fields) (base : ℕ) (refers : ℕ → Bool) (image : PageImage) (at : ℕ) (form : ImageHasForm catalog refers image) (start : is_start image.sheet at ≡ true) where
  abbrev len : ℕ
  len = tail_at image.sheet at

  -- another word of the object's body
  sound_word : (k w : ℕ) → 2 + k < size_at catalog image.sheet at
      → (IsReferenceIn (map_at catalog image.sheet at) len k → refers w ≡ true)
      → ((j : ℕ) → IsTailBytes (map_at catalog image.sheet at) len j k → is_padded (len - 8 * j) w ≡ true)
      → ImageHasForm catalog refers (with_word_at image (at + 2 + k) w)
  sound_word k w within refer pad =
      let parts = objects_of catalog refers image.page image.sheet at form start in
      record {
        roots = λ e. absurd (parts.0 e);
        objects = λ apart. inr (objects_written catalog refers image.page image.sheet at (at + 2 + k) w parts.1 start (omega arith) (omega arith)
            (λ m e item. refer (subst (λ (n : ℕ). IsReferenceIn (map_at catalog image.sheet at) len n) (omega arith) item))
            (λ j m e item. pad j (subst (λ (n : ℕ). IsTailBytes (map_at catalog image.sheet at) len j n) (omega arith) item)));
      }

  module _ (map : Fields) (is : map_at catalog image.sheet at ≡ Some map) where
    size : size_at catalog image.sheet at ≡ 2 + map.count + tail_words map.tail len
    size = ap (λ (o : Option Fields). size_by o len) is

    field_written : (f v : ℕ) → f < map.count → (is_reference map f ≡ true → refers v ≡ true)
        → ImageHasForm catalog refers (with_word_at image (at + 2 + f) v)
    field_written f v low value = sound_word f v (omega (arith, size))
        (λ item. value (field_refers map len f low (subst (λ (o : Option Fields). IsReferenceIn o len f) is item)))
        (λ j item. (let bytes = subst (λ (o : Option Fields). IsTailBytes o len j f) is item in absurd (omega (arith, bytes.2))))

    item_written : (k v : ℕ) → has_refs map.tail ≡ true → k < len → refers v ≡ true
        → ImageHasForm catalog refers (with_word_at image (at + 2 + (map.count + k)) v)
    item_written k v refs low value = sound_word (map.count + k) v (omega (arith, size, refs_tail map.tail len refs))
        (λ item. value)
        (λ j item. (let bytes = subst (λ (o : Option Fields). IsTailBytes o len j (map.count + k)) is item in
        absurd (false≢true (sym (ap has_refs bytes.0) ∙ refs))))

    byte_written : (k v : ℕ) → has_bytes map.tail ≡ true → k < len → v < 256
        → ImageHasForm catalog refers (with_word_at image (at + 2 + (map.count + k / 8)) (with_byte (get_or image.sheet.words (at + 2 + (map.count + k / 8)) 0) (k % 8) v))
    byte_written k v has low byte =
        let bytes = bytes_tail map.tail has in
        let words : tail_words map.tail len ≡ (len + 7) / 8 = ap (λ (t : Tail). tail_words t len) bytes in
        let parts = objects_of catalog refers image.page image.sheet at form start in
        sound_word (map.count + k / 8) (with_byte (get_or image.sheet.words (at + 2 + (map.count + k / 8)) 0) (k % 8) v) (omega (arith, size, words))
        (λ item. absurd (no_reference map len (k / 8) bytes (subst (λ (o : Option Fields). IsReferenceIn o len (map.count + k / 8)) is item)))
        (λ j item. (let own = subst (λ (o : Option Fields). IsTailBytes o len j (map.count + k / 8)) is item in
        byte_padded (len - 8 * j) (get_or image.sheet.words (at + 2 + (map.count + k / 8)) 0) (k % 8) v (omega (arith, own.2)) (omega arith) byte
        (parts.1.padding at j (map.count + k / 8) start item)))

  by_spot : (new : PageImage) (o : Option Fields) (place : Place) (v : ℕ) → map_at catalog image.sheet at ≡ o → IsValueFor place v
      → (refers_by o place ≡ true → refers v ≡ true)
      → option_map (λ spot. with_value_in image at spot v) (spot_in o len place) ≡ Some new → ImageHasForm catalog refers new
  by_spot new None place v is value sound e = absurd (is_some_none new e)
  by_spot new (Some map) (Field f) v is value sound e =
      let found = if_spot image new at v (ltb f map.count) (Word f) e in
      subst (ImageHasForm catalog refers) found.1 (field_written map is f v (ltb-true f map.count found.0) sound)
  by_spot new (Some map) (Item k) v is value sound e =
      let found = if_spot image new at v (has_refs map.tail && ltb k len) (Word (map.count + k)) e in
      let tests = and_parts (has_refs map.tail) (ltb k len) found.0 in
      subst (ImageHasForm catalog refers) found.1 (item_written map is k v tests.0 (ltb-true k len tests.1) (sound tests.0))
  by_spot new (Some map) (Byte k) v is value sound e =
      let found = if_spot image new at v (has_bytes map.tail && ltb k len) (ByteOf (map.count + k / 8) (k % 8)) e in
      let tests = and_parts (has_bytes map.tail) (ltb k len) found.0 in
      subst (ImageHasForm catalog refers) found.1 (byte_written map is k v tests.0 (ltb-true k len tests.1) value)

  -- the image is sound still, where the value is a reference if the place is that of one
  pub sound_written : (new : PageImage) (place : Place) (v : ℕ) → IsValueFor place v
      → (refers_by (map_at catalog image.sheet at) place ≡ true → refers v ≡ true)
      → with_value_at_place catalog image at place v ≡ Some new → ImageHasForm catalog refers new
  sound_written new place v value sound e = by_spot new (map_at catalog image.sheet at) place v refl value sound e
