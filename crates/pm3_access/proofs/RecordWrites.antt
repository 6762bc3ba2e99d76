-- The record of an object in which a place was written.
use Rattle.std.proofs.Common.{◌≡◌, ◌≢◌, ◌<◌, ◌≤◌, ◌+◌, ◌/◌, ◌%◌, ◌&&◌, ◌∙◌, inl, inr, ℕ, zero, suc, Bool, true, false, cond, List, length, get_or, set, Some, refl, sym, ap, subst, arith, length-set, get_or-set_other, get_or-set_same, nat_lt}
use Rattle.std.proofs.lemmas.Bool.{cases_eq, and_parts, ltb-true}
use Rattle.std.proofs.lemmas.Nat.{le_bytes_8}
use Rattle.std.specs.Int.{w64, to_le_bytes, from_le_bytes, bytes_low_first, byte_at}
use mathlib.Core.Bool.{true≢false}
use Rattle.pm3_types.specs.Fields.{Fields, is_reference, has_refs, has_bytes}
use Rattle.pm3_types.specs.declared.type_map.Tail as tails
use Rattle.pm3_types.specs.declared.type_map.Tail.TheVariants.{Empty, Refs, Bytes}
use Rattle.pm3_types.specs.declared.places.Place.TheVariants as in_records
use Rattle.pm3_types.specs.Record.{Record}
use Rattle.pm3_types.specs.Layout.{PageImage, tail_in, tail_words, size_by, with_word_at}
use Rattle.pm3_types.specs.Places.{with_value, with_field}
use Rattle.pm3_types.specs.Shown.{Book, name_by, byte_in, list_of, field_of, tail_of, record_by}
use Rattle.pm3_types.proofs.Writes.{alike}
use Rattle.pm3_types.proofs.PlaceWrites.{list_of-set, field_written}
use Rattle.pm3_access.specs.declared.places.Place.{Place}
use Rattle.pm3_access.specs.declared.places.Place.TheVariants.{Field, Tail, Byte}
use Rattle.pm3_access.specs.declared.spots.Spot.{Spot}
use Rattle.pm3_access.specs.declared.spots.Spot.TheVariants.{Word, ByteOf}
use Rattle.pm3_access.specs.Spots.{spot_if, spot_by, word_of, byte_of, with_byte, with_value_in, IsValueFor}
use Rattle.pm3_access.specs.Acts.{answer_of}
use Rattle.pm3_access.proofs.Homes.{is_some_none, some_of}
use Rattle.pm3_access.proofs.RecordPlaces.{place_of, byte_is}

-- the word that stands there after a write
abbrev pub word_written : List ℕ → ℕ → Spot → ℕ → ℕ
word_written words at (Word k) v = v
word_written words at (ByteOf k j) v = with_byte (get_or words (at + 2 + k) 0) j v

pub with_value_is : (image : PageImage) (at : ℕ) (spot : Spot) (v : ℕ) → with_value_in image at spot v ≡ with_word_at image (at + 2 + word_of spot) (word_written image.sheet.words at spot v)
with_value_is image at (Word k) v = refl
with_value_is image at (ByteOf k j) v = refl

-- the bytes of a word are bytes
byte_low : (from word : ℕ) → byte_at from word < 256
byte_low zero word = omega arith
byte_low (suc from) word = omega arith

bytes_low : (from n word i : ℕ) → get_or (bytes_low_first from n word) i 0 < 256
bytes_low from zero word i = omega arith
bytes_low from (suc n) word zero = byte_low from word
bytes_low from (suc n) word (suc i) = bytes_low (suc from) n word i

module _ (word j v : ℕ) (low : j < 8) (small : v < 256) where
  abbrev bytes : List ℕ
  bytes = to_le_bytes w64 word

  within : j < length bytes
  within = low

  set_low : (i : ℕ) → get_or (set bytes j v) i 0 < 256
  set_low i = elim (cases_eq i j) [
    | inl e ↦ subst (λ (b : ℕ). b < 256) (sym (ap (λ (k : ℕ). get_or (set bytes j v) k 0) e ∙ get_or-set_same bytes j v 0 within)) small
    | inr ne ↦ subst (λ (b : ℕ). b < 256) (sym (get_or-set_other bytes j i v 0 ne)) (bytes_low 0 8 word i)
  ]

  byte_set : (i : ℕ) → byte_of (with_byte word j v) i ≡ get_or (set bytes j v) i 0
  unfolding byte_of with_byte
  byte_set i = ap (λ (bs : List ℕ). get_or bs i 0) (le_bytes_8 (set bytes j v) (from_le_bytes w64 (set bytes j v)) (length-set bytes j v) set_low refl)

  -- a word with another byte has that byte, and else its bytes
  byte_here : byte_in (with_byte word j v) j ≡ v
  byte_here = sym (byte_is (with_byte word j v) j low) ∙ byte_set j ∙ get_or-set_same bytes j v 0 within

  byte_else : (i : ℕ) → i < 8 → i ≢ j → byte_in (with_byte word j v) i ≡ byte_in word i
  unfolding byte_of
  byte_else i is ne = sym (byte_is (with_byte word j v) i is) ∙ byte_set i ∙ get_or-set_other bytes j i v 0 ne ∙ byte_is word i is

module _ (book : Book) (words : List ℕ) (at len k v : ℕ) (low : k < len) where
  -- a tail with another item
  pub refs_written : (tail : tails.Tail) → has_refs tail ≡ true → at + k < length words → tail_of book tail (set words (at + k) v) at len ≡ set (tail_of book tail words at len) k (name_by book v)
  refs_written Empty is within = absurd (true≢false (sym is))
  refs_written Bytes is within = absurd (true≢false (sym is))
  refs_written Refs is within =
      list_of-set len (λ (j : ℕ). name_by book (get_or words (at + j) 0)) (λ (j : ℕ). name_by book (get_or (set words (at + k) v) (at + j) 0)) k low
      (λ j below apart. ap (name_by book) (get_or-set_other words (at + k) (at + j) v 0 (λ e. apart (omega arith))))
      ∙ ap (λ (x : ℕ). set (list_of len (λ (j : ℕ). name_by book (get_or words (at + j) 0))) k (name_by book x)) (get_or-set_same words (at + k) v 0 within)

  abbrev byte_now : ℕ
  byte_now = with_byte (get_or words (at + k / 8) 0) (k % 8) v

  bytes_written : (tail : tails.Tail) → has_bytes tail ≡ true → v < 256 → at + k / 8 < length words
      → tail_of book tail (set words (at + k / 8) (with_byte (get_or words (at + k / 8) 0) (k % 8) v)) at len ≡ set (tail_of book tail words at len) k v
  bytes_written Empty is small within = absurd (true≢false (sym is))
  bytes_written Refs is small within = absurd (true≢false (sym is))
  bytes_written Bytes is small within =
      list_of-set len (λ (j : ℕ). byte_in (get_or words (at + j / 8) 0) (j % 8)) (λ (j : ℕ). byte_in (get_or (set words (at + k / 8) byte_now) (at + j / 8) 0) (j % 8)) k low others
      ∙ ap (set (list_of len (λ (j : ℕ). byte_in (get_or words (at + j / 8) 0) (j % 8))) k) here
    where
      others : (j : ℕ) → j < len → j ≢ k → byte_in (get_or (set words (at + k / 8) byte_now) (at + j / 8) 0) (j % 8) ≡ byte_in (get_or words (at + j / 8) 0) (j % 8)
      others j below apart = elim (cases_eq (j / 8) (k / 8)) [
        | inl e ↦ ap (λ (q : ℕ). byte_in (get_or (set words (at + k / 8) byte_now) (at + q) 0) (j % 8)) e
            ∙ ap (λ (w : ℕ). byte_in w (j % 8)) (get_or-set_same words (at + k / 8) byte_now 0 within)
            ∙ byte_else (get_or words (at + k / 8) 0) (k % 8) v (omega arith) small (j % 8) (omega arith) (λ same. apart (omega arith))
            ∙ ap (λ (q : ℕ). byte_in (get_or words (at + q) 0) (j % 8)) (sym e)
        | inr ne ↦ ap (λ (w : ℕ). byte_in w (j % 8)) (get_or-set_other words (at + k / 8) (at + j / 8) byte_now 0 (λ e. ne (omega arith)))
      ]

      here : byte_in (get_or (set words (at + k / 8) byte_now) (at + k / 8) 0) (k % 8) ≡ v
      here = ap (λ (w : ℕ). byte_in w (k % 8)) (get_or-set_same words (at + k / 8) byte_now 0 within) ∙ byte_here (get_or words (at + k / 8) 0) (k % 8) v (omega arith) small

-- the fields before the word that is written
fields_kept : (book : Book) (map : Fields) (words : List ℕ) (at i x : ℕ) → at + 2 + map.count ≤ i → list_of map.count (field_of book map (set words i x) at) ≡ list_of map.count (field_of book map words at)
fields_kept book map words at i x behind =
    alike _ _ map.count 0 (λ f from until. ap (λ (w : ℕ). cond (is_reference map f) (name_by book w) w) (get_or-set_other words i (at + 2 + f) x 0 (λ e. omega arith)))

-- a spot that is there
pub spot_found : (b : Bool) (s spot : Spot) → spot_if b s ≡ Some spot → (b ≡ true) × (s ≡ spot)
spot_found true s spot is = (refl, some_of s spot is)
spot_found false s spot is = absurd (is_some_none spot is)

refs_within : (tail : tails.Tail) (len k : ℕ) → has_refs tail ≡ true → k < len → k < tail_words tail len
refs_within Empty len k is low = absurd (true≢false (sym is))
refs_within Refs len k is low = low
refs_within Bytes len k is low = absurd (true≢false (sym is))

bytes_within : (tail : tails.Tail) (len k : ℕ) → has_bytes tail ≡ true → k < len → k / 8 < tail_words tail len
bytes_within Empty len k is low = absurd (true≢false (sym is))
bytes_within Refs len k is low = absurd (true≢false (sym is))
bytes_within Bytes len k is low = omega arith

-- it lies in the body of the object
pub spot_within : (map : Fields) (len : ℕ) (place : Place) (spot : Spot) → spot_by map len place ≡ Some spot → 2 + word_of spot < size_by (Some map) len
spot_within map len (Field f) spot is =
    let parts = spot_found (nat_lt f map.count) (Word f) spot is in
    let low = ltb-true f map.count parts.0 in
    let same : f ≡ word_of spot = ap word_of parts.1 in
    omega arith
spot_within map len (Tail k) spot is =
    let parts = spot_found (has_refs map.tail && nat_lt k len) (Word (map.count + k)) spot is in
    let tests = and_parts (has_refs map.tail) (nat_lt k len) parts.0 in
    let low = refs_within map.tail len k tests.0 (ltb-true k len tests.1) in
    let same : map.count + k ≡ word_of spot = ap word_of parts.1 in
    omega arith
spot_within map len (Byte k) spot is =
    let parts = spot_found (has_bytes map.tail && nat_lt k len) (ByteOf (map.count + k / 8) (k % 8)) spot is in
    let tests = and_parts (has_bytes map.tail) (nat_lt k len) parts.0 in
    let low = bytes_within map.tail len k tests.0 (ltb-true k len tests.1) in
    let same : map.count + k / 8 ≡ word_of spot = ap word_of parts.1 in
    omega arith

with_field_is : (r : Record) (f x : ℕ) (b : Bool) → with_value r (cond b (in_records.Reference f) (in_records.Word f)) x ≡ with_field r f x
with_field_is r f x true = refl
with_field_is r f x false = refl

module _ (book : Book) (map : Fields) (words : List ℕ) (at head : ℕ) where
  -- the record after a write to this spot
  abbrev pub record_after : Spot → ℕ → Record
  record_after spot v = record_by book (Some map) (set words (at + 2 + word_of spot) (word_written words at spot v)) at head

  -- it is the record with that value in the place
  abbrev IsAfter : Place → ℕ → Spot → Type 0
  IsAfter place v spot = at + 2 + word_of spot < length words → record_after spot v ≡ with_value (record_by book (Some map) words at head) (place_of map place) (answer_of book map place v)

  ref_after : (k v : ℕ) → has_refs map.tail ≡ true → k < tail_in head → IsAfter (Tail k) v (Word (map.count + k))
  ref_after k v is low within =
      let place : at + 2 + map.count + k ≡ at + 2 + (map.count + k) = omega arith in
      let fields = fields_kept book map words at (at + 2 + (map.count + k)) v (omega arith) in
      let items = ap (λ (i : ℕ). tail_of book map.tail (set words i v) (at + 2 + map.count) (tail_in head)) (sym place)
      ∙ refs_written book words (at + 2 + map.count) (tail_in head) k v low map.tail is (omega arith) in
      let after : record_after (Word (map.count + k)) v ≡ with_value (record_by book (Some map) words at head) (place_of map (Tail k)) (name_by book v) =
      λ i. record { ty = (record_by book (Some map) words at head).ty; fields = fields i; tail = items i } in
      after ∙ ap (λ (b : Bool). with_value (record_by book (Some map) words at head) (place_of map (Tail k)) (cond b (name_by book v) v)) (sym is)

  byte_after : (k v : ℕ) → has_bytes map.tail ≡ true → k < tail_in head → v < 256 → IsAfter (Byte k) v (ByteOf (map.count + k / 8) (k % 8))
  byte_after k v is low small within =
      let place : at + 2 + map.count + k / 8 ≡ at + 2 + (map.count + k / 8) = omega arith in
      let fields = fields_kept book map words at (at + 2 + (map.count + k / 8)) (with_byte (get_or words (at + 2 + (map.count + k / 8)) 0) (k % 8) v) (omega arith) in
      let items = ap (λ (i : ℕ). tail_of book map.tail (set words i (with_byte (get_or words i 0) (k % 8) v)) (at + 2 + map.count) (tail_in head)) (sym place)
      ∙ bytes_written book words (at + 2 + map.count) (tail_in head) k v low map.tail is small (omega arith) in
      λ i. record { ty = (record_by book (Some map) words at head).ty; fields = fields i; tail = items i }

  pub record_written : (place : Place) (v : ℕ) (spot : Spot) → spot_by map (tail_in head) place ≡ Some spot → IsValueFor place v → at + 2 + word_of spot < length words
      → record_by book (Some map) (set words (at + 2 + word_of spot) (word_written words at spot v)) at head
      ≡ with_value (record_by book (Some map) words at head) (place_of map place) (answer_of book map place v)
  record_written (Field f) v spot is value =
      let parts = spot_found (nat_lt f map.count) (Word f) spot is in
      subst (IsAfter (Field f) v) parts.1 (λ within. field_written book map words at head v f (ltb-true f map.count parts.0) within
      ∙ sym (with_field_is (record_by book (Some map) words at head) f (answer_of book map (Field f) v) (is_reference map f)))
  record_written (Tail k) v spot is value =
      let parts = spot_found (has_refs map.tail && nat_lt k (tail_in head)) (Word (map.count + k)) spot is in
      let tests = and_parts (has_refs map.tail) (nat_lt k (tail_in head)) parts.0 in
      subst (IsAfter (Tail k) v) parts.1 (ref_after k v tests.0 (ltb-true k (tail_in head) tests.1))
  record_written (Byte k) v spot is value =
      let parts = spot_found (has_bytes map.tail && nat_lt k (tail_in head)) (ByteOf (map.count + k / 8) (k % 8)) spot is in
      let tests = and_parts (has_bytes map.tail) (nat_lt k (tail_in head)) parts.0 in
      subst (IsAfter (Byte k) v) parts.1 (byte_after k v tests.0 (ltb-true k (tail_in head) tests.1) value)
