-- The places of objects, and the places of their records in which they are shown.
use Rattle.std.proofs.Common.{◌≡◌, inl, inr, subst, ◌<◌, ◌+◌, ◌-◌, ◌*◌, ◌/◌, ◌%◌, ◌^◌, ◌&&◌, ◌∙◌, ℕ, zero, suc, Bool, true, false, cond, not, List, length, get_or, Some, is_some, refl, sym, ap, arith, nat_lt}
use Rattle.std.proofs.lemmas.Bool.{and_parts, ltb-true}
use Rattle.std.proofs.lemmas.List.FromFn.{length-map-range_with_len, get_or-map-range_with_len}
use Rattle.std.specs.Option.{option_map}
use Rattle.std.specs.Int.{bytes_low_first, byte_at}
use Rattle.std.proofs.Math.Nat.{pow-suc}
use Rattle.std.proofs.lemmas.Nat.{pow-add}
use mathlib.Core.Bool.{true≢false}
use Rattle.pm3_types.specs.Fields.{Fields, is_reference, has_refs, has_bytes}
use Rattle.pm3_types.specs.declared.type_map.Tail as tails
use Rattle.pm3_types.specs.declared.type_map.Tail.TheVariants.{Empty, Refs, Bytes}
use Rattle.pm3_types.specs.declared.places.Place as of_records
use Rattle.pm3_types.specs.declared.places.Place.TheVariants as in_records
use Rattle.pm3_types.specs.Record.{Record}
use Rattle.pm3_types.specs.Layout.{tail_in}
use Rattle.pm3_types.specs.PageForm.{IsReferenceIn, IsTailReference}
use Rattle.pm3_types.specs.Places.{is_place_of, value_at}
use Rattle.pm3_types.specs.Shown.{Book, name_by, byte_in, field_of, tail_of, record_by}
use Rattle.pm3_access.specs.declared.places.Place.{Place}
use Rattle.pm3_access.specs.declared.places.Place.TheVariants.{Field, Tail, Byte}
use Rattle.pm3_access.specs.declared.spots.Spot.{Spot}
use Rattle.pm3_access.specs.declared.spots.Spot.TheVariants.{Word, ByteOf}
use Rattle.pm3_access.specs.Spots.{spot_if, spot_by, value_in, byte_of}
use Rattle.pm3_access.specs.Acts.{answer_of}
use Rattle.pm3_access.specs.Spots.{has_names}
use Rattle.pm3_access.proofs.Homes.{is_some_none, some_of}

-- the place of a record in which the value of an object's place is shown
abbrev pub place_of : Fields → Place → of_records.Place
place_of map (Field f) = cond (is_reference map f) (in_records.Reference f) (in_records.Word f)
place_of map (Tail k) = in_records.TailRef k
place_of map (Byte k) = in_records.Byte k

and-true : (b c : Bool) → c ≡ true → (b && c) ≡ b
and-true true c is = is
and-true false c is = refl

-- a field is a place for words or one for names
field_place : (map : Fields) (r : Record) (f : ℕ) (b : Bool) → is_reference map f ≡ b → is_place_of map r (cond b (in_records.Reference f) (in_records.Word f)) ≡ nat_lt f (length r.fields)
field_place map r f true is = and-true (nat_lt f (length r.fields)) (is_reference map f) is
field_place map r f false is = and-true (nat_lt f (length r.fields)) (not (is_reference map f)) (ap not is)

field_value : (r : Record) (f : ℕ) (b : Bool) → value_at r (cond b (in_records.Reference f) (in_records.Word f)) ≡ get_or r.fields f 0
field_value r f true = refl
field_value r f false = refl

is_some-spot_if : (b : Bool) (spot : Spot) → is_some (spot_if b spot) ≡ b
is_some-spot_if true spot = refl
is_some-spot_if false spot = refl

-- a place that is there
pub if_spot : {A : Type 0} (g : Spot → A) (b : Bool) (spot : Spot) (x : A) → option_map g (spot_if b spot) ≡ Some x → (b ≡ true) × (g spot ≡ x)
if_spot g true spot x is = (refl, some_of (g spot) x is)
if_spot g false spot x is = absurd (is_some_none x is)

-- byte j of a word, two ways
byte_from : (from n word j : ℕ) → j < n → get_or (bytes_low_first from n word) j 0 ≡ byte_at (from + j) word
byte_from from zero word j low = absurd (omega arith)
byte_from from (suc n) word zero low = ap (λ (i : ℕ). byte_at i word) (omega arith)
byte_from from (suc n) word (suc j) low = byte_from (suc from) n word j (omega arith) ∙ ap (λ (i : ℕ). byte_at i word) (omega arith)

power : (k : ℕ) → 256 ^ k ≡ 2 ^ (8 * k)
power zero = refl
power (suc k) = pow-suc 256 k ∙ ap (λ (p : ℕ). p * 256) (power k) ∙ sym (pow-add 2 (8 * k) 8) ∙ ap (λ (e : ℕ). 2 ^ e) (omega arith)

shifted : (word j : ℕ) → byte_at j word ≡ word / 2 ^ (8 * j) % 256
shifted word zero = omega arith
shifted word (suc j) = ap (λ (p : ℕ). word / p % 256) (power (suc j))

pub byte_is : (word j : ℕ) → j < 8 → byte_of word j ≡ byte_in word j
unfolding byte_of byte_in
byte_is word j low = byte_from 0 8 word j low ∙ ap (λ (i : ℕ). byte_at i word) (omega arith) ∙ shifted word j

module _ (book : Book) (words : List ℕ) (at len : ℕ) where
  refs_length : (tail : tails.Tail) (k : ℕ) → (has_refs tail && nat_lt k (length (tail_of book tail words at len))) ≡ (has_refs tail && nat_lt k len)
  refs_length Empty k = refl
  refs_length Refs k = ap (nat_lt k) (length-map-range_with_len (λ (j : ℕ). name_by book (get_or words (at + j) 0)) 0 len)
  refs_length Bytes k = refl

  bytes_length : (tail : tails.Tail) (k : ℕ) → (has_bytes tail && nat_lt k (length (tail_of book tail words at len))) ≡ (has_bytes tail && nat_lt k len)
  bytes_length Empty k = refl
  bytes_length Refs k = refl
  bytes_length Bytes k = ap (nat_lt k) (length-map-range_with_len (λ (j : ℕ). byte_in (get_or words (at + j / 8) 0) (j % 8)) 0 len)

  ref_value : (tail : tails.Tail) (k : ℕ) → has_refs tail ≡ true → k < len → get_or (tail_of book tail words at len) k 0 ≡ name_by book (get_or words (at + k) 0)
  ref_value Empty k is low = absurd (true≢false (sym is))
  ref_value Refs k is low = get_or-map-range_with_len (λ (j : ℕ). name_by book (get_or words (at + j) 0)) 0 len k k 0 low (omega arith)
  ref_value Bytes k is low = absurd (true≢false (sym is))

  byte_value : (tail : tails.Tail) (k : ℕ) → has_bytes tail ≡ true → k < len → get_or (tail_of book tail words at len) k 0 ≡ byte_in (get_or words (at + k / 8) 0) (k % 8)
  byte_value Empty k is low = absurd (true≢false (sym is))
  byte_value Refs k is low = absurd (true≢false (sym is))
  byte_value Bytes k is low = get_or-map-range_with_len (λ (j : ℕ). byte_in (get_or words (at + j / 8) 0) (j % 8)) 0 len k k 0 low (omega arith)

module _ (book : Book) (map : Fields) (words : List ℕ) (w head : ℕ) where
  abbrev r : Record
  r = record_by book (Some map) words w head

  -- the record has the place exactly where the object has it
  pub place_is : (place : Place) → is_place_of map (record_by book (Some map) words w head) (place_of map place) ≡ is_some (spot_by map (tail_in head) place)
  place_is (Field f) =
      field_place map r f (is_reference map f) refl
      ∙ ap (nat_lt f) (length-map-range_with_len (field_of book map words w) 0 map.count)
      ∙ sym (is_some-spot_if (nat_lt f map.count) (Word f))
  place_is (Tail k) = refs_length book words (w + 2 + map.count) (tail_in head) map.tail k ∙ sym (is_some-spot_if (has_refs map.tail && nat_lt k (tail_in head)) (Word (map.count + k)))
  place_is (Byte k) = bytes_length book words (w + 2 + map.count) (tail_in head) map.tail k ∙ sym (is_some-spot_if (has_bytes map.tail && nat_lt k (tail_in head)) (ByteOf (map.count + k / 8) (k % 8)))

  -- and the value there is what the object's value stands for
  pub value_is : (place : Place) (v : ℕ) → option_map (value_in words w) (spot_by map (tail_in head) place) ≡ Some v
      → value_at (record_by book (Some map) words w head) (place_of map place) ≡ answer_of book map place v
  value_is (Field f) v is =
      let parts = if_spot (value_in words w) (nat_lt f map.count) (Word f) v is in
      field_value r f (is_reference map f)
      ∙ get_or-map-range_with_len (field_of book map words w) 0 map.count f f 0 (ltb-true f map.count parts.0) (omega arith)
      ∙ ap (λ (x : ℕ). cond (is_reference map f) (name_by book x) x) parts.1
  value_is (Tail k) v is =
      let parts = if_spot (value_in words w) (has_refs map.tail && nat_lt k (tail_in head)) (Word (map.count + k)) v is in
      let tests = and_parts (has_refs map.tail) (nat_lt k (tail_in head)) parts.0 in
      let same : w + 2 + map.count + k ≡ w + 2 + (map.count + k) = omega arith in
      ref_value book words (w + 2 + map.count) (tail_in head) map.tail k tests.0 (ltb-true k (tail_in head) tests.1)
      ∙ ap (λ (i : ℕ). name_by book (get_or words i 0)) same
      ∙ ap (name_by book) parts.1
      ∙ sym (ap (λ (b : Bool). cond b (name_by book v) v) tests.0)
  value_is (Byte k) v is =
      let parts = if_spot (value_in words w) (has_bytes map.tail && nat_lt k (tail_in head)) (ByteOf (map.count + k / 8) (k % 8)) v is in
      let tests = and_parts (has_bytes map.tail) (nat_lt k (tail_in head)) parts.0 in
      let same : w + 2 + map.count + k / 8 ≡ w + 2 + (map.count + k / 8) = omega arith in
      byte_value book words (w + 2 + map.count) (tail_in head) map.tail k tests.0 (ltb-true k (tail_in head) tests.1)
      ∙ ap (λ (i : ℕ). byte_in (get_or words i 0) (k % 8)) same
      ∙ sym (byte_is (get_or words (w + 2 + (map.count + k / 8)) 0) (k % 8) (omega arith))
      ∙ parts.1

ref_tail : (tail : tails.Tail) (len k : ℕ) → has_refs tail ≡ true → k < len → IsTailReference tail len k
ref_tail Empty len k is low = absurd (true≢false (sym is))
ref_tail Refs len k is low = low
ref_tail Bytes len k is low = absurd (true≢false (sym is))

-- a place at which addresses stand is a reference of the object's body, and its value is that word
pub reference_at : (map : Fields) (words : List ℕ) (w len : ℕ) (place : Place) (v : ℕ) → has_names map place ≡ true → option_map (value_in words w) (spot_by map len place) ≡ Some v
    → (k : ℕ) × IsReferenceIn (Some map) len k × (get_or words (w + 2 + k) 0 ≡ v)
reference_at map words w len (Field f) v names is =
    let parts = if_spot (value_in words w) (nat_lt f map.count) (Word f) v is in
    (f, inl (ltb-true f map.count parts.0, names), parts.1)
reference_at map words w len (Tail k) v names is =
    let parts = if_spot (value_in words w) (has_refs map.tail && nat_lt k len) (Word (map.count + k)) v is in
    let tests = and_parts (has_refs map.tail) (nat_lt k len) parts.0 in
    let same : k ≡ map.count + k - map.count = omega arith in
    (map.count + k, inr (omega arith, subst (IsTailReference map.tail len) same (ref_tail map.tail len k tests.0 (ltb-true k len tests.1))), parts.1)
reference_at map words w len (Byte k) v names is = absurd (true≢false (sym names))
