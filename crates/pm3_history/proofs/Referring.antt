-- A name to which an object's record refers is that of a word in a reference place.
use Rattle.std.proofs.Common.{◌≡◌, ◌<◌, ◌+◌, ◌-◌, ◌∙◌, ◌&&◌, inl, inr, ℕ, zero, suc, true, List, map, length, get_or, nat_lt, Option, Some, None, refl, sym, ap, subst, arith}
use Rattle.std.specs.Prelude.{slice_get, slice_index}
use Rattle.std.specs.List.{range_with_len}
use Rattle.std.proofs.lemmas.Bool.{and_parts, cond-true}
use Rattle.std.proofs.lemmas.Bool.Decides.{nat_tests}
use Rattle.pm3_types.specs.Fields.{Fields, is_reference, has_refs}
use Rattle.pm3_types.specs.declared.type_map.Tail.{Tail}
use Rattle.pm3_types.specs.declared.type_map.Tail.TheVariants.{Empty, Refs, Bytes}
use Rattle.pm3_types.specs.declared.places.Place.{Place}
use Rattle.pm3_types.specs.declared.places.Place.TheVariants.{Word, Reference, TailRef, Byte}
use Rattle.pm3_types.specs.Layout.{type_in, tail_in}
use Rattle.pm3_types.specs.PageForm.{IsReferenceIn, IsTailReference}
use Rattle.pm3_types.specs.Places.{Refers, is_place_by, is_for_names, value_at}
use Rattle.pm3_types.specs.Record.{Record}
use Rattle.pm3_types.specs.Shown.{Book, name_by, list_of, field_of, tail_of, record_by, record_at}

less_of : (m n : ℕ) → nat_lt m n ≡ true → m < n
less_of m n is = grind (arith, nat_tests)

items : (f : ℕ → ℕ) (n from i d : ℕ) → i < n → get_or (map f (range_with_len from n)) i d ≡ f (from + i)
items f zero from i d less = absurd (omega arith)
items f (suc n) from zero d less = ap f (omega arith)
items f (suc n) from (suc i) d less = items f n (from + 1) i d (omega arith) ∙ ap f (omega arith)

length_of : (f : ℕ → ℕ) (n from : ℕ) → length (map f (range_with_len from n)) ≡ n
length_of f zero from = refl
length_of f (suc n) from = ap suc (length_of f n (from + 1))

-- item i of a list of values, and how many they are
pub list_of-item : (f : ℕ → ℕ) (n i d : ℕ) → i < n → get_or (list_of n f) i d ≡ f i
list_of-item f n i d less = items f n 0 i d less ∙ ap f (omega arith)

pub list_of-length : (f : ℕ → ℕ) (n : ℕ) → length (list_of n f) ≡ n
list_of-length f n = length_of f n 0

-- a record has the type of its head
pub type_is : (book : Book) (words : List ℕ) (head at : ℕ) (o : Option Fields) → (record_by book o words at head).ty ≡ type_in head
type_is book words head at None = refl
type_is book words head at (Some fields) = refl

-- word k of a body with this map and tail is a reference with the name n
WordOf : Book → Option Fields → List ℕ → ℕ → ℕ → ℕ → Type 0
WordOf book o words at head n = (k : ℕ) × IsReferenceIn o (tail_in head) k × (name_by book (slice_index words (at + 2 + k)) ≡ n)

module _ (book : Book) (words : List ℕ) (at head n : ℕ) where
  of_tail : (tail : Tail) (from len k : ℕ) → (has_refs tail && nat_lt k (length (tail_of book tail words from len))) ≡ true
      → get_or (tail_of book tail words from len) k 0 ≡ n → IsTailReference tail len k × (name_by book (slice_index words (from + k)) ≡ n)
  of_tail Empty from len k there is = absurd (cc there)
  of_tail Bytes from len k there is = absurd (cc there)
  of_tail Refs from len k there is =
      let f : ℕ → ℕ = λ j. name_by book (slice_index words (from + j)) in
      let low : k < len = (let less = less_of k (length (list_of len f)) there in omega (arith, less, list_of-length f len)) in
      (low, sym (list_of-item f len k 0 low) ∙ is)

  of_field : (fields : Fields) (f : ℕ) → (nat_lt f (length (list_of fields.count (field_of book fields words at))) && is_reference fields f) ≡ true
      → get_or (list_of fields.count (field_of book fields words at)) f 0 ≡ n → (f < fields.count) × (is_reference fields f ≡ true) × (name_by book (slice_index words (at + 2 + f)) ≡ n)
  of_field fields f there is =
      let values : ℕ → ℕ = field_of book fields words at in
      let parts = and_parts (nat_lt f (length (list_of fields.count values))) (is_reference fields f) there in
      let low : f < fields.count = (let less = less_of f (length (list_of fields.count values)) parts.0 in omega (arith, less, list_of-length values fields.count)) in
      let word : ℕ = slice_index words (at + 2 + f) in
      let named : field_of book fields words at f ≡ name_by book word = cond-true (is_reference fields f) (name_by book word) word parts.1 in
      (low, parts.1, sym named ∙ sym (list_of-item values fields.count f 0 low) ∙ is)

  moved : (count k : ℕ) → at + 2 + (count + k) ≡ at + 2 + count + k
  moved count k = omega arith

  back : (count k : ℕ) → count + k - count ≡ k
  back count k = omega arith

  of_map : (o : Option Fields) (place : Place) → is_place_by o (record_by book o words at head) place ≡ true → is_for_names place ≡ true
      → value_at (record_by book o words at head) place ≡ n → WordOf book o words at head n
  unfolding WordOf
  of_map None place there names is = absurd (cc there)
  of_map (Some fields) (Word f) there names is = absurd (cc names)
  of_map (Some fields) (Byte k) there names is = absurd (cc names)
  of_map (Some fields) (Reference f) there names is =
      let found = of_field fields f there is in (f, inl (found.0, found.1), found.2)
  of_map (Some fields) (TailRef k) there names is =
      let found = of_tail fields.tail (at + 2 + fields.count) (tail_in head) k there is in
      let P : ℕ → Type 0 = λ j. IsTailReference fields.tail (tail_in head) j in
      (fields.count + k, inr (omega arith, subst P (sym (back fields.count k)) found.0), ap (λ (i : ℕ). name_by book (slice_index words i)) (moved fields.count k) ∙ found.1)

pub refers_word : (catalog : List Fields) (book : Book) (words : List ℕ) (at n : ℕ) → Refers catalog (record_at book catalog words at) n
    → (k : ℕ) × IsReferenceIn (slice_get catalog (type_in (slice_index words at))) (tail_in (slice_index words at)) k × (name_by book (slice_index words (at + 2 + k)) ≡ n)
unfolding WordOf
refers_word catalog book words at n refers =
    let head : ℕ = slice_index words at in
    let o : Option Fields = slice_get catalog (type_in head) in
    let r : Record = record_by book o words at head in
    let there : is_place_by o r refers.place ≡ true = ap (λ (ty : ℕ). is_place_by (slice_get catalog ty) r refers.place) (sym (type_is book words head at o)) ∙ refers.there in
    of_map book words at head n o refers.place there refers.for_names refers.value
