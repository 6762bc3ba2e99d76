-- The places of an object's references.
use Rattle.std.proofs.Common.{◌≡◌, ◌<◌, ◌≤◌, ◌+◌, ◌-◌, ◌/◌, ◌%◌, ◌^◌, ◌==◌, ◌∙◌, inl, inr, ℕ, true, false, List, Option, None, Some, sym, ap, arith}
use Rattle.std.proofs.lemmas.Bool.{cases_lt, false≢true}
use Rattle.std.proofs.lemmas.Nat.{pow-add}
use Rattle.std.proofs.lemmas.Nat.Bits.{bit_at-zero, bit_at_above, bit_at-trailing_zeros}
use Rattle.std.proofs.Math.Nat.{div-div-eq-div-mul, div-le_self}
use Rattle.std.specs.Int.{bit_at, trailing_zeros, w32}
use Rattle.pm3_types.specs.Fields.{Fields, IsTypeMap, is_reference}
use Rattle.pm3_types.specs.Layout.{Sheet, tail_words, size_by, size_at}
use Rattle.pm3_types.specs.PageForm.{IsReferenceIn, IsTailReference, map_at, tail_at}
use Rattle.pm3_types.specs.declared.type_map.Tail.{Tail}
use Rattle.pm3_types.specs.declared.type_map.Tail.TheVariants.{Empty, Refs, Bytes}
use Rattle.pm3_types.specs.Whole.{IsWhole}
use Rattle.pm3_page.specs.Next.{IsLeast}
use Rattle.pm3_copy.specs.References.{IsNextInTail, IsNextReference}

-- bit k of a word that was shifted down by n
bit_behind : (word n k : ℕ) → bit_at (word / 2 ^ n) k ≡ bit_at word (n + k)
bit_behind word n k = ap (λ (x : ℕ). x % 2) (div-div-eq-div-mul word (2 ^ n) (2 ^ k) ∙ ap (λ (m : ℕ). word / m) (sym (pow-add 2 n k)))

module _ (map : Fields) where
  is_bit : (k bit : ℕ) → bit_at map.refs k ≡ bit → is_reference map k ≡ (bit == 1)
  unfolding is_reference
  is_bit k bit is = ap (λ (n : ℕ). n == 1) is

  -- no field is a reference past all fields, or where no bit is left
  pub none_past : (from : ℕ) → IsTypeMap map.count map.refs → map.count ≤ from → (k : ℕ) → from ≤ k → is_reference map k ≡ false
  none_past from sound past k behind = is_bit k 0 (bit_at_above map.refs map.count k sound.1 (omega arith))

  pub none_left : (from : ℕ) → map.refs / 2 ^ from ≡ 0 → (k : ℕ) → from ≤ k → is_reference map k ≡ false
  none_left from none k behind =
      let same : from + (k - from) ≡ k = omega arith in
      is_bit k 0 (ap (bit_at map.refs) (sym same) ∙ sym (bit_behind map.refs from (k - from)) ∙ ap (λ (n : ℕ). bit_at n (k - from)) none ∙ bit_at-zero (k - from))

  -- the lowest bit that is left is the next reference
  pub next_left : (from : ℕ) → map.refs < 2 ^ 32 → 0 < map.refs / 2 ^ from → IsLeast (is_reference map) from (from + trailing_zeros w32 (map.refs / 2 ^ from))
  next_left from fits some = record {
    reached = omega arith;
    there = is_bit (from + trailing_zeros w32 (map.refs / 2 ^ from)) 1 (sym (bit_behind map.refs from _) ∙ found.1);
    least = λ k behind low. (let same : from + (k - from) ≡ k = omega arith in
        is_bit k 0 (ap (bit_at map.refs) (sym same) ∙ sym (bit_behind map.refs from (k - from)) ∙ found.2 (k - from) (omega arith)));
  }
    where
      found : (trailing_zeros w32 (map.refs / 2 ^ from) < 32) × (bit_at (map.refs / 2 ^ from) (trailing_zeros w32 (map.refs / 2 ^ from)) ≡ 1)
          × ((i : ℕ) → i < trailing_zeros w32 (map.refs / 2 ^ from) → bit_at (map.refs / 2 ^ from) i ≡ 0)
      found = bit_at-trailing_zeros w32 (map.refs / 2 ^ from) some (omega (arith, div-le_self map.refs (2 ^ from)))

  -- a reference is one of the fields
  pub field_low : (k : ℕ) → IsTypeMap map.count map.refs → is_reference map k ≡ true → k < map.count
  field_low k sound is = elim (cases_lt k map.count) [ inl low ↦ low | inr past ↦ absurd (false≢true (sym (none_past map.count sound (omega arith) k past) ∙ is)) ]

  -- the next field that is a reference is the next reference
  pub by_field : (len from field : ℕ) → field < map.count → IsLeast (is_reference map) from field → IsNextReference map len from (Some field)
  by_field len from field low least = (least.reached, inl (low, least.there), λ k behind below item. none k behind below item)
    where
      none : (k : ℕ) → from ≤ k → k < field → IsReferenceIn (Some map) len k → ⊥
      none k behind below (inl (inside, is)) = false≢true (sym (least.least k behind below) ∙ is)
      none k behind below (inr (past, tail)) = omega (arith, low)

  -- and where none is, the next reference is the next of the tail
  pub by_tail : (len from : ℕ) (next : Option ℕ) → ((k : ℕ) → from ≤ k → is_reference map k ≡ false) → IsNextInTail map len from next → IsNextReference map len from next
  by_tail len from None no_field in_tail = λ k behind item. none k behind item
    where
      none : (k : ℕ) → from ≤ k → IsReferenceIn (Some map) len k → ⊥
      none k behind (inl (inside, is)) = false≢true (sym (no_field k behind) ∙ is)
      none k behind (inr (past, tail)) = in_tail k behind past tail
  by_tail len from (Some place) no_field in_tail = (in_tail.0, inr (in_tail.1, in_tail.2), λ k behind below item. none k behind below item)
    where
      none : (k : ℕ) → from ≤ k → k < place → IsReferenceIn (Some map) len k → ⊥
      none k behind below (inl (inside, is)) = false≢true (sym (no_field k behind) ∙ is)
      none k behind below (inr (past, tail)) = in_tail.3 k behind past below

-- a reference is a word of the object
tail_within : (t : Tail) (len k : ℕ) → IsTailReference t len k → k < tail_words t len
tail_within Empty len k is = absurd is
tail_within Refs len k is = is
tail_within Bytes len k is = absurd is

place_within : (map : Fields) (len k : ℕ) → IsReferenceIn (Some map) len k → 2 + k < size_by (Some map) len
place_within map len k (inl field) = omega (arith, field.0)
place_within map len k (inr (past, tail)) = (let low = tail_within map.tail len (k - map.count) tail in omega arith)

-- and of the page of an object that lies whole there
pub place_on_page : (catalog : List Fields) (sheet : Sheet) (s : ℕ) (map : Fields) (len k : ℕ) → Some map ≡ map_at catalog sheet s → len ≡ tail_at sheet s → IsWhole catalog sheet s
    → IsReferenceIn (Some map) len k → s + 2 + k < 512
place_on_page catalog sheet s map len k map_is len_is whole item =
    let low = place_within map len k item in
    let size : size_by (Some map) len ≡ size_at catalog sheet s = λ i. size_by (map_is i) (len_is i) in
    omega (arith, low, size, whole.within)
