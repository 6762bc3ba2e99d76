-- What the form of a page says of the objects on it.
use Rattle.std.proofs.Common.{◌≡◌, ◌≢◌, ℕ, zero, suc, ◌+◌, ◌-◌, ◌*◌, ◌/◌, ◌%◌, ◌^◌, ◌<◌, ◌≤◌, ◌==◌, ◌&&◌, Bool, true, false, eqb, ltb, leb, cond, List, replicate, Option, None, Some, refl, sym, ap, ◌∙◌, arith, inl, inr}
use Rattle.std.proofs.lemmas.Bool.{cases_eq, and_parts, and_from, ne_eqb, eqb-true, eq-eqb, ltb-true, leb-true, false_from_ne_true, false≢true}
use Rattle.std.specs.Prelude.{slice_index, slice_index_or}
use Rattle.pm3_types.specs.Fields.{Fields}
use Rattle.pm3_types.specs.declared.type_map.Tail.{Tail}
use Rattle.pm3_types.specs.declared.type_map.Tail.TheVariants.{Empty, Refs, Bytes}
use Rattle.pm3_types.specs.Layout.{Sheet, PageImage, is_start, tail_words, size_by, is_forwarded, page_head, used_in, is_address, page_in, word_in, begins_at}
use Rattle.pm3_types.specs.PageForm.{HasForm, HasObjects, IsReferenceIn, IsTailReference, IsTailBytes, map_at, tail_at, is_head_of, is_page_head}
use Rattle.pm3_types.specs.Whole.{IsWhole}

tail_within : (tail : Tail) (len k : ℕ) → IsTailReference tail len k → k < tail_words tail len
tail_within Empty len k item = absurd item
tail_within Refs len k item = item
tail_within Bytes len k item = absurd item

-- a reference of an object lies within it
pub reference_within : (o : Option Fields) (len k : ℕ) → IsReferenceIn o len k → 2 + k < size_by o len
reference_within None len k item = absurd item
reference_within (Some map) len k (inl field) = omega (arith, field.0)
reference_within (Some map) len k (inr item) = omega (arith, item.0, tail_within map.tail len (k - map.count) item.1)

-- a word with bytes of an object's tail lies within it
pub bytes_within : (o : Option Fields) (len j k : ℕ) → IsTailBytes o len j k → 2 + k < size_by o len
bytes_within None len j k item = absurd item
bytes_within (Some map) len j k item =
    let words : tail_words map.tail len ≡ (len + 7) / 8 = ap (λ (t : Tail). tail_words t len) item.0 in
    omega (arith, words, item.1, item.2)

-- an object begins at an address of its page
pub address_of : (base : ℕ) (image : PageImage) (a : ℕ) → begins_at base image a ≡ true → is_address base a ≡ true
address_of base image a is = (and_parts (is_address base a) (page_in base a == image.page) (and_parts (is_address base a && (page_in base a == image.page)) (is_start image.sheet (word_in base a)) is).0).0

pub page_is : (base : ℕ) (image : PageImage) (a : ℕ) → begins_at base image a ≡ true → page_in base a ≡ image.page
page_is base image a is = eqb-true (page_in base a) image.page (and_parts (is_address base a) (page_in base a == image.page) (and_parts (is_address base a && (page_in base a == image.page)) (is_start image.sheet (word_in base a)) is).0).1

pub start_of : (base : ℕ) (image : PageImage) (a : ℕ) → begins_at base image a ≡ true → is_start image.sheet (word_in base a) ≡ true
start_of base image a begins = (and_parts (is_address base a && (page_in base a == image.page)) (is_start image.sheet (word_in base a)) begins).1

pub begins : (base : ℕ) (image : PageImage) (a : ℕ) → is_address base a ≡ true → page_in base a ≡ image.page → is_start image.sheet (word_in base a) ≡ true → begins_at base image a ≡ true
begins base image a is page start = and_from (is_address base a && (page_in base a == image.page)) (is_start image.sheet (word_in base a)) (and_from (is_address base a) (page_in base a == image.page) is (eq-eqb (page_in base a) image.page page)) start

pub blank_starts : (n s : ℕ) → slice_index_or (replicate n false) s false ≡ false
blank_starts zero s = refl
blank_starts (suc n) zero = refl
blank_starts (suc n) (suc s) = blank_starts n s

-- an object begins on a page of objects
pub objects_of : (catalog : List Fields) (refers : ℕ → Bool) (page : ℕ) (sheet : Sheet) (s : ℕ) → HasForm catalog refers page sheet → is_start sheet s ≡ true
    → (page ≢ 2) × HasObjects catalog refers page sheet
objects_of catalog refers page sheet s form starts = elim (cases_eq page 2) [
  | inl roots ↦ absurd (false≢true (sym ((form.roots roots).empty s) ∙ starts))
  | inr apart ↦ (
    apart,
    elim (form.objects apart) [
      | inl blank ↦ absurd (false≢true (sym (ap (λ sheet. is_start sheet s) blank ∙ blank_starts 512 s) ∙ starts))
      | inr objects ↦ objects
    ],
  )
]

pub some_map : (o : Option Fields) (len : ℕ) → 2 ≤ size_by o len → (map : Fields) × (o ≡ Some map)
some_map None len big = absurd (omega arith)
some_map (Some map) len big = (map, refl)

low_head : (head : ℕ) → head < 2 ^ 48 → is_forwarded head ≡ false
unfolding is_forwarded
low_head head low = false_from_ne_true (leb (2 ^ 63) head) (λ e. let high : 2 ^ 63 ≤ head = leb-true (2 ^ 63) head e in omega arith)

-- a head in its form has 48 bits
pub head_low : (map : Fields) (head : ℕ) → is_head_of map head ≡ true → head < 2 ^ 48
unfolding is_head_of
head_low map head e = ltb-true head (2 ^ 48) (and_parts (ltb head (2 ^ 48)) _ e).0

-- an object of a page in its form lies whole
pub whole_start : (catalog : List Fields) (refers : ℕ → Bool) (page : ℕ) (sheet : Sheet) (s : ℕ) → HasForm catalog refers page sheet → is_start sheet s ≡ true → IsWhole catalog sheet s
whole_start catalog refers page sheet s form starts =
    let objects = (objects_of catalog refers page sheet s form starts).1 in
    let whole = objects.laid.whole s starts in
    let fields = some_map (map_at catalog sheet s) (tail_at sheet s) whole.1 in
    let head = objects.heads s fields.0 starts fields.1 in
    record {
      fields = fields.0;
      of = fields.1;
      begins = starts;
      low = whole.0;
      size = whole.1;
      within = omega (arith, whole.2, objects.laid.end.1);
      unmoved = low_head (slice_index sheet.words s) (head_low fields.0 (slice_index sheet.words s) head);
      head = head;
      name = objects.names s starts;
    }

page_of_head : (page word : ℕ) (b : Bool) → cond b (eqb word (2 + 2 ^ 32 * 18)) (eqb (word % 2 ^ 32) page && (ltb 2 (word / 2 ^ 32) && leb (word / 2 ^ 32) 512)) ≡ true → b ≡ false → page < 2 ^ 32
page_of_head page word true e is = absurd (false≢true (sym is))
page_of_head page word false e is = let same : word % 2 ^ 32 ≡ page = eqb-true (word % 2 ^ 32) page (and_parts (eqb (word % 2 ^ 32) page) _ e).0 in omega arith

low_page : (page word : ℕ) → page ≢ 2 → is_page_head page word ≡ true → page < 2 ^ 32
unfolding is_page_head page_head used_in
low_page page word apart e = page_of_head page word (eqb page 2) e (ne_eqb page 2 apart)

-- an object lies on a page with a number of 32 bits
pub page_low : (catalog : List Fields) (base : ℕ) (refers : ℕ → Bool) (image : PageImage) (a : ℕ) → HasForm catalog refers image.page image.sheet → begins_at base image a ≡ true → page_in base a < 2 ^ 32
page_low catalog base refers image a form begins =
    let parts = objects_of catalog refers image.page image.sheet (word_in base a) form (start_of base image a begins) in
    let low = low_page image.page (slice_index image.sheet.words 0) parts.0 parts.1.head in
    let on = page_is base image a begins in
    omega arith
