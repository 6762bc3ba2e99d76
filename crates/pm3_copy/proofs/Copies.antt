-- A copy behind the last object of a page.
use Rattle.std.proofs.Common.{◌≡◌, ◌≢◌, ◌<◌, ◌≤◌, ◌+◌, ◌-◌, ◌*◌, ◌^◌, ◌==◌, ◌∙◌, ◌⊎◌, inl, inr, ℕ, true, false, ltb, List, length, get_or, Some, slice_get, refl, sym, ap, subst, arith, length-set, get_or-set_same, get_or-set_other}
use Rattle.std.proofs.lemmas.Bool.{cases_eq, cases_lt, and_parts, ltb-true, ne_eqb, cond-false, false≢true}
use Rattle.pm3_types.specs.Fields.{Fields}
use Rattle.pm3_types.specs.Layout.{Sheet, PageImage, is_start, type_in, tail_in, head_of, size_by, size_of, size_at, end_of, end_by, used_in, page_head, placed_on}
use Rattle.pm3_types.specs.PageForm.{HasObjects, IsSound, IsReferenceIn, IsTailBytes, is_head_of, is_padded, is_memory_reference, map_at, tail_at}
use Rattle.pm3_page.specs.Overwriting.{copied_on, overwritten, words_at}
use Rattle.pm3_copy.specs.Copies.{IsCopied}
use Rattle.pm3_copy.proofs.Overwritten.{over_long, over_before, over_within, over_behind, words_at-long, word_at}
use Rattle.pm3_types.specs.Whole.{IsWhole}
use Rattle.pm3_types.proofs.FormedObjects.{reference_within, bytes_within}
use Rattle.pm3_copy.proofs.FormFrame.{frame_objects}
use Rattle.pm3_types.proofs.PlacedForm.{IsFilled, filled, before, at_name, at_head, first_word, objects_placed}
use Rattle.pm3_types.proofs.FormedObjects.{objects_of}
use Rattle.pm3_copy.proofs.Wholes.{same_some}

-- the first n words from one place on are those from another place on of other words, and nothing else has changed
pub record IsCopyingTo (words : List ℕ) (s t n : ℕ) (old new : PageImage) : Type 0 where
  pub page : new.page ≡ old.page
  pub starts : new.sheet.starts ≡ old.sheet.starts
  pub long : length new.sheet.words ≡ length old.sheet.words
  pub copied : (k : ℕ) → k < n → get_or new.sheet.words (t + k) 0 ≡ get_or words (s + k) 0
  pub others : (i : ℕ) → (i < t) ⊎ (t + n ≤ i) → get_or new.sheet.words i 0 ≡ get_or old.sheet.words i 0

low_of : (fields : Fields) (h : ℕ) → is_head_of fields h ≡ true → h < 2 ^ 48
unfolding is_head_of
low_of fields h is = ltb-true h (2 ^ 48) (and_parts (ltb h (2 ^ 48)) _ is).0

-- a sound head is its type and its tail
pub head_is : (fields : Fields) (h : ℕ) → is_head_of fields h ≡ true → head_of (type_in h) (tail_in h) ≡ h
unfolding head_of type_in tail_in
head_is fields h is = (let low = low_of fields h is in omega arith)

used_of : (page used : ℕ) → page < 2 ^ 32 → used_in (page_head page used) ≡ used
unfolding used_in page_head
used_of page used low = omega arith

end_at : (used : ℕ) → 2 ≤ used → end_by used ≡ used
end_at used more = cond-false (used == 0) 2 used (ne_eqb used 0 (λ e. omega arith))

nil_reference : (base pages : ℕ) → is_memory_reference base pages 0 ≡ true
unfolding is_memory_reference
nil_reference base pages = refl

module _ (catalog : List Fields) (base : ℕ) (source : Sheet) (s : ℕ) (whole : IsWhole catalog source s)
    (refs : (k : ℕ) → IsReferenceIn (map_at catalog source s) (tail_at source s) k → is_memory_reference base 16384 (get_or source.words (s + 2 + k) 0) ≡ true)
    (pads : (j k : ℕ) → IsTailBytes (map_at catalog source s) (tail_at source s) j k → is_padded (tail_at source s - 8 * j) (get_or source.words (s + 2 + k) 0) ≡ true)
    (target : PageImage) (form : IsSound catalog base 16384 target) (apart : target.page ≢ 2) (small : target.page < 2 ^ 32) (fits : end_of target.sheet + size_at catalog source s ≤ 512) where
  abbrev h : ℕ
  h = get_or source.words s 0

  abbrev size : ℕ
  size = size_at catalog source s

  abbrev t : ℕ
  t = end_of target.sheet

  abbrev pub put : PageImage
  put = placed_on target (size_by (slice_get catalog (type_in h)) (tail_in h)) (head_of (type_in h) (tail_in h)) (get_or source.words (s + 1) 0)

  same_head : head_of (type_in h) (tail_in h) ≡ h
  same_head = head_is whole.fields h whole.head

  is_filled : IsFilled catalog (is_memory_reference base 16384) target.sheet
  is_filled = filled catalog (is_memory_reference base 16384) target.page target.sheet (form.objects apart)

  sized : size_of catalog (head_of (type_in h) (tail_in h)) ≡ size
  sized = ap (size_of catalog) same_head

  headed : (map : Fields) → slice_get catalog (type_in (head_of (type_in h) (tail_in h))) ≡ Some map → is_head_of map (head_of (type_in h) (tail_in h)) ≡ true
  headed map is =
      let same : whole.fields ≡ map = same_some whole.fields map (sym whole.of ∙ sym (ap (λ x. slice_get catalog (type_in x)) same_head) ∙ is) in
      ap (is_head_of map) same_head ∙ sym (ap (λ m. is_head_of m h) same) ∙ whole.head

  pub put_objects : HasObjects catalog (is_memory_reference base 16384) target.page put.sheet
  put_objects =
      objects_placed catalog (is_memory_reference base 16384) target.page target.sheet size (head_of (type_in h) (tail_in h)) (get_or source.words (s + 1) 0) is_filled apart small whole.size fits sized headed whole.name
      (nil_reference base 16384)

  pub begin_ : 2 ≤ t
  begin_ = is_filled.laid.end.0

  head_now : get_or put.sheet.words t 0 ≡ h
  head_now =
      at_head catalog (is_memory_reference base 16384) target.page target.sheet size (head_of (type_in h) (tail_in h)) (get_or source.words (s + 1) 0) is_filled apart small whole.size fits sized headed whole.name
      (nil_reference base 16384) ∙ same_head

  name_now : get_or put.sheet.words (t + 1) 0 ≡ get_or source.words (s + 1) 0
  name_now =
      at_name catalog (is_memory_reference base 16384) target.page target.sheet size (head_of (type_in h) (tail_in h)) (get_or source.words (s + 1) 0) is_filled apart small whole.size fits sized headed whole.name
      (nil_reference base 16384)

  first_now : get_or put.sheet.words 0 0 ≡ page_head target.page (t + size)
  first_now =
      first_word catalog (is_memory_reference base 16384) target.page target.sheet size (head_of (type_in h) (tail_in h)) (get_or source.words (s + 1) 0) is_filled apart small whole.size fits sized headed whole.name
      (nil_reference base 16384)

  before_now : (i : ℕ) → 0 < i → i < t → get_or put.sheet.words i 0 ≡ get_or target.sheet.words i 0
  before_now =
      before catalog (is_memory_reference base 16384) target.page target.sheet size (head_of (type_in h) (tail_in h)) (get_or source.words (s + 1) 0) is_filled apart small whole.size fits sized headed whole.name
      (nil_reference base 16384)

  put_end : end_of put.sheet ≡ t + size
  put_end = ap (λ w. end_by (used_in w)) first_now ∙ ap end_by (used_of target.page (t + size) small) ∙ end_at (t + size) (let b = begin_ in omega arith)

  pub put_start : is_start put.sheet t ≡ true
  put_start = get_or-set_same target.sheet.starts t true false (let b = whole.size in omega (arith, is_filled.laid.starts))

  put_size : size_at catalog put.sheet t ≡ size
  put_size = ap (size_of catalog) head_now

  -- the same with the words of the object written there
  module _ (wide : s + size ≤ length source.words) where
    abbrev pub copy_on : PageImage
    copy_on = copied_on target size (words_at source s size)

    long : length (words_at source s size) ≡ size
    long = words_at-long source s size wide

    within : t + length (words_at source s size) ≤ length target.sheet.words
    within = omega (arith, long, fits, is_filled.laid.words)

    word_now : (i : ℕ) → 0 < i → get_or copy_on.sheet.words i 0 ≡ get_or (overwritten target.sheet.words t (words_at source s size)) i 0
    word_now i some = get_or-set_other (overwritten target.sheet.words t (words_at source s size)) 0 i (page_head target.page (t + size)) 0 (λ e. omega arith)

    object_now : (k : ℕ) → k < size → get_or copy_on.sheet.words (t + k) 0 ≡ get_or source.words (s + k) 0
    object_now k low =
        let b = begin_ in
        word_now (t + k) (omega arith) ∙ over_within target.sheet.words t (words_at source s size) within (t + k) (omega arith) (omega (arith, long)) ∙ ap (λ n. get_or (words_at source s size) n 0) (omega arith)
        ∙ word_at source s size k low

    pub copies : IsCopyingTo source.words (s + 2) (t + 2) (size - 2) put copy_on
    copies = record {
      page = refl;
      starts = refl;
      long = length-set (overwritten target.sheet.words t (words_at source s size)) 0 (page_head target.page (t + size)) ∙ over_long target.sheet.words t (words_at source s size) within ∙ is_filled.laid.words
          ∙ sym put_objects.laid.words;
      copied = λ k low. ap (λ n. get_or copy_on.sheet.words n 0) (behind_two t k) ∙ object_now (2 + k) (omega arith) ∙ ap (λ n. get_or source.words n 0) (sym (behind_two s k));
      others = others;
    }
      where
        behind_two : (n k : ℕ) → n + 2 + k ≡ n + (2 + k)
        behind_two n k = omega arith

        at_first : get_or copy_on.sheet.words 0 0 ≡ get_or put.sheet.words 0 0
        at_first = get_or-set_same (overwritten target.sheet.words t (words_at source s size)) 0 (page_head target.page (t + size)) 0 (let w = within in let o = over_long target.sheet.words t (words_at source s size) within in omega (arith, is_filled.laid.words)) ∙ sym first_now

        at_object : (i : ℕ) → t ≤ i → i < t + 2 → get_or copy_on.sheet.words i 0 ≡ get_or put.sheet.words i 0
        at_object i low high = elim (cases_eq i t) [
          | inl same ↦ (
              let e : i ≡ t + 0 = omega arith in
              ap (λ n. get_or copy_on.sheet.words n 0) e ∙ object_now 0 (omega (arith, whole.size)) ∙ ap (λ n. get_or source.words n 0) (omega arith) ∙ sym head_now ∙ ap (λ n. get_or put.sheet.words n 0) (sym same))
          | inr apart_ ↦ (
              let e : i ≡ t + 1 = omega arith in
              ap (λ n. get_or copy_on.sheet.words n 0) e ∙ object_now 1 (omega (arith, whole.size)) ∙ sym name_now ∙ ap (λ n. get_or put.sheet.words n 0) (sym e))
        ]

        at_low : (i : ℕ) → i < t + 2 → get_or copy_on.sheet.words i 0 ≡ get_or put.sheet.words i 0
        at_low i low = elim (cases_lt i t) [
          | inl before_ ↦ elim (cases_eq i 0) [
            | inl first_ ↦ ap (λ n. get_or copy_on.sheet.words n 0) first_ ∙ at_first ∙ ap (λ n. get_or put.sheet.words n 0) (sym first_)
            | inr some ↦ word_now i (omega arith) ∙ over_before target.sheet.words t (words_at source s size) within i before_ ∙ sym (before_now i (omega arith) before_)
          ]
          | inr behind ↦ at_object i behind low
        ]

        others : (i : ℕ) → (i < t + 2) ⊎ (t + 2 + (size - 2) ≤ i) → get_or copy_on.sheet.words i 0 ≡ get_or put.sheet.words i 0
        others i (inl low) = at_low i low
        others i (inr high) =
            let past : t + size ≤ i = omega (arith, whole.size) in
            let b = begin_ in
            word_now i (omega arith) ∙ over_behind target.sheet.words t (words_at source s size) within i (omega (arith, long)) ∙ is_filled.laid.rest i (omega arith)
            ∙ sym (put_objects.laid.rest i (omega (arith, put_end)))

  module _ (now : PageImage) (copy : IsCopyingTo source.words (s + 2) (t + 2) (size - 2) put now) where
    outside : (i : ℕ) → (i < t + 2) ⊎ (t + size ≤ i) → get_or now.sheet.words i 0 ≡ get_or put.sheet.words i 0
    outside i (inl low) = copy.others i (inl low)
    outside i (inr high) = copy.others i (inr (let b = whole.size in omega arith))

    -- no object begins within the copy
    not_within : (u : ℕ) → is_start put.sheet u ≡ true → t < u → u < t + size → ⊥
    not_within u is above below = false≢true (sym (put_objects.laid.apart t u put_start above (omega (arith, put_size))) ∙ is)

    head_kept : (u : ℕ) → is_start put.sheet u ≡ true → get_or now.sheet.words u 0 ≡ get_or put.sheet.words u 0
    head_kept u is = elim (cases_lt u (t + 2)) [
      | inl low ↦ outside u (inl low)
      | inr above ↦ elim (cases_lt u (t + size)) [ inl below ↦ absurd (not_within u is (omega arith) below) | inr high ↦ outside u (inr high) ]
    ]

    name_kept : (u : ℕ) → is_start put.sheet u ≡ true → get_or now.sheet.words (u + 1) 0 ≡ get_or put.sheet.words (u + 1) 0
    name_kept u is = elim (cases_lt (u + 1) (t + 2)) [
      | inl low ↦ outside (u + 1) (inl low)
      | inr above ↦ elim (cases_lt u (t + size)) [ inl below ↦ absurd (not_within u is (omega arith) below) | inr high ↦ outside (u + 1) (inr (omega arith)) ]
    ]

    -- the words of another object are not those of the copy
    body_kept : (u k : ℕ) → is_start put.sheet u ≡ true → u ≢ t → 2 + k < size_at catalog put.sheet u → get_or now.sheet.words (u + 2 + k) 0 ≡ get_or put.sheet.words (u + 2 + k) 0
    body_kept u k is away within = elim (cases_lt u t) [
      | inl before_ ↦ elim (cases_lt t (u + size_at catalog put.sheet u)) [
        | inl inside_ ↦ absurd (false≢true (sym (put_objects.laid.apart u t is before_ inside_) ∙ put_start))
        | inr ends ↦ outside (u + 2 + k) (inl (omega arith))
      ]
      | inr behind ↦ elim (cases_lt u (t + size)) [ inl below ↦ absurd (not_within u is (omega arith) below) | inr high ↦ outside (u + 2 + k) (inr (omega arith)) ]
    ]

    copied_word : (k : ℕ) → 2 + k < size → get_or now.sheet.words (t + 2 + k) 0 ≡ get_or source.words (s + 2 + k) 0
    copied_word k within = copy.copied k (omega arith)

    references_now : (u k : ℕ) → is_start put.sheet u ≡ true → IsReferenceIn (map_at catalog put.sheet u) (tail_at put.sheet u) k → is_memory_reference base 16384 (get_or now.sheet.words (u + 2 + k) 0) ≡ true
    references_now u k is item = elim (cases_eq u t) [
      | inl e ↦ (
          let Item : ℕ → Type 0 = λ x. IsReferenceIn (slice_get catalog (type_in x)) (tail_in x) k in
          let there_ : IsReferenceIn (map_at catalog source s) (tail_at source s) k = subst Item (ap (λ n. get_or put.sheet.words n 0) e ∙ head_now) item in
          let within = reference_within (map_at catalog source s) (tail_at source s) k there_ in
          ap (λ n. is_memory_reference base 16384 (get_or now.sheet.words (n + 2 + k) 0)) e ∙ ap (is_memory_reference base 16384) (copied_word k within) ∙ refs k there_)
      | inr away ↦ ap (is_memory_reference base 16384) (body_kept u k is away (reference_within (map_at catalog put.sheet u) (tail_at put.sheet u) k item)) ∙ put_objects.references u k is item
    ]

    padding_now : (u j k : ℕ) → is_start put.sheet u ≡ true → IsTailBytes (map_at catalog put.sheet u) (tail_at put.sheet u) j k
        → is_padded (tail_at put.sheet u - 8 * j) (get_or now.sheet.words (u + 2 + k) 0) ≡ true
    padding_now u j k is item = elim (cases_eq u t) [
      | inl e ↦ (
          let same : get_or put.sheet.words u 0 ≡ h = ap (λ n. get_or put.sheet.words n 0) e ∙ head_now in
          let Item : ℕ → Type 0 = λ x. IsTailBytes (slice_get catalog (type_in x)) (tail_in x) j k in
          let there_ : IsTailBytes (map_at catalog source s) (tail_at source s) j k = subst Item same item in
          let within = bytes_within (map_at catalog source s) (tail_at source s) j k there_ in
          ap (λ x. is_padded (tail_in x - 8 * j) (get_or now.sheet.words (u + 2 + k) 0)) same
          ∙ ap (λ n. is_padded (tail_in h - 8 * j) (get_or now.sheet.words (n + 2 + k) 0)) e ∙ ap (is_padded (tail_in h - 8 * j)) (copied_word k within) ∙ pads j k there_)
      | inr away ↦ ap (is_padded (tail_at put.sheet u - 8 * j)) (body_kept u k is away (bytes_within (map_at catalog put.sheet u) (tail_at put.sheet u) j k item)) ∙ put_objects.padding u j k is item
    ]

    pub copied_sound : IsSound catalog base 16384 now
    copied_sound = record {
      roots = λ e. absurd (apart (sym copy.page ∙ e));
      objects = λ _. inr (subst (λ p. HasObjects catalog (is_memory_reference base 16384) p now.sheet) (sym copy.page)
          (frame_objects catalog (is_memory_reference base 16384) target.page put.sheet now.sheet put_objects copy.starts (copy.long ∙ put_objects.laid.words)
          (outside 0 (inl (omega arith))) (outside 1 (inl (let b = begin_ in omega arith))) head_kept name_kept (λ i past. outside i (inr (omega (arith, put_end)))) references_now padding_now));
    }

    object_word : (k : ℕ) → k < size → get_or now.sheet.words (t + k) 0 ≡ get_or source.words (s + k) 0
    object_word k low = elim (cases_lt k 2) [
      | inl two ↦ elim (cases_eq k 0) [
        | inl zero_ ↦ ap (λ n. get_or now.sheet.words n 0) (at_zero t k zero_) ∙ outside t (inl (omega arith)) ∙ head_now ∙ ap (λ n. get_or source.words n 0) (sym (at_zero s k zero_))
        | inr one ↦ ap (λ n. get_or now.sheet.words n 0) (at_one t k one two) ∙ outside (t + 1) (inl (omega arith)) ∙ name_now ∙ ap (λ n. get_or source.words n 0) (sym (at_one s k one two))
      ]
      | inr more ↦ ap (λ n. get_or now.sheet.words n 0) (at_more t k more) ∙ copied_word (k - 2) (omega arith) ∙ ap (λ n. get_or source.words n 0) (sym (at_more s k more))
    ]
      where
        at_zero : (a n : ℕ) → n ≡ 0 → a + n ≡ a
        at_zero a n e = omega arith

        at_one : (a n : ℕ) → n ≢ 0 → n < 2 → a + n ≡ a + 1
        at_one a n one two = omega arith

        at_more : (a n : ℕ) → 2 ≤ n → a + n ≡ a + 2 + (n - 2)
        at_more a n more = omega arith

    pub is_copied : IsCopied source s size target now
    is_copied = record {
      page = copy.page;
      starts = copy.starts;
      end = ap (λ w. end_by (used_in w)) (outside 0 (inl (omega arith))) ∙ put_end;
      object = object_word;
      others = λ i some below. outside i (inl (omega arith)) ∙ before_now i some below;
    }

-- what the references and the padding of a sound image are
pub source_refs : (catalog : List Fields) (base : ℕ) (image : PageImage) (s : ℕ) → IsSound catalog base 16384 image → is_start image.sheet s ≡ true
    → (k : ℕ) → IsReferenceIn (map_at catalog image.sheet s) (tail_at image.sheet s) k → is_memory_reference base 16384 (get_or image.sheet.words (s + 2 + k) 0) ≡ true
source_refs catalog base image s form start k item = (objects_of catalog (is_memory_reference base 16384) image.page image.sheet s form start).1.references s k start item

pub source_pads : (catalog : List Fields) (base : ℕ) (image : PageImage) (s : ℕ) → IsSound catalog base 16384 image → is_start image.sheet s ≡ true
    → (j k : ℕ) → IsTailBytes (map_at catalog image.sheet s) (tail_at image.sheet s) j k → is_padded (tail_at image.sheet s - 8 * j) (get_or image.sheet.words (s + 2 + k) 0) ≡ true
source_pads catalog base image s form start j k item = (objects_of catalog (is_memory_reference base 16384) image.page image.sheet s form start).1.padding s j k start item

-- an image on which the object was copied
module _ (catalog : List Fields) (base : ℕ) (source : PageImage) (s : ℕ) (whole : IsWhole catalog source.sheet s) (source_form : IsSound catalog base 16384 source) (target : PageImage)
    (form : IsSound catalog base 16384 target) (apart : target.page ≢ 2) (low : target.page < 16384) (fits : end_of target.sheet + size_at catalog source.sheet s ≤ 512) where
  small : target.page < 2 ^ 32
  small = omega arith

  refs : (k : ℕ) → IsReferenceIn (map_at catalog source.sheet s) (tail_at source.sheet s) k → is_memory_reference base 16384 (get_or source.sheet.words (s + 2 + k) 0) ≡ true
  refs = source_refs catalog base source s source_form whole.begins

  pads : (j k : ℕ) → IsTailBytes (map_at catalog source.sheet s) (tail_at source.sheet s) j k → is_padded (tail_at source.sheet s - 8 * j) (get_or source.sheet.words (s + 2 + k) 0) ≡ true
  pads = source_pads catalog base source s source_form whole.begins

  wide : s + size_at catalog source.sheet s ≤ length source.sheet.words
  wide = (let words = (objects_of catalog (is_memory_reference base 16384) source.page source.sheet s source_form whole.begins).1.laid.words in omega (arith, words, whole.within))

  pub copy_made : (now : PageImage) (n : ℕ) → n ≡ size_at catalog source.sheet s → now ≡ copied_on target n (words_at source.sheet s n)
      → IsCopied source.sheet s (size_at catalog source.sheet s) target now × IsSound catalog base 16384 now
  copy_made now n size_is is =
      let same : copied_on target (size_at catalog source.sheet s) (words_at source.sheet s (size_at catalog source.sheet s)) ≡ now = ap (λ k. copied_on target k (words_at source.sheet s k)) (sym size_is) ∙ sym is in
      let copy = subst (IsCopyingTo source.sheet.words (s + 2) (end_of target.sheet + 2) (size_at catalog source.sheet s - 2) (put catalog base source.sheet s whole refs pads target form apart small fits)) same
      (copies catalog base source.sheet s whole refs pads target form apart small fits wide) in
      (is_copied catalog base source.sheet s whole refs pads target form apart small fits now copy, copied_sound catalog base source.sheet s whole refs pads target form apart small fits now copy)
