-- A book that fits images still fits them when a word in an object's body is another.
use Rattle.std.proofs.Common.{◌≡◌, ◌≢◌, ◌<◌, ◌≤◌, ◌+◌, ◌&&◌, ◌∙◌, inl, inr, ℕ, true, not, List, length, get_or, set, Some, sym, ap, subst, arith, get_or-set_other, get_or-set_same}
use Rattle.std.proofs.lemmas.Bool.{cases_eq, cases_lt, and_parts}
use Rattle.std.specs.Prelude.{slice_get, slice_index}
use Rattle.std.specs.FinMap.{get, insert}
use mathlib.Core.Bool.{true≢false}
use Rattle.pm3_types.specs.Fields.{Fields}
use Rattle.pm3_types.specs.Layout.{Sheet, is_start, is_forwarded, is_unmoved, is_address, page_in, word_in, type_in, tail_in, size_at, with_word}
use Rattle.pm3_types.specs.PageForm.{IsReferenceIn, map_at, tail_at}
use Rattle.pm3_types.specs.Shown.{Book, Images, IsKnown, FitsImages}
use Rattle.pm3_types.proofs.FormedObjects.{reference_within}
use Rattle.pm3_access.proofs.Homes.{some_of}
use Rattle.pm3_access.proofs.HeldObjects.{IsThere}
use Rattle.pm3_access.proofs.HeldSheets.{sheet_same, sheet_other}

module _ (catalog : List Fields) (base : ℕ) (book : Book) (images : Images) (a n : ℕ) (map : Fields) (sheet : Sheet) (there : IsThere catalog base book images a n map sheet) (i x : ℕ)
    (from : word_in base a + 2 ≤ i) (until : i < word_in base a + size_at catalog sheet (word_in base a)) where
  abbrev now : Sheet
  now = with_word sheet i x

  -- the word lies in no other object, and is neither head nor name of this one
  elsewhere : (t j : ℕ) → is_start sheet t ≡ true → t ≤ j → j < t + size_at catalog sheet t → (t ≡ word_in base a → j < word_in base a + 2) → j ≢ i
  elsewhere t j is low high front e = elim (cases_eq t (word_in base a)) [
    | inl same ↦ (let before = front same in omega arith)
    | inr apart ↦ elim (cases_lt t (word_in base a)) [
      | inl before ↦ true≢false (sym there.starts ∙ there.laid.apart t (word_in base a) is before (omega arith))
      | inr behind ↦ true≢false (sym is ∙ there.laid.apart (word_in base a) t there.starts (omega arith) (omega arith))
    ]
  ]

  head_kept : (t : ℕ) → is_start sheet t ≡ true → get_or (set sheet.words i x) t 0 ≡ get_or sheet.words t 0
  head_kept t is = let whole = there.laid.whole t is in get_or-set_other sheet.words i t x 0 (elsewhere t t is (omega arith) (omega (arith, whole.1)) (λ same. omega arith))

  name_kept : (t : ℕ) → is_start sheet t ≡ true → get_or (set sheet.words i x) (t + 1) 0 ≡ get_or sheet.words (t + 1) 0
  name_kept t is = let whole = there.laid.whole t is in get_or-set_other sheet.words i (t + 1) x 0 (elsewhere t (t + 1) is (omega arith) (omega (arith, whole.1)) (λ same. omega arith))

  on_page : (b : ℕ) → page_in base b ≡ page_in base a → get images (page_in base b) ≡ Some sheet
  on_page b e = ap (get images) e ∙ there.on

  start_of : (b m : ℕ) → get book b ≡ Some m → page_in base b ≡ page_in base a → is_start sheet (word_in base b) ≡ true
  start_of b m named e = (and_parts (is_start sheet (word_in base b)) (not (is_forwarded (slice_index sheet.words (word_in base b)))) (there.fits.objects b m sheet named (on_page b e)).1).0

  objects_kept : (b m : ℕ) → get book b ≡ Some m → page_in base b ≡ page_in base a
      → (is_address base b ≡ true) × (is_unmoved now (word_in base b) ≡ true) × (slice_index now.words (word_in base b + 1) ≡ m)
  objects_kept b m named e =
      let old = there.fits.objects b m sheet named (on_page b e) in
      let starts = start_of b m named e in (
        old.0,
        ap (λ (head : ℕ). is_start sheet (word_in base b) && not (is_forwarded head)) (head_kept (word_in base b) starts) ∙ old.1,
        name_kept (word_in base b) starts ∙ old.2,
      )

  module _ (known : (k : ℕ) → IsReferenceIn (map_at catalog sheet (word_in base a)) (tail_at sheet (word_in base a)) k → word_in base a + 2 + k ≡ i → IsKnown book x) where
    reference_kept : (t k : ℕ) → is_start sheet t ≡ true → IsReferenceIn (map_at catalog sheet t) (tail_at sheet t) k → IsKnown book (slice_index sheet.words (t + 2 + k)) → IsKnown book (slice_index now.words (t + 2 + k))
    reference_kept t k is ref old = elim (cases_eq (t + 2 + k) i) [
      | inl e ↦ subst (IsKnown book) (sym (ap (λ (j : ℕ). get_or (set sheet.words i x) j 0) e ∙ get_or-set_same sheet.words i x 0 within)) (here e)
      | inr apart ↦ subst (IsKnown book) (sym (get_or-set_other sheet.words i (t + 2 + k) x 0 apart)) old
    ]
      where
        within : i < length sheet.words
        within = let whole = there.laid.whole (word_in base a) there.starts in omega (arith, whole.2, there.laid.end.1, there.laid.words)

        here : t + 2 + k ≡ i → IsKnown book x
        here e = elim (cases_eq t (word_in base a)) [
          | inl same ↦ known k (subst (λ (s : ℕ). IsReferenceIn (map_at catalog sheet s) (tail_at sheet s) k) same ref) (ap (λ (s : ℕ). s + 2 + k) (sym same) ∙ e)
          | inr apart ↦ (let low = reference_within (map_at catalog sheet t) (tail_at sheet t) k ref in absurd (elsewhere t (t + 2 + k) is (omega arith) (omega arith) (λ same. absurd (apart same)) e))
        ]

    references_kept : (b m k : ℕ) → get book b ≡ Some m → page_in base b ≡ page_in base a → IsReferenceIn (map_at catalog now (word_in base b)) (tail_at now (word_in base b)) k
        → IsKnown book (slice_index now.words (word_in base b + 2 + k))
    references_kept b m k named e ref =
        let starts = start_of b m named e in
        let old = subst (λ (head : ℕ). IsReferenceIn (slice_get catalog (type_in head)) (tail_in head) k) (head_kept (word_in base b) starts) ref in
        reference_kept (word_in base b) k starts old (there.fits.references b m k sheet named (on_page b e) old)

    -- the book fits the images with the word
    pub still_fits : FitsImages catalog base book (insert images (page_in base a) (with_word sheet i x))
    still_fits = record {
      one = there.fits.one;
      named = there.fits.named;
      objects = λ b m s named on. elim (cases_eq (page_in base b) (page_in base a)) [
        | inl e ↦ subst (λ (s : Sheet). (is_address base b ≡ true) × (is_unmoved s (word_in base b) ≡ true) × (slice_index s.words (word_in base b + 1) ≡ m)) (is_now b s e on) (objects_kept b m named e)
        | inr ne ↦ there.fits.objects b m s named (sym (sheet_other images (page_in base a) (page_in base b) now ne) ∙ on)
      ];
      references = λ b m k s named on ref. elim (cases_eq (page_in base b) (page_in base a)) [
        | inl e ↦ subst (λ (s : Sheet). IsReferenceIn (map_at catalog s (word_in base b)) (tail_at s (word_in base b)) k → IsKnown book (slice_index s.words (word_in base b + 2 + k))) (is_now b s e on)
            (references_kept b m k named e) ref
        | inr ne ↦ there.fits.references b m k s named (sym (sheet_other images (page_in base a) (page_in base b) now ne) ∙ on) ref
      ];
      roots = λ slot s low on. there.fits.roots slot s low (sym (sheet_other images (page_in base a) 2 now (λ e. there.apart (sym e))) ∙ on);
    }
      where
        is_now : (b : ℕ) (s : Sheet) → page_in base b ≡ page_in base a → get (insert images (page_in base a) now) (page_in base b) ≡ Some s → now ≡ s
        is_now b s e on = some_of now s (sym (sheet_same images (page_in base a) (page_in base b) now e) ∙ on)
