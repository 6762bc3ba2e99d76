-- Objects that are copied behind others.
use Rattle.std.proofs.Common.{◌≡◌, ◌≢◌, ◌<◌, ◌+◌, ◌∙◌, ◌⊎◌, inl, inr, ℕ, true, false, List, length, get_or, Some, slice_index_or, refl, sym, ap, arith, add-zero, get_or-set_same, get_or-set_other}
use Rattle.std.specs.FinMap as map_of
use Rattle.std.proofs.lemmas.Bool.{cases_eq}
use Rattle.std.proofs.lemmas.List.{length-replicate}
use Rattle.pm3_types.specs.Fields.{Fields}
use Rattle.pm3_types.specs.Layout.{Sheet, PageImage, IsLaid, blank_sheet, begins_at, is_start, page_in, word_in, size_at, size_of, end_of, used_in}
use Rattle.pm3_types.specs.PageForm.{IsSound, is_memory_reference}
use Rattle.pm3_types.specs.Whole.{IsWhole}
use Rattle.pm3_types.proofs.FormedObjects.{objects_of}
use Rattle.pm3_copy.specs.Copies.{IsCopied}
use Rattle.pm3_copy.specs.Moving.{IsSameObject, PutsCopy}
use Rattle.pm3_page.specs.PageMap.{Images}
use Rattle.pm3_copy.proofs.SoundPages.{get_here, get_else}

-- a page without objects ends behind its first two words
pub blank_end : end_of blank_sheet ≡ 2
unfolding used_in
blank_end = refl

-- a sound image of a page of objects has a start for each word
pub starts_long : (catalog : List Fields) (base : ℕ) (image : PageImage) → IsSound catalog base 16384 image → image.page ≢ 2 → length image.sheet.starts ≡ 512
starts_long catalog base image sound apart = elim (sound.objects apart) [
  | inl blank ↦ ap (λ (s : Sheet). length s.starts) blank ∙ length-replicate {A = _} 512 false
  | inr form ↦ form.laid.starts
]

module _ (catalog : List Fields) (base : ℕ) (source : Sheet) (s : ℕ) (target now : PageImage) (size : ℕ) (copied : IsCopied source s size target now) where
  -- the copy
  pub new_copy : size ≡ size_at catalog source s → end_of target.sheet < length target.sheet.starts → IsSameObject catalog source s now.sheet (end_of target.sheet)
  new_copy is low = record {
    start = ap (λ xs. slice_index_or xs (end_of target.sheet) false) copied.starts ∙ get_or-set_same target.sheet.starts (end_of target.sheet) true false low;
    words = λ k less. copied.object k (omega (arith, is));
  }

  -- where objects begin
  pub starts_now : (w : ℕ) → is_start now.sheet w ≡ true → (w ≡ end_of target.sheet) ⊎ (is_start target.sheet w ≡ true)
  starts_now w is = elim (cases_eq w (end_of target.sheet)) [
    | inl same ↦ inl same
    | inr apart ↦ inr (sym (get_or-set_other target.sheet.starts (end_of target.sheet) w true false apart) ∙ sym (ap (λ xs. slice_index_or xs w false) copied.starts) ∙ is)
  ]

  -- an earlier copy on the same page
  pub still_copy : (first : Sheet) (u t : ℕ) → IsSound catalog base 16384 target → IsWhole catalog first u → IsSameObject catalog first u target.sheet t → IsSameObject catalog first u now.sheet t
  still_copy first u t sound whole same =
      let laid : IsLaid catalog target.sheet = (objects_of catalog (is_memory_reference base 16384) target.page target.sheet t sound same.start).1.laid in
      let at = laid.whole t same.start in
      let size_same : size_at catalog target.sheet t ≡ size_at catalog first u = ap (size_of catalog) (at_zero (same.words 0 (omega (arith, whole.size)))) in
      record {
        start = ap (λ xs. slice_index_or xs t false) copied.starts ∙ get_or-set_other target.sheet.starts (end_of target.sheet) t true false (λ e. omega (arith, e, at.1, at.2)) ∙ same.start;
        words = λ k less. copied.others (t + k) (omega (arith, at.0)) (omega (arith, at.2, size_same)) ∙ same.words k less;
      }
    where
      at_zero : get_or target.sheet.words (t + 0) 0 ≡ get_or first.words (u + 0) 0 → get_or target.sheet.words t 0 ≡ get_or first.words u 0
      at_zero e = ap (λ n. get_or target.sheet.words n 0) (sym (add-zero t)) ∙ e ∙ ap (λ n. get_or first.words n 0) (add-zero u)

-- a page whose image was changed
pub put_copy : (catalog : List Fields) (base : ℕ) (images : Images) (a page : ℕ) (old : Images) (source target now : PageImage)
    → map_of.get images (page_in base a) ≡ Some source → begins_at base source a ≡ true → map_of.get old page ≡ Some target
    → IsCopied source.sheet (word_in base a) (size_at catalog source.sheet (word_in base a)) target now
    → PutsCopy catalog base images a page old (map_of.insert old page now)
put_copy catalog base images a page old source target now on begins was copied = record {
  source = source;
  target = target;
  now = now;
  on = on;
  begins = begins;
  was = was;
  is = get_here old page page now refl;
  copied = copied;
  others = λ p apart. get_else old page p now apart;
}
