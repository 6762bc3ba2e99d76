-- A page whose objects have other words in their bodies has the form still.
use Rattle.std.proofs.Common.{◌≡◌, ◌≤◌, ◌+◌, ◌-◌, ◌*◌, ◌∙◌, ℕ, Bool, true, false, List, length, get_or, slice_get, slice_index_or, sym, ap, subst, arith}
use Rattle.pm3_types.specs.Fields.{Fields}
use Rattle.pm3_types.specs.Layout.{Sheet, IsLaid, is_start, type_in, tail_in, size_of, size_at, end_of, end_by, used_in}
use Rattle.pm3_types.specs.PageForm.{HasObjects, IsReferenceIn, IsTailBytes, is_head_of, is_name, is_padded, is_page_head, map_at, tail_at}

module _ (catalog : List Fields) (refers : ℕ → Bool) (page : ℕ) (sheet now : Sheet) (form : HasObjects catalog refers page sheet) (starts : now.starts ≡ sheet.starts) (long : length now.words ≡ 512)
    (first : get_or now.words 0 0 ≡ get_or sheet.words 0 0) (second : get_or now.words 1 0 ≡ get_or sheet.words 1 0)
    (heads : (s : ℕ) → is_start sheet s ≡ true → get_or now.words s 0 ≡ get_or sheet.words s 0)
    (names : (s : ℕ) → is_start sheet s ≡ true → get_or now.words (s + 1) 0 ≡ get_or sheet.words (s + 1) 0)
    (rest : (i : ℕ) → end_of sheet ≤ i → get_or now.words i 0 ≡ get_or sheet.words i 0)
    (references : (s k : ℕ) → is_start sheet s ≡ true → IsReferenceIn (map_at catalog sheet s) (tail_at sheet s) k → refers (get_or now.words (s + 2 + k) 0) ≡ true)
    (padding : (s j k : ℕ) → is_start sheet s ≡ true → IsTailBytes (map_at catalog sheet s) (tail_at sheet s) j k → is_padded (tail_at sheet s - 8 * j) (get_or now.words (s + 2 + k) 0) ≡ true) where
  start_same : (s : ℕ) → is_start now s ≡ is_start sheet s
  start_same s = ap (λ xs. slice_index_or xs s false) starts

  was : (s : ℕ) → is_start now s ≡ true → is_start sheet s ≡ true
  was s is = sym (start_same s) ∙ is

  end_same : end_of now ≡ end_of sheet
  end_same = ap (λ w. end_by (used_in w)) first

  size_same : (s : ℕ) → is_start now s ≡ true → size_at catalog now s ≡ size_at catalog sheet s
  size_same s is = ap (size_of catalog) (heads s (was s is))

  pub frame_laid : IsLaid catalog now
  frame_laid = record {
    words = long;
    starts = ap length starts ∙ form.laid.starts;
    end = (omega (arith, end_same, form.laid.end.0), omega (arith, end_same, form.laid.end.1));
    first = λ more. start_same 2 ∙ form.laid.first (omega (arith, end_same));
    whole = λ s is. (let whole = form.laid.whole s (was s is) in (whole.0, omega (arith, size_same s is, whole.1), omega (arith, size_same s is, end_same, whole.2)));
    apart = λ s t is above below. start_same t ∙ form.laid.apart s t (was s is) above (omega (arith, size_same s is));
    next = λ s is more. start_same (s + size_at catalog now s) ∙ ap (λ n. is_start sheet (s + n)) (size_same s is) ∙ form.laid.next s (was s is) (omega (arith, size_same s is, end_same));
    rest = λ i past. rest i (omega (arith, end_same)) ∙ form.laid.rest i (omega (arith, end_same));
  }

  pub frame_objects : HasObjects catalog refers page now
  frame_objects = record {
    head = ap (is_page_head page) first ∙ form.head;
    second = second ∙ form.second;
    laid = frame_laid;
    heads = λ s map is of.
        ap (is_head_of map) (heads s (was s is)) ∙ form.heads s map (was s is) (sym (ap (λ h. slice_get catalog (type_in h)) (heads s (was s is))) ∙ of);
    names = λ s is. ap is_name (names s (was s is)) ∙ form.names s (was s is);
    references = λ s k is item. references s k (was s is) (let P : ℕ → Type 0 = λ h. IsReferenceIn (slice_get catalog (type_in h)) (tail_in h) k in subst P (heads s (was s is)) item);
    padding = λ s j k is item. (
        let P : ℕ → Type 0 = λ h. IsTailBytes (slice_get catalog (type_in h)) (tail_in h) j k in
        let Q : ℕ → Type 0 = λ h. is_padded (tail_in h - 8 * j) (get_or now.words (s + 2 + k) 0) ≡ true in
        subst Q (sym (heads s (was s is))) (padding s j k (was s is) (subst P (heads s (was s is)) item)));
  }
