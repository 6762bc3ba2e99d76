-- A copy whose page was updated.
use Rattle.std.proofs.Common.{◌≡◌, ◌<◌, ◌+◌, ◌∙◌, inl, inr, ℕ, true, false, not, List, get_or, slice_get, slice_index_or, refl, sym, ap, subst, arith, add-zero}
use Rattle.std.proofs.lemmas.Bool.{cases_eq, cases_lt, and_from}
use Rattle.pm3_types.specs.Fields.{Fields}
use Rattle.pm3_types.specs.Layout.{Sheet, PageImage, is_start, is_forwarded, size_at, size_of, type_in, tail_in}
use Rattle.pm3_types.specs.PageForm.{IsSound, IsReferenceIn, map_at, tail_at}
use Rattle.pm3_types.specs.PassShown.{IsCopy}
use Rattle.pm3_types.specs.Whole.{IsWhole}
use Rattle.pm3_types.proofs.FormedObjects.{reference_within}
use Rattle.pm3_copy.specs.Moving.{IsSameObject}
use Rattle.pm3_copy.specs.Renaming.{IsRenamed, IsPlaceIn}
use Rattle.pm3_copy.proofs.RenamedPages.{no_head, within, behind}

module _ (catalog : List Fields) (base : ℕ) (to : ℕ → ℕ) (sheet : Sheet) (s : ℕ) (copy : PageImage) (t : ℕ) (now : Sheet) (whole : IsWhole catalog sheet s) (same : IsSameObject catalog sheet s copy.sheet t)
    (sound : IsSound catalog base 16384 copy) (renamed : IsRenamed (IsPlaceIn catalog copy.sheet) to copy.sheet now) where
  head : get_or copy.sheet.words t 0 ≡ get_or sheet.words s 0
  head = ap (λ n. get_or copy.sheet.words n 0) (sym (add-zero t)) ∙ same.words 0 (omega (arith, whole.size)) ∙ ap (λ n. get_or sheet.words n 0) (add-zero s)

  size : size_at catalog copy.sheet t ≡ size_at catalog sheet s
  size = ap (size_of catalog) head

  body : (k : ℕ) → 2 + k < size_at catalog sheet s → get_or copy.sheet.words (t + 2 + k) 0 ≡ get_or sheet.words (s + 2 + k) 0
  body k low = ap (λ n. get_or copy.sheet.words n 0) (parts t) ∙ same.words (2 + k) low ∙ ap (λ n. get_or sheet.words n 0) (sym (parts s))
    where
      parts : (n : ℕ) → n + 2 + k ≡ n + (2 + k)
      parts n = omega arith

  over : (k : ℕ) → IsReferenceIn (map_at catalog sheet s) (tail_at sheet s) k → IsReferenceIn (map_at catalog copy.sheet t) (tail_at copy.sheet t) k
  over k item = (let P : ℕ → Type 0 = λ h. IsReferenceIn (slice_get catalog (type_in h)) (tail_in h) k in subst P (sym head) item)

  back : (k : ℕ) → IsReferenceIn (map_at catalog copy.sheet t) (tail_at copy.sheet t) k → IsReferenceIn (map_at catalog sheet s) (tail_at sheet s) k
  back k item = (let P : ℕ → Type 0 = λ h. IsReferenceIn (slice_get catalog (type_in h)) (tail_in h) k in subst P head item)

  -- a word of the object that is a reference of some object is its own
  own : (k : ℕ) → 2 + k < size_at catalog sheet s → IsPlaceIn catalog copy.sheet (t + 2 + k) → IsReferenceIn (map_at catalog sheet s) (tail_at sheet s) k
  own k low p = elim (cases_eq p.from t) [
    | inl e ↦ (
        let place : p.at.place ≡ k = omega (arith, p.at.is, e) in
        let P : ℕ → Type 0 = λ u. IsReferenceIn (map_at catalog copy.sheet u) (tail_at copy.sheet u) p.at.place in
        let Q : ℕ → Type 0 = λ n. IsReferenceIn (map_at catalog copy.sheet t) (tail_at copy.sheet t) n in
        back k (subst Q place (subst P e p.at.reference)))
    | inr apart ↦ (let inside = within catalog base copy sound p.from (t + 2 + k) p.at in elim (cases_lt p.from t) [
      | inl before ↦ (let past = behind catalog base copy sound p.from t p.start same.start before in absurd (omega (arith, inside.1)))
      | inr after ↦ (let past = behind catalog base copy sound t p.from same.start p.start (omega arith) in absurd (omega (arith, inside.0, size)))
    ])
  ]

  head_now : get_or now.words t 0 ≡ get_or sheet.words s 0
  head_now = renamed.others t (λ p. (no_head catalog base copy sound t p.from t same.start p.start p.at).0 refl) ∙ head

  pub renamed_copy : IsCopy catalog to sheet s now t
  renamed_copy = record {
    object = and_from (is_start now t) (not (is_forwarded (get_or now.words t 0))) (ap (λ xs. slice_index_or xs t false) renamed.starts ∙ same.start) (ap not (ap is_forwarded head_now ∙ whole.unmoved));
    head = head_now;
    name = renamed.others (t + 1) (λ p. (no_head catalog base copy sound t p.from (t + 1) same.start p.start p.at).1 refl) ∙ same.words 1 (omega (arith, whole.size));
    references = λ k item. (
        let low = reference_within (map_at catalog sheet s) (tail_at sheet s) k item in
        renamed.places (t + 2 + k) (record { from = t; start = same.start; at = record { place = k; reference = over k item; is = refl } }) ∙ ap to (body k low));
    others = λ k low none. renamed.others (t + 2 + k) (λ p. none (own k low p)) ∙ body k low;
  }

-- an object is a copy of itself
pub same_itself : (catalog : List Fields) (sheet : Sheet) (s : ℕ) → is_start sheet s ≡ true → IsSameObject catalog sheet s sheet s
same_itself catalog sheet s is = record { start = is; words = λ k low. refl }
