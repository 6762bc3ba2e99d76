-- A word written within an object, below its head and its name, leaves the page's form.
use Rattle.std.proofs.Common.{◌≡◌, ◌≢◌, ◌<◌, ◌≤◌, ◌+◌, ◌-◌, ◌*◌, ◌∙◌, inl, inr, ℕ, Bool, true, List, length, get_or, set, slice_get, sym, ap, subst, arith, get_or-set_other, get_or-set_same}
use Rattle.std.proofs.lemmas.Bool.{cases_lt, cases_eq, false≢true}
use Rattle.pm3_types.specs.Fields.{Fields}
use Rattle.pm3_types.specs.Layout.{Sheet, is_start, type_in, tail_in, size_at, with_word}
use Rattle.pm3_types.specs.PageForm.{HasObjects, IsReferenceIn, IsTailBytes, is_head_of, is_name, is_padded, is_page_head, map_at, tail_at}
use Rattle.pm3_types.proofs.Writes.{still_laid}
use Rattle.pm3_types.proofs.FormedObjects.{reference_within, bytes_within}

module _ (catalog : List Fields) (refers : ℕ → Bool) (page : ℕ) (sheet : Sheet) (s i v : ℕ) (form : HasObjects catalog refers page sheet)
    (start : is_start sheet s ≡ true) (from : s + 2 ≤ i) (until : i < s + size_at catalog sheet s) where
  abbrev now : Sheet
  now = with_word sheet i v

  -- the word lies in no other object
  elsewhere : (t j : ℕ) → is_start sheet t ≡ true → t ≢ s → t ≤ j → j < t + size_at catalog sheet t → j ≢ i
  elsewhere t j is apart low high e = elim (cases_lt t s) [
    | inl before ↦ false≢true (sym (form.laid.apart t s is before (omega arith)) ∙ start)
    | inr behind ↦ false≢true (sym (form.laid.apart s t start (omega arith) (omega arith)) ∙ is)
  ]

  kept : (j : ℕ) → j ≢ i → get_or (set sheet.words i v) j 0 ≡ get_or sheet.words j 0
  kept j apart = get_or-set_other sheet.words i j v 0 apart

  -- an object's head and name
  first_two : (t j : ℕ) → is_start sheet t ≡ true → t ≤ j → j < t + 2 → j ≢ i
  first_two t j is low high e = elim (cases_eq t s) [
    | inl same ↦ omega arith
    | inr apart ↦ elsewhere t j is apart low (let whole = form.laid.whole t is in omega (arith, whole.1)) e
  ]

  head_kept : (t : ℕ) → is_start sheet t ≡ true → get_or (set sheet.words i v) t 0 ≡ get_or sheet.words t 0
  head_kept t is = kept t (first_two t t is (omega arith) (omega arith))

  name_kept : (t : ℕ) → is_start sheet t ≡ true → get_or (set sheet.words i v) (t + 1) 0 ≡ get_or sheet.words (t + 1) 0
  name_kept t is = kept (t + 1) (first_two t (t + 1) is (omega arith) (omega arith))

  map_kept : (t : ℕ) → is_start sheet t ≡ true → map_at catalog now t ≡ map_at catalog sheet t
  map_kept t is = ap (λ (h : ℕ). slice_get catalog (type_in h)) (head_kept t is)

  far : s + 2 ≤ i → 2 < i
  far e = let whole = form.laid.whole s start in omega (arith, whole.0)

  long : i < length sheet.words
  long = let whole = form.laid.whole s start in let end = form.laid.end in omega (arith, whole.2, end.1, form.laid.words)

  -- where the written word is a word of the object's body
  body : (t j : ℕ) → is_start sheet t ≡ true → t + 2 ≤ j → j < t + size_at catalog sheet t → j ≡ i → t ≡ s
  body t j is low high e = elim (cases_eq t s) [ inl same ↦ same | inr apart ↦ absurd (elsewhere t j is apart (omega arith) high e) ]

  module _ (refer : (k : ℕ) → i ≡ s + 2 + k → IsReferenceIn (map_at catalog sheet s) (tail_at sheet s) k → refers v ≡ true)
      (pad : (j k : ℕ) → i ≡ s + 2 + k → IsTailBytes (map_at catalog sheet s) (tail_at sheet s) j k → is_padded (tail_at sheet s - 8 * j) v ≡ true) where
    written : get_or (set sheet.words i v) i 0 ≡ v
    written = get_or-set_same sheet.words i v 0 long

    references : (t k : ℕ) → is_start sheet t ≡ true → IsReferenceIn (map_at catalog sheet t) (tail_at sheet t) k → refers (get_or (set sheet.words i v) (t + 2 + k) 0) ≡ true
    references t k is item = elim (cases_eq (t + 2 + k) i) [
      | inr apart ↦ ap refers (kept (t + 2 + k) apart) ∙ form.references t k is item
      | inl e ↦ (let within = reference_within (map_at catalog sheet t) (tail_at sheet t) k item in
          let own = body t (t + 2 + k) is (omega arith) (omega (arith, within)) e in
          ap refers (ap (λ (j : ℕ). get_or (set sheet.words i v) j 0) e ∙ written)
          ∙ refer k (omega (arith, own, e)) (subst (λ (u : ℕ). IsReferenceIn (map_at catalog sheet u) (tail_at sheet u) k) own item))
    ]

    padding : (t j k : ℕ) → is_start sheet t ≡ true → IsTailBytes (map_at catalog sheet t) (tail_at sheet t) j k
        → is_padded (tail_at sheet t - 8 * j) (get_or (set sheet.words i v) (t + 2 + k) 0) ≡ true
    padding t j k is item = elim (cases_eq (t + 2 + k) i) [
      | inr apart ↦ ap (is_padded (tail_at sheet t - 8 * j)) (kept (t + 2 + k) apart) ∙ form.padding t j k is item
      | inl e ↦ (let within = bytes_within (map_at catalog sheet t) (tail_at sheet t) j k item in
          let own = body t (t + 2 + k) is (omega arith) (omega (arith, within)) e in
          ap (is_padded (tail_at sheet t - 8 * j)) (ap (λ (n : ℕ). get_or (set sheet.words i v) n 0) e ∙ written)
          ∙ ap (λ (u : ℕ). is_padded (tail_at sheet u - 8 * j) v) own
          ∙ pad j k (omega (arith, own, e)) (subst (λ (u : ℕ). IsTailBytes (map_at catalog sheet u) (tail_at sheet u) j k) own item))
    ]

    -- the page has its form still, where the word is a sound reference if it stands for one, and a padded word if it is one of a tail of bytes
    pub objects_written : HasObjects catalog refers page (with_word sheet i v)
    objects_written = record {
      head = ap (is_page_head page) (kept 0 (λ e. (let low = far from in omega arith))) ∙ form.head;
      second = kept 1 (λ e. (let low = far from in omega arith)) ∙ form.second;
      laid = still_laid catalog sheet s i v form.laid start from until;
      heads = λ t map is there. ap (is_head_of map) (head_kept t is) ∙ form.heads t map is (sym (map_kept t is) ∙ there);
      names = λ t is. ap is_name (name_kept t is) ∙ form.names t is;
      references = λ t k is item. references t k is (subst (λ (h : ℕ). IsReferenceIn (slice_get catalog (type_in h)) (tail_in h) k) (head_kept t is) item);
      padding = λ t j k is item. ap (λ (h : ℕ). is_padded (tail_in h - 8 * j) (get_or (set sheet.words i v) (t + 2 + k) 0)) (head_kept t is)
          ∙ padding t j k is (subst (λ (h : ℕ). IsTailBytes (slice_get catalog (type_in h)) (tail_in h) j k) (head_kept t is) item);
    }
