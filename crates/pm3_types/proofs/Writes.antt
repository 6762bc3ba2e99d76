-- A word written within an object, below its head and its name.
use Rattle.std.proofs.Common.{◌≡◌, ◌≢◌, ◌<◌, ◌≤◌, ◌+◌, ◌/◌, ◌%◌, ◌&&◌, ◌∙◌, inl, inr, ℕ, zero, suc, Bool, true, false, cond, not, List, ◌∷◌, map, get_or, set, Option, Some, None, slice_get, refl, sym, ap, arith, length-set, get_or-set_other}
use Rattle.std.specs.List.{range_with_len}
use Rattle.std.proofs.lemmas.Bool.{cases_Bool, cases_lt, false≢true}
use Rattle.pm3_types.specs.Fields.{Fields, is_reference}
use Rattle.pm3_types.specs.declared.type_map.Tail.{Tail}
use Rattle.pm3_types.specs.declared.type_map.Tail.TheVariants.{Empty, Refs, Bytes}
use Rattle.pm3_types.specs.Record.{Record}
use Rattle.pm3_types.specs.Layout.{Sheet, IsLaid, is_start, is_forwarded, type_in, tail_in, tail_words, size_by, size_of, size_at, end_by, end_of, used_in, with_word}
use Rattle.pm3_types.specs.Shown.{Book, name_by, byte_in, list_of, field_of, tail_of, record_by, object_in}

-- lists of the same values
pub alike : {A : Type 0} (f g : ℕ → A) (n a : ℕ) → ((k : ℕ) → a ≤ k → k < a + n → f k ≡ g k) → map f (range_with_len a n) ≡ map g (range_with_len a n)
alike f g zero a same = refl
alike f g (suc n) a same =
    let first : f a ≡ g a = same a (omega arith) (omega arith) in
    let rest : map f (range_with_len (a + 1) n) ≡ map g (range_with_len (a + 1) n) = alike f g n (a + 1) (λ k from until. same k (omega arith) (omega arith)) in
    λ i. first i ∷ rest i

module _ (book : Book) (words now : List ℕ) where
  pub tail_alike : (tail : Tail) (at len : ℕ) → ((j : ℕ) → j < tail_words tail len → get_or now (at + j) 0 ≡ get_or words (at + j) 0)
      → tail_of book tail now at len ≡ tail_of book tail words at len
  tail_alike Empty at len same = refl
  tail_alike Refs at len same = alike _ _ len 0 (λ k from until. ap (name_by book) (same k (omega arith)))
  tail_alike Bytes at len same = alike _ _ len 0 (λ k from until. ap (λ (w : ℕ). byte_in w (k % 8)) (same (k / 8) (omega arith)))

  -- an object whose body is the same has the same record
  pub record_alike : (o : Option Fields) (at head : ℕ) → ((i : ℕ) → at + 2 ≤ i → i < at + size_by o (tail_in head) → get_or now i 0 ≡ get_or words i 0)
      → record_by book o now at head ≡ record_by book o words at head
  record_alike None at head same = refl
  record_alike (Some fields) at head same =
      let values : list_of fields.count (field_of book fields now at) ≡ list_of fields.count (field_of book fields words at) =
      alike _ _ fields.count 0 (λ k from until. ap (λ (w : ℕ). cond (is_reference fields k) (name_by book w) w) (same (at + 2 + k) (omega arith) (omega arith))) in
      let items : tail_of book fields.tail now (at + 2 + fields.count) (tail_in head) ≡ tail_of book fields.tail words (at + 2 + fields.count) (tail_in head) =
      tail_alike fields.tail (at + 2 + fields.count) (tail_in head) (λ j below. same (at + 2 + fields.count + j) (omega arith) (omega arith)) in
      λ i. record { ty = type_in head; fields = values i; tail = items i }

module _ (catalog : List Fields) (sheet : Sheet) (s i v : ℕ) (laid : IsLaid catalog sheet) (start : is_start sheet s ≡ true) (from : s + 2 ≤ i) (until : i < s + size_at catalog sheet s) where
  -- no object begins at the word
  no_start : (t : ℕ) → is_start sheet t ≡ true → t ≢ i
  no_start t is e = false≢true (sym (laid.apart s i start (omega arith) until) ∙ ap (is_start sheet) (sym e) ∙ is)

  head_kept : (t : ℕ) → is_start sheet t ≡ true → get_or (set sheet.words i v) t 0 ≡ get_or sheet.words t 0
  head_kept t is = get_or-set_other sheet.words i t v 0 (no_start t is)

  size_kept : (t : ℕ) → is_start sheet t ≡ true → size_at catalog (with_word sheet i v) t ≡ size_at catalog sheet t
  size_kept t is = ap (size_of catalog) (head_kept t is)

  end_kept : end_of (with_word sheet i v) ≡ end_of sheet
  end_kept = ap (λ (w : ℕ). end_by (used_in w)) (get_or-set_other sheet.words i 0 v 0 (λ e. (let whole = laid.whole s start in omega arith)))

  -- the objects lie as they did
  pub still_laid : IsLaid catalog (with_word sheet i v)
  still_laid = record {
    words = length-set sheet.words i v ∙ laid.words;
    starts = laid.starts;
    end = (omega (arith, end_kept, laid.end.0), omega (arith, end_kept, laid.end.1));
    first = λ more. laid.first (omega (arith, end_kept));
    whole = λ t is. let whole = laid.whole t is in (whole.0, omega (arith, size_kept t is, whole.1), omega (arith, size_kept t is, whole.2, end_kept));
    apart = λ t u is above below. laid.apart t u is above (omega (arith, size_kept t is));
    next = λ t is more. ap (λ (n : ℕ). is_start sheet (t + n)) (size_kept t is) ∙ laid.next t is (omega (arith, size_kept t is, end_kept));
    rest = λ j past. get_or-set_other sheet.words i j v 0 (λ e. (let whole = laid.whole s start in omega (arith, end_kept, whole.2))) ∙ laid.rest j (omega (arith, end_kept));
  }

  -- the word lies in no other object
  elsewhere : (t j : ℕ) → is_start sheet t ≡ true → t ≢ s → t + 2 ≤ j → j < t + size_at catalog sheet t → j ≢ i
  elsewhere t j is apart low high e = elim (cases_lt t s) [
    | inl before ↦ false≢true (sym (laid.apart t s is before (omega arith)) ∙ start)
    | inr behind ↦ false≢true (sym (laid.apart s t start (omega arith) (omega arith)) ∙ is)
  ]

  -- every other object is shown as it was
  pub others_kept : (book : Book) (t : ℕ) → t ≢ s → object_in book catalog (Some (with_word sheet i v)) t ≡ object_in book catalog (Some sheet) t
  others_kept book t apart = elim (cases_Bool (is_start sheet t)) [ inl is ↦ same is | inr none ↦ nothing (set sheet.words i v) none ∙ sym (nothing sheet.words none) ]
    where
      shown_by : List ℕ → ℕ → Option Record
      shown_by words head = cond (is_start sheet t && not (is_forwarded head)) (Some (record_by book (slice_get catalog (type_in head)) words t head)) None

      nothing : (words : List ℕ) → is_start sheet t ≡ false
          → cond (is_start sheet t && not (is_forwarded (get_or words t 0))) (Some (record_by book (slice_get catalog (type_in (get_or words t 0))) words t (get_or words t 0))) None ≡ None
      nothing words none = ap (λ (b : Bool). cond (b && not (is_forwarded (get_or words t 0))) (Some (record_by book (slice_get catalog (type_in (get_or words t 0))) words t (get_or words t 0))) None) none

      same : is_start sheet t ≡ true → object_in book catalog (Some (with_word sheet i v)) t ≡ object_in book catalog (Some sheet) t
      same is =
          ap (λ (head : ℕ). cond (is_start sheet t && not (is_forwarded head)) (Some (record_by book (slice_get catalog (type_in head)) (set sheet.words i v) t head)) None) (head_kept t is)
          ∙ ap (λ (r : Record). cond (is_start sheet t && not (is_forwarded (get_or sheet.words t 0))) (Some r) None)
          (record_alike book sheet.words (set sheet.words i v) (slice_get catalog (type_in (get_or sheet.words t 0))) t (get_or sheet.words t 0)
          (λ j low high. get_or-set_other sheet.words i j v 0 (elsewhere t j is apart low high)))
