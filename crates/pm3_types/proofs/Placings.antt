-- A new object behind the last one.
use Rattle.std.proofs.Common.{◌≡◌, ◌≢◌, ◌<◌, ◌≤◌, ◌+◌, ◌-◌, ◌^◌, ◌&&◌, ◌∙◌, inl, inr, ℕ, Bool, true, false, cond, not, List, length, get_or, set, Some, None, slice_get, sym, ap, subst, arith, length-set, get_or-set_other, get_or-set_same}
use Rattle.std.proofs.lemmas.Bool.{cases_Bool, cases_eq, cond-false, ne_eqb}
use Rattle.pm3_types.specs.Fields.{Fields}
use Rattle.pm3_types.specs.Record.{Record}
use Rattle.pm3_types.specs.Layout.{Sheet, IsLaid, is_start, is_forwarded, type_in, size_of, size_at, end_by, end_of, used_in, page_head, zeroed, placed}
use Rattle.pm3_types.specs.Shown.{Book, record_by, object_in}
use Rattle.pm3_types.proofs.Starts.{outside}
use Rattle.pm3_types.proofs.Writes.{record_alike}
use Rattle.pm3_types.proofs.ZeroedWords.{length-zeroed, zeroed_before, zeroed_behind}

module _ (catalog : List Fields) (page : ℕ) (sheet : Sheet) (size head name : ℕ) (laid : IsLaid catalog sheet) (low : page < 2 ^ 32) (two : 2 ≤ size)
    (fits : end_of sheet + size ≤ 512) (sized : size_of catalog head ≡ size) where
  abbrev now : Sheet
  now = placed page sheet size head name

  abbrev cleared : List ℕ
  cleared = zeroed sheet.words (end_of sheet) (end_of sheet + size)

  all : length cleared ≡ 512
  all = length-zeroed sheet.words (end_of sheet) (end_of sheet + size) (omega arith) (omega (arith, laid.words)) ∙ laid.words

  begin : 2 ≤ end_of sheet
  begin = laid.end.0

  -- a word that is neither the page's first nor the object's first two
  other_word : (i : ℕ) → i ≢ 0 → i ≢ end_of sheet → i ≢ end_of sheet + 1 → get_or now.words i 0 ≡ get_or cleared i 0
  other_word i a b c =
      get_or-set_other (set (set cleared 0 (page_head page (end_of sheet + size))) (end_of sheet) head) (end_of sheet + 1) i name 0 c
      ∙ get_or-set_other (set cleared 0 (page_head page (end_of sheet + size))) (end_of sheet) i head 0 b
      ∙ get_or-set_other cleared 0 i (page_head page (end_of sheet + size)) 0 a

  before : (i : ℕ) → 0 < i → i < end_of sheet → get_or now.words i 0 ≡ get_or sheet.words i 0
  before i some below =
      other_word i (λ e. omega arith) (λ e. omega arith) (λ e. omega arith)
      ∙ zeroed_before sheet.words (end_of sheet) (end_of sheet + size) (omega arith) (omega (arith, laid.words)) i below

  behind : (i : ℕ) → end_of sheet + size ≤ i → get_or now.words i 0 ≡ 0
  behind i past =
      other_word i (λ e. (let b = begin in omega arith)) (λ e. omega arith) (λ e. omega arith)
      ∙ zeroed_behind sheet.words (end_of sheet) (end_of sheet + size) (omega arith) (omega (arith, laid.words)) i past
      ∙ laid.rest i (omega arith)

  at_head : get_or now.words (end_of sheet) 0 ≡ head
  at_head =
      get_or-set_other (set (set cleared 0 (page_head page (end_of sheet + size))) (end_of sheet) head) (end_of sheet + 1) (end_of sheet) name 0 (λ e. omega arith)
      ∙ get_or-set_same (set cleared 0 (page_head page (end_of sheet + size))) (end_of sheet) head 0
      (omega (arith, length-set cleared 0 (page_head page (end_of sheet + size)), all))

  first_word : get_or now.words 0 0 ≡ page_head page (end_of sheet + size)
  first_word =
      get_or-set_other (set (set cleared 0 (page_head page (end_of sheet + size))) (end_of sheet) head) (end_of sheet + 1) 0 name 0 (λ e. omega arith)
      ∙ get_or-set_other (set cleared 0 (page_head page (end_of sheet + size))) (end_of sheet) 0 head 0 (λ e. (let b = begin in omega arith))
      ∙ get_or-set_same cleared 0 (page_head page (end_of sheet + size)) 0 (omega (arith, all))

  used : used_in (page_head page (end_of sheet + size)) ≡ end_of sheet + size
  unfolding used_in page_head
  used = omega arith

  end_now : end_of now ≡ end_of sheet + size
  end_now =
      ap (λ (w : ℕ). end_by (used_in w)) first_word ∙ ap end_by used
      ∙ cond-false _ 2 (end_of sheet + size) (ne_eqb (end_of sheet + size) 0 (λ e. omega arith))

  start_here : is_start now (end_of sheet) ≡ true
  start_here = get_or-set_same sheet.starts (end_of sheet) true false (omega (arith, laid.starts))

  start_else : (t : ℕ) → t ≢ end_of sheet → is_start now t ≡ is_start sheet t
  start_else t apart = get_or-set_other sheet.starts (end_of sheet) t true false apart

  size_here : size_at catalog now (end_of sheet) ≡ size
  size_here = ap (size_of catalog) at_head ∙ sized

  -- an object that was there lies before the new one, and keeps its head
  was : (t : ℕ) → is_start now t ≡ true → t ≢ end_of sheet → is_start sheet t ≡ true
  was t is apart = sym (start_else t apart) ∙ is

  size_else : (t : ℕ) → is_start sheet t ≡ true → size_at catalog now t ≡ size_at catalog sheet t
  size_else t is = let whole = laid.whole t is in ap (size_of catalog) (before t (omega (arith, whole.0)) (omega (arith, whole.1, whole.2)))

  -- the objects and the new one lie one after another
  pub placed_laid : IsLaid catalog (placed page sheet size head name)
  placed_laid = record {
    words =
        length-set (set (set cleared 0 (page_head page (end_of sheet + size))) (end_of sheet) head) (end_of sheet + 1) name
        ∙ length-set (set cleared 0 (page_head page (end_of sheet + size))) (end_of sheet) head
        ∙ length-set cleared 0 (page_head page (end_of sheet + size)) ∙ all;
    starts = length-set sheet.starts (end_of sheet) true ∙ laid.starts;
    end = (omega (arith, end_now, begin), omega (arith, end_now));
    first = λ more. elim (cases_eq 2 (end_of sheet)) [
      | inl e ↦ ap (is_start now) e ∙ start_here
      | inr apart ↦ start_else 2 apart ∙ laid.first (omega (arith, begin))
    ];
    whole = λ t is. elim (cases_eq t (end_of sheet)) [
      | inl e ↦ subst (λ (u : ℕ). (2 ≤ u) × (2 ≤ size_at catalog now u) × (u + size_at catalog now u ≤ end_of now)) (sym e)
          (begin, omega (arith, size_here), omega (arith, size_here, end_now))
      | inr apart ↦ (let old = was t is apart in let whole = laid.whole t old in
          (whole.0, omega (arith, size_else t old, whole.1), omega (arith, size_else t old, whole.2, end_now)))
    ];
    apart = λ t u is above below. elim (cases_eq t (end_of sheet)) [
      | inl e ↦ start_else u (λ f. omega arith) ∙ outside catalog sheet laid u (inr (omega arith))
      | inr apart ↦ (let old = was t is apart in let whole = laid.whole t old in let same = size_else t old in
          start_else u (λ f. omega (arith, whole.2)) ∙ laid.apart t u old above (omega (arith, same)))
    ];
    next = λ t is more. elim (cases_eq t (end_of sheet)) [
      | inl e ↦ absurd (omega (arith, size_here, ap (size_at catalog now) e, end_now))
      | inr apart ↦ (let old = was t is apart in let whole = laid.whole t old in let same = size_else t old in follow t old (omega (arith, whole.2)) same)
    ];
    rest = λ i past. behind i (omega (arith, end_now));
  }
    where
      follow : (t : ℕ) → is_start sheet t ≡ true → t + size_at catalog sheet t ≤ end_of sheet → size_at catalog now t ≡ size_at catalog sheet t
          → is_start now (t + size_at catalog now t) ≡ true
      follow t old most same = ap (λ (n : ℕ). is_start now (t + n)) same ∙ elim (cases_eq (t + size_at catalog sheet t) (end_of sheet)) [
        | inl e ↦ ap (is_start now) e ∙ start_here
        | inr apart ↦ start_else _ apart ∙ laid.next t old (omega arith)
      ]

  -- every other object is shown as it was
  pub others_placed : (book : Book) (t : ℕ) → t ≢ end_of sheet → object_in book catalog (Some (placed page sheet size head name)) t ≡ object_in book catalog (Some sheet) t
  others_placed book t apart = elim (cases_Bool (is_start sheet t)) [
    | inl is ↦ same is
    | inr nowhere ↦ nothing now (start_else t apart ∙ nowhere) ∙ sym (nothing sheet nowhere)
  ]
    where
      nothing : (s : Sheet) → is_start s t ≡ false → object_in book catalog (Some s) t ≡ None
      nothing s no_ = ap (λ (b : Bool). cond (b && not (is_forwarded (get_or s.words t 0))) (Some (record_by book (slice_get catalog (type_in (get_or s.words t 0))) s.words t (get_or s.words t 0))) None) no_

      same : is_start sheet t ≡ true → object_in book catalog (Some now) t ≡ object_in book catalog (Some sheet) t
      same is =
          let whole = laid.whole t is in
          ap (λ (b : Bool). cond (b && not (is_forwarded (get_or now.words t 0))) (Some (record_by book (slice_get catalog (type_in (get_or now.words t 0))) now.words t (get_or now.words t 0))) None)
          (start_else t apart)
          ∙ ap (λ (h : ℕ). cond (is_start sheet t && not (is_forwarded h)) (Some (record_by book (slice_get catalog (type_in h)) now.words t h)) None)
          (before t (omega (arith, whole.0)) (omega (arith, whole.1, whole.2)))
          ∙ ap (λ (r : Record). cond (is_start sheet t && not (is_forwarded (get_or sheet.words t 0))) (Some r) None)
          (record_alike book sheet.words now.words (slice_get catalog (type_in (get_or sheet.words t 0))) t (get_or sheet.words t 0)
          (λ j from until. before j (omega arith) (omega (arith, whole.2))))
