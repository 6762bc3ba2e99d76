-- The numbers in tables, as tables are made and numbers are set.
use Rattle.std.proofs.Common.{◌≡◌, ◌≢◌, ◌<◌, ◌≤◌, ◌+◌, ◌-◌, ◌++◌, ℕ, Bool, true, false, cond, eqb, ltb, List, [], ◌∷◌, length, set, replicate, Option, Some, None, refl, sym, ap, subst, ◌∙◌, arith, inl, inr, get_or-set_same, get_or-set_other}
use Rattle.std.specs.Prelude.{◌==◌, slice_index}
use Rattle.std.proofs.lemmas.Bool.{cases_eq, cases_lt, cond-true, cond-false, eq-eqb, le-ltb, lt-ltb, ne_eqb}
use Rattle.std.proofs.lemmas.List.{get_or_append_left, get_or-append_right}
use Rattle.pm3_core.specs.declared.naming.TheConstants.{BASE}
use Rattle.pm3_core.proofs.Functions.{get_or-replicate_default}
use Rattle.pm3_types.specs.Layout.{address, is_address, page_in, word_in}
use Rattle.pm3_types.specs.Numbering.{is_among, number_of}
use Rattle.pm3_types.proofs.Addressing.{address_of, word_in-lt}
use Rattle.oo7_dump.specs.Numbers.{AreNumbers, AreTables, end_of, noted, number_at, number_in}
use Rattle.oo7_dump.proofs.Numbered.{place_here, place_other}

-- one more table, behind all others
module _ (ends more numbers : List ℕ) (page : ℕ) (tables : AreTables ends numbers) (same : (q : ℕ) → end_of more q ≡ end_of ends q) (there : page < length more) (none : end_of ends page < 512) where
  abbrev made_ends : List ℕ
  made_ends = set more page (length numbers + 512)

  abbrev made_numbers : List ℕ
  made_numbers = numbers ++ replicate 512 0

  end_here : end_of made_ends page ≡ length numbers + 512
  end_here = get_or-set_same more page (length numbers + 512) 0 there

  end_other : (q : ℕ) → q ≢ page → end_of made_ends q ≡ end_of ends q
  end_other q apart = get_or-set_other more page q (length numbers + 512) 0 apart ∙ same q

  zero_there : (word : ℕ) → word < 512 → slice_index made_numbers (length numbers + 512 - 512 + word) ≡ 0
  zero_there word low =
      let at : length numbers + 512 - 512 + word ≡ length numbers + word = omega arith in
      let behind : length numbers + word - length numbers ≡ word = omega arith in
      ap (slice_index made_numbers) at
      ∙ get_or-append_right numbers (replicate 512 0) (length numbers) (length numbers + word) 0 refl (omega arith)
      ∙ get_or-replicate_default 512 0 (length numbers + word - length numbers)

  cell_same : (q word : ℕ) → word < 512 → number_at made_numbers (end_of made_ends q) word ≡ number_at numbers (end_of ends q) word
  cell_same q word low = elim (cases_eq q page) [
    | inl here ↦
        let is = ap (end_of made_ends) here ∙ end_here in
        let was : end_of ends q < 512 = subst (λ (p : ℕ). end_of ends p < 512) (sym here) none in
        let past : 512 ≤ length numbers + 512 = omega arith in
        ap (λ (n : ℕ). number_at made_numbers n word) is
        ∙ cond-false (ltb (length numbers + 512) 512) _ _ (le-ltb (length numbers + 512) 512 past)
        ∙ ap number_in (zero_there word low)
        ∙ sym (cond-true (ltb (end_of ends q) 512) _ _ (lt-ltb (end_of ends q) 512 was))
    | inr apart ↦
        ap (λ (n : ℕ). number_at made_numbers n word) (end_other q apart) ∙ old q word low
  ]
    where
      old : (q word : ℕ) → word < 512 → number_at made_numbers (end_of ends q) word ≡ number_at numbers (end_of ends q) word
      old q word low = elim (cases_lt (end_of ends q) 512) [
        | inl before ↦
            cond-true (ltb (end_of ends q) 512) _ _ (lt-ltb (end_of ends q) 512 before)
            ∙ sym (cond-true (ltb (end_of ends q) 512) _ _ (lt-ltb (end_of ends q) 512 before))
        | inr has ↦
            let within = tables.within q in
            ap (λ (n : ℕ). cond (ltb (end_of ends q) 512) None (number_in n)) (get_or_append_left numbers (replicate 512 0) 0 (end_of ends q - 512 + word) (omega (arith, within)))
      ]

  pub noted_made : (a : ℕ) → noted made_ends made_numbers a ≡ noted ends numbers a
  noted_made a = ap (λ (o : Option ℕ). cond (is_address BASE a) o None) (cell_same (page_in BASE a) (word_in BASE a) (word_in-lt BASE a))

-- a number was set
module _ (ends numbers : List ℕ) (at n : ℕ) (tables : AreTables ends numbers) (is : is_address BASE at ≡ true) (made : 512 ≤ end_of ends (page_in BASE at)) (some : 0 < n) where
  abbrev cell : ℕ
  cell = end_of ends (page_in BASE at) - 512 + word_in BASE at

  abbrev set_numbers : List ℕ
  set_numbers = set numbers cell n

  cell_within : cell < length numbers
  cell_within = let within = tables.within (page_in BASE at) in let low = word_in-lt BASE at in omega (arith, within, low)

  -- the cell of another address is another
  cells_apart : (q : ℕ) → is_address BASE q ≡ true → q ≢ at → 512 ≤ end_of ends (page_in BASE q) → (end_of ends (page_in BASE q) - 512 + word_in BASE q) ≢ cell
  cells_apart q also apart has same = apart (sym (address_of BASE q also) ∙ ap (λ (p : ℕ). address BASE p (word_in BASE q)) pages ∙ ap (address BASE (page_in BASE at)) words ∙ address_of BASE at is)
    where
      low : word_in BASE q < 512
      low = word_in-lt BASE q

      also_low : word_in BASE at < 512
      also_low = word_in-lt BASE at

      pages : page_in BASE q ≡ page_in BASE at
      pages = elim (cases_lt (end_of ends (page_in BASE at)) (end_of ends (page_in BASE q))) [
        | inl above ↦ sym (tables.apart (page_in BASE at) (page_in BASE q) made (omega arith) (omega (arith, low, also_low)))
        | inr below ↦ tables.apart (page_in BASE q) (page_in BASE at) has below (omega (arith, low, also_low))
      ]

      words : word_in BASE q ≡ word_in BASE at
      words = let tables_same = ap (end_of ends) pages in omega (arith, tables_same)

  here : noted ends set_numbers at ≡ Some n
  here =
      cond-true (is_address BASE at) _ _ is
      ∙ cond-false (ltb (end_of ends (page_in BASE at)) 512) _ _ (le-ltb (end_of ends (page_in BASE at)) 512 made)
      ∙ ap number_in (get_or-set_same numbers cell n 0 cell_within)
      ∙ cond-false (eqb n 0) _ _ (ne_eqb n 0 (λ e. omega arith))

  other : (q : ℕ) → is_address BASE q ≡ true → q ≢ at → noted ends set_numbers q ≡ noted ends numbers q
  other q also apart = elim (cases_lt (end_of ends (page_in BASE q)) 512) [
    | inl none ↦
        let absent = lt-ltb (end_of ends (page_in BASE q)) 512 none in
        ap (λ (o : Option ℕ). cond (is_address BASE q) o None) (cond-true (ltb (end_of ends (page_in BASE q)) 512) _ _ absent ∙ sym (cond-true (ltb (end_of ends (page_in BASE q)) 512) _ _ absent))
    | inr has ↦
        ap (λ (k : ℕ). cond (is_address BASE q) (cond (ltb (end_of ends (page_in BASE q)) 512) None (number_in k)) None)
        (get_or-set_other numbers cell (end_of ends (page_in BASE q) - 512 + word_in BASE q) n 0 (cells_apart q also apart has))
  ]

  not_word : (q : ℕ) → is_address BASE q ≡ false → noted ends set_numbers q ≡ noted ends numbers q
  not_word q none = cond-false (is_address BASE q) _ _ none ∙ sym (cond-false (is_address BASE q) _ _ none)

  pub noted_set : (q : ℕ) → noted ends set_numbers q ≡ cond (q == at) (Some n) (noted ends numbers q)
  noted_set q = elim (cases_eq q at) [
    | inl same ↦ ap (noted ends set_numbers) same ∙ here ∙ sym (cond-true (eqb q at) _ _ (eq-eqb q at same))
    | inr apart ↦ either (is_address BASE q) refl apart ∙ sym (cond-false (eqb q at) _ _ (ne_eqb q at apart))
  ]
    where
      either : (b : Bool) → is_address BASE q ≡ b → q ≢ at → noted ends set_numbers q ≡ noted ends numbers q
      either true also apart = other q also apart
      either false none apart = not_word q none

-- the numbers of a list with one more address, which is new
pub numbers_more : (ends numbers made made_numbers put put_numbers list : List ℕ) (at n : ℕ) → AreNumbers ends numbers list → is_among list at ≡ false → n ≡ length list + 1
    → AreTables put put_numbers → ((q : ℕ) → noted made made_numbers q ≡ noted ends numbers q)
    → ((q : ℕ) → noted put put_numbers q ≡ cond (q == at) (Some n) (noted made made_numbers q)) → AreNumbers put put_numbers (list ++ at ∷ [])
numbers_more ends numbers made made_numbers put put_numbers list at n before new next tables same is_put = record {
  tables = tables;
  are = λ q. elim (cases_eq q at) [
    | inl here ↦ (let is : 1 + length list ≡ n = omega arith in
        is_put q ∙ cond-true (eqb q at) _ _ (eq-eqb q at here)
        ∙ sym (ap (λ (k : ℕ). number_of (list ++ at ∷ []) k) here ∙ place_here list at 1 new ∙ ap (λ (k : ℕ). Some k) is))
    | inr apart ↦
        is_put q ∙ cond-false (eqb q at) _ _ (ne_eqb q at apart) ∙ same q ∙ before.are q
        ∙ sym (place_other list at q 1 (λ e. apart (sym e)))
  ];
}
