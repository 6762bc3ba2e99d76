-- The book of what lies on images has exactly their objects, each under the name in its header.
use Rattle.std.proofs.Common.{◌≡◌, ◌<◌, ◌≤◌, ◌+◌, ◌||◌, ◌∙◌, inl, inr, ℕ, zero, suc, Bool, true, false, cond, List, [], ◌∷◌, ◌++◌, Option, Some, None, is_some, refl, sym, ap, arith, subst}
use Rattle.std.specs.Prelude.{slice_index}
use Rattle.std.specs.List.{flat_map, range_with_len, list_any}
use Rattle.std.specs.Ordering.{nat_cmp, eq_by_cmp}
use Rattle.std.specs.Cmp.{nat_cmp_total}
use Rattle.std.specs.FinMap.{get, keys, find, get-from_entries, contains_key-keys}
use Rattle.std.proofs.lemmas.Bool.{cases_Bool, cases_eq, cond-true, cond-false}
use Rattle.pm3_types.specs.Layout.{Sheet, address, page_in, word_in, is_unmoved}
use Rattle.pm3_types.specs.Shown.{Images}
use Rattle.pm3_types.proofs.Addressing.{word_in-lt, page_in-address, word_in-address, is_address-address, address_of}
use Rattle.pm3_types.proofs.Books.{same_key, key_same}
use Rattle.pm3_history.specs.Named.{IsNamedOn, named_at, named_on, named_in, book_of}
use Rattle.pm3_history.proofs.Laying.{some_of, one_value}

-- what holds of all entries of a list holds of the one that is found
module _ (P : ℕ → ℕ → Type 0) where
  abbrev AllEntries : List (ℕ × ℕ) → Type 0
  AllEntries [] = Unit {0}
  AllEntries (e ∷ es) = P e.0 e.1 × AllEntries es

  all_append : (es fs : List (ℕ × ℕ)) → AllEntries es → AllEntries fs → AllEntries (es ++ fs)
  all_append [] fs all also = also
  all_append (e ∷ es) fs all also = (all.0, all_append es fs all.1 also)

  found : (q n : ℕ) (es : List (ℕ × ℕ)) → AllEntries es → find nat_cmp q es ≡ Some n → P q n
  found q n [] all is = absurd (cc is)
  found q n (e ∷ es) all is = elim (cases_Bool (eq_by_cmp nat_cmp q e.0)) [
    | inl same ↦ (let value : e.1 ≡ n = one_value (cond (eq_by_cmp nat_cmp q e.0) (Some e.1) (find nat_cmp q es)) e.1 n (cond-true (eq_by_cmp nat_cmp q e.0) (Some e.1) (find nat_cmp q es) same) is in
        subst (λ (m : ℕ). P q m) value (subst (λ (k : ℕ). P k e.1) (sym (same_key q e.0 same)) all.0))
    | inr other ↦ found q n es all.1 (sym (cond-false (eq_by_cmp nat_cmp q e.0) (Some e.1) (find nat_cmp q es) other) ∙ is)
  ]

  one_entry : (b : Bool) (k n : ℕ) → (b ≡ true → P k n) → AllEntries (cond b ((k, n) ∷ []) [])
  one_entry true k n is = (is refl, tt)
  one_entry false k n is = tt

  on_words : (base page : ℕ) (sheet : Sheet) → ((at : ℕ) → at < 512 → is_unmoved sheet at ≡ true → P (address base page at) (slice_index sheet.words (at + 1)))
      → (k at : ℕ) → at + k ≤ 512 → AllEntries (flat_map (named_at base page sheet) (range_with_len at k))
  on_words base page sheet there zero at low = tt
  on_words base page sheet there (suc k) at low =
      all_append (named_at base page sheet at) (flat_map (named_at base page sheet) (range_with_len (at + 1) k))
      (one_entry (is_unmoved sheet at) (address base page at) (slice_index sheet.words (at + 1)) (there at (omega arith)))
      (on_words base page sheet there k (at + 1) (omega arith))

  on_page : (base page : ℕ) (o : Option Sheet) → ((at : ℕ) (sheet : Sheet) → o ≡ Some sheet → at < 512 → is_unmoved sheet at ≡ true → P (address base page at) (slice_index sheet.words (at + 1)))
      → AllEntries (named_on base page o)
  on_page base page None there = tt
  on_page base page (Some sheet) there = on_words base page sheet (λ at low is. there at sheet refl low is) 512 0 (omega arith)

  on_pages : (base : ℕ) (images : Images) → ((page at : ℕ) (sheet : Sheet) → get images page ≡ Some sheet → at < 512 → is_unmoved sheet at ≡ true → P (address base page at) (slice_index sheet.words (at + 1)))
      → (ks : List ℕ) → AllEntries (flat_map (λ page. named_on base page (get images page)) ks)
  on_pages base images there [] = tt
  on_pages base images there (k ∷ ks) =
      all_append (named_on base k (get images k)) (flat_map (λ page. named_on base page (get images page)) ks)
      (on_page base k (get images k) (there k)) (on_pages base images there ks)

pub book_of_named : (base : ℕ) (images : Images) (a n : ℕ) → get (book_of base images) a ≡ Some n → IsNamedOn base images a n
book_of_named base images a n is =
    found (IsNamedOn base images) a n (named_in base images) (on_pages (IsNamedOn base images) base images named (keys images))
    (sym (get-from_entries nat_cmp_total (named_in base images) a) ∙ is)
  where
    named : (page at : ℕ) (sheet : Sheet) → get images page ≡ Some sheet → at < 512 → is_unmoved sheet at ≡ true → IsNamedOn base images (address base page at) (slice_index sheet.words (at + 1))
    named page at sheet on low unmoved =
        let word : word_in base (address base page at) ≡ at = word_in-address base page at low in record {
          sheet = sheet;
          on = ap (get images) (page_in-address base page at low) ∙ on;
          address = is_address-address base page at;
          unmoved = ap (is_unmoved sheet) word ∙ unmoved;
          named = ap (λ (w : ℕ). slice_index sheet.words (w + 1)) word;
        }

-- an entry is found behind others, or before them
either_some : (b : Bool) (v : ℕ) (x y : Option ℕ) → (is_some x ≡ true → is_some y ≡ true) → is_some (cond b (Some v) x) ≡ true → is_some (cond b (Some v) y) ≡ true
either_some true v x y up is = refl
either_some false v x y up is = up is

some_either : (b : Bool) (v : ℕ) (x : Option ℕ) → is_some x ≡ true → is_some (cond b (Some v) x) ≡ true
some_either true v x is = refl
some_either false v x is = is

found_first : (q : ℕ) (es fs : List (ℕ × ℕ)) → is_some (find nat_cmp q es) ≡ true → is_some (find nat_cmp q (es ++ fs)) ≡ true
found_first q [] fs is = absurd (cc is)
found_first q (e ∷ es) fs is = either_some (eq_by_cmp nat_cmp q e.0) e.1 (find nat_cmp q es) (find nat_cmp q (es ++ fs)) (found_first q es fs) is

found_later : (q : ℕ) (es fs : List (ℕ × ℕ)) → is_some (find nat_cmp q fs) ≡ true → is_some (find nat_cmp q (es ++ fs)) ≡ true
found_later q [] fs is = is
found_later q (e ∷ es) fs is = some_either (eq_by_cmp nat_cmp q e.0) e.1 (find nat_cmp q (es ++ fs)) (found_later q es fs is)

in_words : (base page w : ℕ) (sheet : Sheet) → is_unmoved sheet w ≡ true → (k at : ℕ) → at ≤ w → w < at + k
    → is_some (find nat_cmp (address base page w) (flat_map (named_at base page sheet) (range_with_len at k))) ≡ true
in_words base page w sheet is zero at from until = absurd (omega (arith, from, until))
in_words base page w sheet is (suc k) at from until = elim (cases_eq at w) [
  | inl here ↦ found_first (address base page w) (named_at base page sheet at) (flat_map (named_at base page sheet) (range_with_len (at + 1) k))
      (subst (λ (n : ℕ). is_some (find nat_cmp (address base page w) (named_at base page sheet n)) ≡ true) (sym here) (at_word (is_unmoved sheet w) is))
  | inr other ↦ found_later (address base page w) (named_at base page sheet at) (flat_map (named_at base page sheet) (range_with_len (at + 1) k))
      (in_words base page w sheet is k (at + 1) (omega (arith, from, other)) (omega (arith, until)))
]
  where
    at_word : (b : Bool) → b ≡ true → is_some (find nat_cmp (address base page w) (cond b ((address base page w, slice_index sheet.words (w + 1)) ∷ []) [])) ≡ true
    at_word true e = ap (λ (b : Bool). is_some (cond b (Some (slice_index sheet.words (w + 1))) None)) (key_same (address base page w))
    at_word false e = absurd (cc e)

in_pages : (base page w : ℕ) (images : Images) (sheet : Sheet) → get images page ≡ Some sheet → is_unmoved sheet w ≡ true → w < 512
    → (ks : List ℕ) → list_any (eq_by_cmp nat_cmp page) ks ≡ true
    → is_some (find nat_cmp (address base page w) (flat_map (λ p. named_on base p (get images p)) ks)) ≡ true
in_pages base page w images sheet on is low [] among = absurd (cc among)
in_pages base page w images sheet on is low (k ∷ ks) among = elim (cases_Bool (eq_by_cmp nat_cmp page k)) [
  | inl same ↦ found_first (address base page w) (named_on base k (get images k)) (flat_map (λ p. named_on base p (get images p)) ks)
      (subst (λ (q : ℕ). is_some (find nat_cmp (address base page w) (named_on base q (get images q))) ≡ true) (same_key page k same)
      (subst (λ (o : Option Sheet). is_some (find nat_cmp (address base page w) (named_on base page o)) ≡ true) (sym on) (in_words base page w sheet is 512 0 (omega arith) (omega (arith, low)))))
  | inr other ↦ found_later (address base page w) (named_on base k (get images k)) (flat_map (λ p. named_on base p (get images p)) ks)
      (in_pages base page w images sheet on is low ks (later (eq_by_cmp nat_cmp page k) (list_any (eq_by_cmp nat_cmp page) ks) other among))
]
  where
    later : (b c : Bool) → b ≡ false → (b || c) ≡ true → c ≡ true
    later true c e f = absurd (cc e)
    later false c e f = f

pub book_of_has : (base : ℕ) (images : Images) (a n : ℕ) → IsNamedOn base images a n → get (book_of base images) a ≡ Some n
book_of_has base images a n named = is.1 ∙ ap Some same
  where
    there : is_some (find nat_cmp a (named_in base images)) ≡ true
    there = subst (λ (b : ℕ). is_some (find nat_cmp b (named_in base images)) ≡ true) (address_of base a named.address)
        (in_pages base (page_in base a) (word_in base a) images named.sheet named.on named.unmoved (word_in-lt base a) (keys images)
        (sym (contains_key-keys images (page_in base a)) ∙ ap is_some named.on))

    is : (m : ℕ) × (get (book_of base images) a ≡ Some m)
    is = some_of (get (book_of base images) a) (ap is_some (get-from_entries nat_cmp_total (named_in base images) a) ∙ there)

    same : is.0 ≡ n
    same =
        let other = book_of_named base images a is.0 is.1 in
        let sheets : other.sheet ≡ named.sheet = one_value (get images (page_in base a)) other.sheet named.sheet other.on named.on in
        sym other.named ∙ ap (λ (s : Sheet). slice_index s.words (word_in base a + 1)) sheets ∙ named.named
