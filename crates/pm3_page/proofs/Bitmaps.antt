-- Bits of words, and the sets of pages that they stand for.
use Rattle.std.proofs.Common.{◌≡◌, ℕ, zero, suc, ◌+◌, ◌-◌, ◌*◌, ◌/◌, ◌%◌, ◌^◌, ◌<◌, ◌≤◌, ◌≢◌, Bool, true, false, eqb, ltb, not, cond, ◌&&◌, ◌||◌, Option, None, Some, List, [], ◌∷◌, ◌++◌, length, get_or, set, replicate, refl, sym, ap, ◌∙◌, arith, inl, inr, get_or-set_same, get_or-set_other}
use Rattle.std.proofs.lemmas.Bool.{cases_eq, cases_lt, and_parts, false_from_ne_true, eq-eqb, ne_eqb, cond-false}
use Rattle.std.proofs.lemmas.Bool.Decides.{nat_tests}
use Rattle.std.proofs.lemmas.Nat.{pow-add}
use Rattle.std.proofs.lemmas.Nat.Bits.{bit_at-zero, bit_at_above, bit_at-trailing_zeros, bit_at_set_same, bit_at_set_other, bit_at_clear_same, bit_at_clear_other}
use Rattle.std.proofs.lemmas.List.{get_or_past, get_or_default}
use mathlib.Core.Bool.{true≢false}
use Rattle.std.proofs.Math.Nat.{div-div-eq-div-mul, div-le_self}
use Rattle.std.specs.Int.{bit_at, trailing_zeros, w64}
use Rattle.std.specs.Prelude.{bit_and, bit_or}
use Rattle.std.specs.Ordering.{nat_cmp}
use Rattle.std.specs.Cmp.{nat_cmp_total, unsigned_tied}
use Rattle.std.specs.FinSet as set_of
use Rattle.std.specs.FinSet.{nat_cmp-IsAntisymmetric, same_set, contains-empty, contains-insert, contains-retain, len-insert, len-remove, len-empty, contains-remove}
use Rattle.pm3_page.specs.Bits.{has_bit, below, pages_of}
use Rattle.pm3_page.specs.Next.{IsLeast, IsNext}

-- a bit of a word that was shifted down
pub bit_at-shr : (n k i : ℕ) → bit_at (n / 2 ^ k) i ≡ bit_at n (k + i)
bit_at-shr n k i = ap (λ (x : ℕ). x % 2) (div-div-eq-div-mul n (2 ^ k) (2 ^ i) ∙ ap (λ (m : ℕ). n / m) (sym (pow-add 2 k i)))

-- a word that shifts down to 0 has no bit from there on
pub none_from : (word low : ℕ) → word / 2 ^ low ≡ 0 → (q : ℕ) → low ≤ q → eqb (bit_at word q) 1 ≡ false
none_from word low e q le =
    let same : low + (q - low) ≡ q = omega arith in
    let none : bit_at word q ≡ 0 = ap (bit_at word) (sym same) ∙ sym (bit_at-shr word low (q - low)) ∙ ap (λ (n : ℕ). bit_at n (q - low)) e ∙ bit_at-zero (q - low) in
    ap (λ (n : ℕ). eqb n 1) none

-- the lowest bit of a word from `low` on
pub least_from : (word low : ℕ) → word < 2 ^ 64 → 0 < word / 2 ^ low → IsLeast (λ k. eqb (bit_at word k) 1) low (low + trailing_zeros w64 (word / 2 ^ low))
least_from word low fits some = record {
  reached = omega arith;
  there = ap (λ (n : ℕ). eqb n 1) (sym (bit_at-shr word low _) ∙ found.1);
  least = λ q le lt.
      let same : low + (q - low) ≡ q = omega arith in
      ap (λ (n : ℕ). eqb n 1) (ap (bit_at word) (sym same) ∙ sym (bit_at-shr word low (q - low)) ∙ found.2 (q - low) (omega arith));
}
  where
    found : (trailing_zeros w64 (word / 2 ^ low) < 64) × (bit_at (word / 2 ^ low) (trailing_zeros w64 (word / 2 ^ low)) ≡ 1) × ((i : ℕ) → i < trailing_zeros w64 (word / 2 ^ low) → bit_at (word / 2 ^ low) i ≡ 0)
    found = bit_at-trailing_zeros w64 (word / 2 ^ low) some (omega (arith, div-le_self word (2 ^ low)))

-- a bit that is set is one of the 64
pub bit_below_64 : (word k : ℕ) → word < 2 ^ 64 → eqb (bit_at word k) 1 ≡ true → k < 64
bit_below_64 word k fits there = elim (cases_lt k 64) [ inl lt ↦ lt | inr ge ↦ absurd (true≢false (sym there ∙ ap (λ (n : ℕ). eqb n 1) (bit_at_above word 64 k fits ge))) ]

-- a page past the last word has no bit
pub has_bit_past : (words : List ℕ) (q : ℕ) → 64 * length words ≤ q → has_bit words q ≡ false
unfolding has_bit
has_bit_past words q past =
    ap (λ (n : ℕ). eqb n 1) (ap (λ (word : ℕ). bit_at word (q % 64)) (get_or_past words (q / 64) 0 (omega arith)) ∙ bit_at-zero (q % 64))

no_word : (n i : ℕ) → ◌≡◌ {A = ℕ} (get_or (replicate n 0) i 0) 0
no_word zero i = refl
no_word (suc n) zero = refl
no_word (suc n) (suc i) = no_word n i

word_before_zeros : (words : List ℕ) (n i : ℕ) → get_or (words ++ replicate n 0) i 0 ≡ get_or words i 0
word_before_zeros [] n i = no_word n i
word_before_zeros (word ∷ words) n zero = refl
word_before_zeros (word ∷ words) n (suc i) = word_before_zeros words n i

-- words of zeros behind the last have no bits
pub has_bit-grown : (words : List ℕ) (n q : ℕ) → has_bit (words ++ replicate n 0) q ≡ has_bit words q
unfolding has_bit
has_bit-grown words n q = ap (λ (word : ℕ). eqb (bit_at word (q % 64)) 1) (word_before_zeros words n (q / 64))

-- a bit of the word that stands at i
pub has_bit_of_word : (words : List ℕ) (i bit word q : ℕ) → i < length words → word ≡ get_or words i word → bit < 64 → q ≡ 64 * i + bit → has_bit words q ≡ eqb (bit_at word bit) 1
unfolding has_bit
has_bit_of_word words i bit word q within read small is =
    let at : q / 64 ≡ i = omega arith in
    let rest : q % 64 ≡ bit = omega arith in
    let moved : eqb (bit_at (get_or words (q / 64) 0) (q % 64)) 1 ≡ eqb (bit_at (get_or words i 0) bit) 1 = λ j. eqb (bit_at (get_or words (at j) 0) (rest j)) 1 in
    moved ∙ ap (λ (n : ℕ). eqb (bit_at n bit) 1) (sym (read ∙ get_or_default words i word 0 within))

-- one more word without a bit
pub none_in_word : (words : List ℕ) (start i low word : ℕ) → i < length words → word ≡ get_or words i word
    → ((q : ℕ) → start ≤ q → q < 64 * i + low → has_bit words q ≡ false)
    → ((q : ℕ) → low ≤ q → eqb (bit_at word q) 1 ≡ false)
    → (q : ℕ) → start ≤ q → q < 64 * (i + 1) → has_bit words q ≡ false
none_in_word words start i low word within read before none q from below_next =
    elim (cases_lt q (64 * i + low)) [
      | inl lt ↦ before q from lt
      | inr ge ↦ has_bit_of_word words i (q - 64 * i) word q within read (omega arith) (omega arith) ∙ none (q - 64 * i) (omega arith)
    ]

-- the lowest bit of a word, behind which there is none
pub least_in_word : (words : List ℕ) (start i low bit word : ℕ) → i < length words → word ≡ get_or words i word → bit < 64 → start ≤ 64 * i + low
    → ((q : ℕ) → start ≤ q → q < 64 * i + low → has_bit words q ≡ false)
    → IsLeast (λ k. eqb (bit_at word k) 1) low bit
    → IsLeast (has_bit words) start (64 * i + bit)
least_in_word words start i low bit word within read small from before found = record {
  reached = let reached = found.reached in omega arith;
  there = has_bit_of_word words i bit word (64 * i + bit) within read small refl ∙ found.there;
  least = λ q ge lt. elim (cases_lt q (64 * i + low)) [
    | inl below_low ↦ before q ge below_low
    | inr above_low ↦ has_bit_of_word words i (q - 64 * i) word q within read (omega arith) (omega arith) ∙ found.least (q - 64 * i) (omega arith) (omega arith)
  ];
}

-- a bit after a word was written
pub has_bit_here : (words : List ℕ) (page word q : ℕ) → page < 64 * length words → q / 64 ≡ page / 64 → has_bit (set words (page / 64) word) q ≡ eqb (bit_at word (q % 64)) 1
unfolding has_bit
has_bit_here words page word q within same =
    ap (λ (n : ℕ). eqb (bit_at n (q % 64)) 1) (ap (λ (i : ℕ). get_or (set words (page / 64) word) i 0) same ∙ get_or-set_same words (page / 64) word 0 (omega arith))

pub has_bit_apart : (words : List ℕ) (page word q : ℕ) → q / 64 ≢ page / 64 → has_bit (set words (page / 64) word) q ≡ has_bit words q
unfolding has_bit
has_bit_apart words page word q apart = ap (λ (n : ℕ). eqb (bit_at n (q % 64)) 1) (get_or-set_other words (page / 64) (q / 64) word 0 apart)

here_or : (q page : ℕ) (b : Bool) → q ≡ page → (eqb q page || b) ≡ true
here_or q page b e = ap (λ t. t || b) (eq-eqb q page e)

apart_or : (q page : ℕ) (b : Bool) → q ≢ page → (eqb q page || b) ≡ b
apart_or q page b ne = ap (λ t. t || b) (ne_eqb q page ne)

here_and : (q page : ℕ) (b : Bool) → q ≡ page → (not (eqb q page) && b) ≡ false
here_and q page b e = ap (λ t. not t && b) (eq-eqb q page e)

apart_and : (q page : ℕ) (b : Bool) → q ≢ page → (not (eqb q page) && b) ≡ b
apart_and q page b ne = ap (λ t. not t && b) (ne_eqb q page ne)

-- the bits after one was set
pub has_bit-set : (words : List ℕ) (page word q : ℕ) → page < 64 * length words → word ≡ get_or words (page / 64) word → has_bit (set words (page / 64) (bit_or word (1 * 2 ^ (page % 64) % 2 ^ 64))) q ≡ (eqb q page || has_bit words q)
has_bit-set words page word q within read =
    elim (cases_eq (q / 64) (page / 64)) [
      | inr apart ↦ has_bit_apart words page _ q apart ∙ sym (apart_or q page (has_bit words q) (λ e. apart (ap (λ (n : ℕ). n / 64) e)))
      | inl same ↦ has_bit_here words page _ q within same ∙ elim (cases_eq q page) [
        | inl e ↦ let at : q % 64 ≡ page % 64 = ap (λ (n : ℕ). n % 64) e in
            ap (λ (k : ℕ). eqb (bit_at (bit_or word (1 * 2 ^ (page % 64) % 2 ^ 64)) k) 1) at
            ∙ ap (λ (n : ℕ). eqb n 1) (bit_at_set_same w64 word (page % 64) (omega arith))
            ∙ sym (here_or q page (has_bit words q) e)
        | inr ne ↦ let apart : q % 64 ≢ page % 64 = λ e. ne (omega arith) in
            ap (λ (n : ℕ). eqb n 1) (bit_at_set_other w64 word (page % 64) (omega arith) (q % 64) apart)
            ∙ sym (apart_or q page (has_bit words q) ne ∙ has_bit_of_word words (page / 64) (q % 64) word q (omega arith) read (omega arith) (omega arith))
      ]
    ]

-- the bits after one was cleared
pub has_bit-clear : (words : List ℕ) (page word q : ℕ) → page < 64 * length words → word ≡ get_or words (page / 64) word → has_bit (set words (page / 64) (bit_and word (2 ^ 64 - 1 - 1 * 2 ^ (page % 64) % 2 ^ 64))) q ≡ (not (eqb q page) && has_bit words q)
has_bit-clear words page word q within read =
    elim (cases_eq (q / 64) (page / 64)) [
      | inr apart ↦ has_bit_apart words page _ q apart ∙ sym (apart_and q page (has_bit words q) (λ e. apart (ap (λ (n : ℕ). n / 64) e)))
      | inl same ↦ has_bit_here words page _ q within same ∙ elim (cases_eq q page) [
        | inl e ↦ let at : q % 64 ≡ page % 64 = ap (λ (n : ℕ). n % 64) e in
            ap (λ (k : ℕ). eqb (bit_at (bit_and word (2 ^ 64 - 1 - 1 * 2 ^ (page % 64) % 2 ^ 64)) k) 1) at
            ∙ ap (λ (n : ℕ). eqb n 1) (bit_at_clear_same w64 word (page % 64) (omega arith))
            ∙ sym (here_and q page (has_bit words q) e)
        | inr ne ↦ let apart : q % 64 ≢ page % 64 = λ e. ne (omega arith) in
            ap (λ (n : ℕ). eqb n 1) (bit_at_clear_other w64 word (page % 64) (omega arith) (q % 64) (omega arith) apart)
            ∙ sym (apart_and q page (has_bit words q) ne ∙ has_bit_of_word words (page / 64) (q % 64) word q (omega arith) read (omega arith) (omega arith))
      ]
    ]

-- the numbers below n are those that are less
pub contains-below : (n q : ℕ) → set_of.contains (below n) q ≡ ltb q n
unfolding below
contains-below zero q = contains-empty nat_cmp q ∙ grind (arith, nat_tests)
contains-below (suc n) q = contains-insert nat_cmp_total (below n) n q ∙ ap (λ b. b || set_of.contains (below n) q) (unsigned_tied q n) ∙ ap (λ b. eqb q n || b) (contains-below n q) ∙ grind (arith, nat_tests)

within_words : (words : List ℕ) (q : ℕ) → (ltb q (64 * length words) && has_bit words q) ≡ has_bit words q
within_words words q = grind (arith, nat_tests, has_bit_past words q)

-- the set has the pages whose bits are set
pub contains-pages_of : (words : List ℕ) (q : ℕ) → set_of.contains (pages_of words) q ≡ has_bit words q
unfolding pages_of
contains-pages_of words q = contains-retain (below (64 * length words)) (has_bit words) q (λ x tie. ap (has_bit words) (sym (nat_cmp-IsAntisymmetric q x tie))) ∙ ap (λ b. b && has_bit words q) (contains-below _ q) ∙ within_words words q

-- words with the same bits stand for one set
pub same_pages : (old new : List ℕ) → ((q : ℕ) → has_bit new q ≡ has_bit old q) → pages_of new ≡ pages_of old
same_pages old new same = same_set nat_cmp_total nat_cmp-IsAntisymmetric _ _ (λ q. contains-pages_of new q ∙ same q ∙ sym (contains-pages_of old q))

-- one more bit is one more page
pub one_more_page : (old new : List ℕ) (page : ℕ) → ((q : ℕ) → has_bit new q ≡ (eqb q page || has_bit old q)) → pages_of new ≡ set_of.insert (pages_of old) page
one_more_page old new page is = same_set nat_cmp_total nat_cmp-IsAntisymmetric _ _ (λ q.
    contains-pages_of new q ∙ is q ∙ sym (contains-insert nat_cmp_total (pages_of old) page q ∙ ap (λ b. b || set_of.contains (pages_of old) q) (unsigned_tied q page) ∙ ap (λ b. eqb q page || b) (contains-pages_of old q)))

pub none_is_empty : (s : set_of.FinSet nat_cmp) → ((q : ℕ) → set_of.contains s q ≡ false) → set_of.len s ≡ 0
none_is_empty s none = ap set_of.len (same_set nat_cmp_total nat_cmp-IsAntisymmetric s set_of.empty (λ q. none q ∙ sym (contains-empty nat_cmp q))) ∙ len-empty nat_cmp

pub below_rest : (n : ℕ) (s : set_of.FinSet nat_cmp) → ((q : ℕ) → set_of.contains s q ≡ true → q < suc n) → (q : ℕ) → set_of.contains (set_of.remove s n) q ≡ true → q < n
below_rest n s below_n q there =
    let is : (not (eqb q n) && set_of.contains s q) ≡ true = sym (contains-remove nat_cmp_total s n q ∙ ap (λ b. not b && set_of.contains s q) (unsigned_tied q n)) ∙ there in
    let parts = and_parts (not (eqb q n)) (set_of.contains s q) is in
    let lt = below_n q parts.1 in
    let apart : q ≢ n = λ e. true≢false (sym parts.0 ∙ ap not (eq-eqb q n e)) in
    omega arith

-- a set of numbers below n has at most n of them
pub few_below : (n : ℕ) (s : set_of.FinSet nat_cmp) → ((q : ℕ) → set_of.contains s q ≡ true → q < n) → set_of.len s ≤ n
few_below zero s below_n = omega (arith, none_is_empty s (λ q. false_from_ne_true _ (λ there. let lt = below_n q there in omega arith)))
few_below (suc n) s below_n =
    let rest = few_below n (set_of.remove s n) (below_rest n s below_n) in
    grind (arith, len-remove nat_cmp_total s n)

-- no words, no pages
pub no_pages : pages_of [] ≡ set_of.empty
no_pages = same_set nat_cmp_total nat_cmp-IsAntisymmetric _ _ (λ q. contains-pages_of [] q ∙ has_bit_past [] q (omega arith) ∙ sym (contains-empty nat_cmp q))

-- a page of the set has a place in the words
pub in_words : (words : List ℕ) (q : ℕ) → set_of.contains (pages_of words) q ≡ true → q < 64 * length words
in_words words q there = elim (cases_lt q (64 * length words)) [ inl lt ↦ lt | inr ge ↦ absurd (true≢false (sym there ∙ contains-pages_of words q ∙ has_bit_past words q ge)) ]

-- 256 words stand for at most 16,384 pages
pub few_pages : (words : List ℕ) → length words ≤ 256 → set_of.len (pages_of words) ≤ 16384
few_pages words short = omega (arith, few_below (64 * length words) (pages_of words) (in_words words))

-- tests that answer alike have the same next number
pub next_same : (f g : ℕ → Bool) (start : ℕ) (next : Option ℕ) → ((q : ℕ) → g q ≡ f q) → IsNext f start next → IsNext g start next
next_same f g start None same none = λ q ge. same q ∙ none q ge
next_same f g start (Some page) same found = record { reached = found.reached; there = same page ∙ found.there; least = λ q ge lt. same q ∙ found.least q ge lt }

-- one more page, counted
pub count_of_more : (old new : List ℕ) (page count : ℕ) → ((q : ℕ) → has_bit new q ≡ (eqb q page || has_bit old q)) → has_bit old page ≡ false → count ≡ set_of.len (pages_of old) → count + 1 ≡ set_of.len (pages_of new)
count_of_more old new page count is apart was =
    let more : set_of.len (pages_of new) ≡ cond (set_of.contains (pages_of old) page) (set_of.len (pages_of old)) (set_of.len (pages_of old) + 1) = ap set_of.len (one_more_page old new page is) ∙ len-insert nat_cmp_total (pages_of old) page in
    let without : set_of.contains (pages_of old) page ≡ false = contains-pages_of old page ∙ apart in
    was_more without more
  where
    was_more : set_of.contains (pages_of old) page ≡ false → set_of.len (pages_of new) ≡ cond (set_of.contains (pages_of old) page) (set_of.len (pages_of old)) (set_of.len (pages_of old) + 1) → count + 1 ≡ set_of.len (pages_of new)
    was_more without more = ap (λ (n : ℕ). n + 1) was ∙ sym (more ∙ cond-false _ _ _ without)

-- a page that is there already is not one more
pub insert_there : (words : List ℕ) (page : ℕ) → has_bit words page ≡ true → pages_of words ≡ set_of.insert (pages_of words) page
insert_there words page there = one_more_page words words page (λ q. elim (cases_eq q page) [ inl e ↦ ap (has_bit words) e ∙ there ∙ sym (here_or q page (has_bit words q) e) | inr ne ↦ sym (apart_or q page (has_bit words q) ne) ])
