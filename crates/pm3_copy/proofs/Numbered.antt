-- Pages get blocks in an index, and the addresses of a list get numbers.
use Rattle.std.proofs.Common.{◌≡◌, ◌≢◌, ◌<◌, ◌≤◌, ◌+◌, ◌*◌, ◌/◌, ◌⊎◌, inl, inr, ◌∙◌, ℕ, true, List, length, get_or, set, replicate, refl, sym, ap, subst, arith, length-set, get_or-set_same, get_or-set_other}
use Rattle.std.specs.List.{Contains}
use Rattle.std.proofs.lemmas.Bool.{cases_eq, cases_lt}
use Rattle.std.proofs.lemmas.List.{get_or_default, get_or_past, get_or-replicate, length-replicate}
use Rattle.std.proofs.lemmas.List.Elements.{Contains-get_or}
use Rattle.pm3_types.specs.Layout.{address, is_address, page_in, word_in}
use Rattle.pm3_types.specs.PassMoves.{IsRising}
use Rattle.pm3_types.proofs.Addressing.{address_of, word_in-lt}
use Rattle.pm3_copy.specs.Blocks.{block_of, slot_of, number_of, HasBlock, AreBlocks, AreOnBlocks, AreNumbered}
use Rattle.pm3_copy.proofs.Listing.{rising_distinct}

-- no page has a block
pub blocks_none : (blocks : List ℕ) → blocks ≡ replicate 16384 65535 → AreBlocks blocks 0
blocks_none blocks is = record {
  count = 0;
  whole = refl;
  long = ap (λ (xs : List ℕ). length xs) is ∙ length-replicate {A = ℕ} 16384 65535;
  within = λ p. inr (ap (λ (xs : List ℕ). block_of xs p) is ∙ none 16384 p);
  apart = λ p q low same. absurd (omega arith);
}
  where
    none : (n p : ℕ) → block_of (replicate n 65535) p ≡ 65535
    none n p =
        let long : length {A = ℕ} (replicate n 65535) ≡ n = length-replicate n 65535 in
        elim (cases_lt p n) [ inl low ↦ get_or-replicate n p 65535 65535 low | inr past ↦ get_or_past {X = ℕ} (replicate n 65535) p 65535 (omega arith) ]

-- one more page has a block, behind the others
module _ (blocks : List ℕ) (words page : ℕ) (are : AreBlocks blocks words) (low : page < 16384) (few : words ≤ 512 * page) where
  here : block_of (set blocks page (words / 512)) page ≡ are.count
  here = (let whole = are.whole in let whole_table = are.long in get_or-set_same blocks page (words / 512) 65535 (omega arith) ∙ (omega arith))

  other : (p : ℕ) → p ≢ page → block_of (set blocks page (words / 512)) p ≡ block_of blocks p
  other p apart = get_or-set_other blocks page p (words / 512) 65535 apart

  pub block_here : HasBlock (set blocks page (words / 512)) (words + 512) page
  block_here = (let whole = are.whole in let at = here in omega arith)

  pub block_kept : (p : ℕ) → HasBlock blocks words p → HasBlock (set blocks page (words / 512)) (words + 512) p
  block_kept p has = elim (cases_eq p page) [
    | inl same ↦ subst (HasBlock (set blocks page (words / 512)) (words + 512)) (sym same) block_here
    | inr apart ↦ (let at = other p apart in omega arith)
  ]

  pub blocks_more : AreBlocks (set blocks page (words / 512)) (words + 512)
  blocks_more = record {
    count = are.count + 1;
    whole = (let whole = are.whole in omega arith);
    long = length-set blocks page (words / 512) ∙ are.long;
    within = λ p. elim (cases_eq p page) [
      | inl same ↦ inl (let at = ap (block_of (set blocks page (words / 512))) same ∙ here in omega arith)
      | inr apart ↦ (let at = other p apart in elim (are.within p) [ inl within ↦ inl (omega arith) | inr none ↦ inr (at ∙ none) ])
    ];
    apart = λ p q within same. distinct p q within same (cases_eq p page) (cases_eq q page);
  }
    where
      distinct : (p q : ℕ) → block_of (set blocks page (words / 512)) p < are.count + 1
          → block_of (set blocks page (words / 512)) p ≡ block_of (set blocks page (words / 512)) q → (p ≡ page) ⊎ (p ≢ page) → (q ≡ page) ⊎ (q ≢ page) → p ≡ q
      distinct p q within same (inl first) (inl second) = first ∙ sym second
      distinct p q within same (inl first) (inr second) =
          let at = ap (block_of (set blocks page (words / 512))) first ∙ here in
          let old = other q second in
          let whole = are.whole in
          absurd (elim (are.within q) [ inl inside ↦ omega arith | inr none ↦ omega arith ])
      distinct p q within same (inr first) (inl second) =
          let at = ap (block_of (set blocks page (words / 512))) second ∙ here in
          let old = other p first in
          let whole = are.whole in
          absurd (elim (are.within p) [ inl inside ↦ omega arith | inr none ↦ omega arith ])
      distinct p q within same (inr first) (inr second) =
          let one = other p first in
          let two = other q second in
          let whole = are.whole in
          are.apart p q (elim (are.within p) [ inl inside ↦ inside | inr none ↦ absurd (omega arith) ]) (sym one ∙ same ∙ two)

module _ (base : ℕ) (blocks : List ℕ) (words : ℕ) (are : AreBlocks blocks words) where
  -- a word of a page with a block has a place
  pub slot_low : (a : ℕ) → HasBlock blocks words (page_in base a) → slot_of base blocks a < words
  slot_low a has = (let low = word_in-lt base a in let whole = are.whole in omega arith)

  -- and the page of a word with a place has a block
  pub block_low : (a : ℕ) → slot_of base blocks a < words → HasBlock blocks words (page_in base a)
  block_low a low = omega arith

  -- two addresses on such pages have two places
  pub slots_apart : (a b : ℕ) → is_address base a ≡ true → is_address base b ≡ true → HasBlock blocks words (page_in base a) → slot_of base blocks a ≡ slot_of base blocks b → a ≡ b
  slots_apart a b first second has same =
      let low = word_in-lt base a in
      let low_too = word_in-lt base b in
      let whole = are.whole in
      let block : block_of blocks (page_in base a) ≡ block_of blocks (page_in base b) = omega arith in
      let word : word_in base a ≡ word_in base b = omega arith in
      let page = are.apart (page_in base a) (page_in base b) (omega arith) block in
      sym (address_of base a first) ∙ (λ i. address base (page i) (word i)) ∙ address_of base b second

-- the first addresses of a list have been numbered
pub record AreNumberedBelow (base : ℕ) (blocks : List ℕ) (first : ℕ) (list : List ℕ) (n : ℕ) (old now : List ℕ) : Type 0 where
  pub long : length now ≡ length old
  pub done : (k : ℕ) → k < n → number_of base blocks now (get_or list k 0) ≡ first + k
  pub others : (s : ℕ) → ((k : ℕ) → k < n → slot_of base blocks (get_or list k 0) ≢ s) → get_or now s 0 ≡ get_or old s 0

pub below_none : (base : ℕ) (blocks : List ℕ) (first : ℕ) (list old : List ℕ) → AreNumberedBelow base blocks first list 0 old old
below_none base blocks first list old = record { long = refl; done = λ k low. absurd (omega arith); others = λ s apart. refl }

module _ (base : ℕ) (blocks : List ℕ) (first : ℕ) (list old : List ℕ) (words : ℕ) (same_words : length old ≡ words) (are : AreBlocks blocks words) (on : AreOnBlocks base blocks words list) (rising : IsRising list) where
  pub below_more : (n : ℕ) (now : List ℕ) → n < length list → AreNumberedBelow base blocks first list n old now → AreNumberedBelow base blocks first list (n + 1) old (set now (slot_of base blocks (get_or list n 0)) (first + n))
  below_more n now low below = record {
    long = length-set now (slot_of base blocks (get_or list n 0)) (first + n) ∙ below.long;
    done = done;
    others = λ s apart. get_or-set_other now (slot_of base blocks (get_or list n 0)) s (first + n) 0 (λ e. apart n (omega arith) (sym e)) ∙ below.others s (λ k less. apart k (omega arith));
  }
    where
      place : (k : ℕ) → k < length list → (is_address base (get_or list k 0) ≡ true) × HasBlock blocks words (page_in base (get_or list k 0))
      place k there = on (get_or list k 0) (Contains-get_or list k 0 there)

      done : (k : ℕ) → k < n + 1 → number_of base blocks (set now (slot_of base blocks (get_or list n 0)) (first + n)) (get_or list k 0) ≡ first + k
      done k less = elim (cases_eq k n) [
        | inl same ↦
            ap (λ j. get_or (set now (slot_of base blocks (get_or list n 0)) (first + n)) (slot_of base blocks (get_or list j 0)) 0) same
            ∙ get_or-set_same now (slot_of base blocks (get_or list n 0)) (first + n) 0 (let there = slot_low base blocks words are (get_or list n 0) (place n low).1 in let long = below.long in omega arith) ∙ ap (λ j. first + j) (sym same)
        | inr apart ↦
            get_or-set_other now (slot_of base blocks (get_or list n 0)) (slot_of base blocks (get_or list k 0)) (first + n) 0
            (λ e. apart (rising_distinct list k n rising (omega arith) low
            (slots_apart base blocks words are (get_or list k 0) (get_or list n 0) (place k (omega arith)).0 (place n low).0 (place k (omega arith)).1 e)))
            ∙ below.done k (omega arith)
      ]

  -- an address that is not in the list keeps its number
  pub below_others : (n : ℕ) (now : List ℕ) (a : ℕ) → n ≤ length list → AreNumberedBelow base blocks first list n old now → is_address base a ≡ true → HasBlock blocks words (page_in base a) → (Contains list a → ⊥)
      → number_of base blocks now a ≡ number_of base blocks old a
  below_others n now a end below address has never =
      below.others (slot_of base blocks a) (λ k less e. never (subst (Contains list)
      (sym (slots_apart base blocks words are a (get_or list k 0) address (on (get_or list k 0) (Contains-get_or list k 0 (omega arith))).0 has (sym e)))
      (Contains-get_or list k 0 (omega arith))))

-- the number of a member of a list that is numbered
pub numbered_at : (base : ℕ) (blocks numbers : List ℕ) (first : ℕ) (list : List ℕ) (w : ℕ) → AreNumbered base blocks numbers first list → Contains list w
    → (k : ℕ) × (k < length list) × (get_or list k 0 ≡ w) × (number_of base blocks numbers w ≡ first + k)
numbered_at base blocks numbers first list w are (k, low, is) = (let at = get_or_default list k 0 w low ∙ is in (k, low, at, ap (number_of base blocks numbers) (sym at) ∙ are k low))
