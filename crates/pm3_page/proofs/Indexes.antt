-- The tables that lead from a page to the index of its image and back, as images come and go.
use Rattle.std.proofs.Common.{◌≡◌, ℕ, zero, suc, ◌+◌, ◌-◌, ◌*◌, ◌<◌, ◌≤◌, ◌≢◌, ◌⊎◌, true, eqb, ltb, not, cond, ◌&&◌, ◌||◌, List, [], ◌∷◌, ◌++◌, length, get_or, set, replicate, refl, sym, ap, ◌∙◌, arith, inl, inr, length-append, length-set, get_or-set_same, get_or-set_other}
use Rattle.std.proofs.lemmas.Bool.{cases_eq, cases_lt, eq-eqb, ne_eqb, lt-ltb, le-ltb, cond-true, cond-false}
use Rattle.std.proofs.lemmas.List.{get_or_past, get_or_append_left, get_or_push}
use mathlib.Core.Bool.{true≢false}
use Rattle.std.specs.Ordering.{nat_cmp}
use Rattle.std.specs.Cmp.{nat_cmp_total, unsigned_tied}
use Rattle.std.specs.FinSet as set_of
use Rattle.std.specs.FinSet.{nat_cmp-IsAntisymmetric, same_set, contains-remove, len-remove}
use Rattle.pm3_page.specs.Bits.{has_bit, pages_of}
use Rattle.pm3_page.specs.PageMap.{slot_of}
use Rattle.pm3_page.specs.PageIndex.{IsIndex}
use Rattle.pm3_page.proofs.Bitmaps.{has_bit_past, contains-pages_of, same_pages, few_pages, no_pages, count_of_more}

-- there are at most 16,384 images
pub few_homes : (slots homes words : List ℕ) → IsIndex slots homes words → length homes ≤ 16384
few_homes slots homes words index = omega (arith, index.count, few_pages words index.short)

-- a page with an image stands in both tables
pub page_in_slots : (slots : List ℕ) (page : ℕ) → slot_of slots page < 65535 → page < length slots
page_in_slots slots page small = elim (cases_lt page (length slots)) [ inl lt ↦ lt | inr past ↦ absurd (omega (arith, get_or_past slots page 65535 past)) ]

pub page_in_words : (slots homes words : List ℕ) (page : ℕ) → IsIndex slots homes words → slot_of slots page < length homes → page < 64 * length words
page_in_words slots homes words page index there =
    elim (cases_lt page (64 * length words)) [ inl lt ↦ lt | inr past ↦ absurd (true≢false (sym (index.marked page ∙ lt-ltb _ _ there) ∙ has_bit_past words page past)) ]

-- slots behind the last that are absent change nothing
pub slot_of-filled : (slots : List ℕ) (n page : ℕ) → slot_of (slots ++ replicate n 65535) page ≡ slot_of slots page
slot_of-filled [] n page = absent_slot n page
  where
    absent_slot : (n i : ℕ) → ◌≡◌ {A = ℕ} (get_or (replicate n 65535) i 65535) 65535
    absent_slot zero i = refl
    absent_slot (suc n) zero = refl
    absent_slot (suc n) (suc i) = absent_slot n i
slot_of-filled (slot ∷ slots) n zero = refl
slot_of-filled (slot ∷ slots) n (suc page) = slot_of-filled slots n page

-- no images
pub index_none : IsIndex [] [] []
index_none = record {
  home = λ i lt. absurd (omega arith);
  own = λ page lt. absurd (omega arith);
  within = λ page. inr refl;
  marked = λ page. has_bit_past [] page (omega arith);
  count = sym (ap set_of.len no_pages ∙ set_of.len-empty nat_cmp);
  long = omega arith;
  short = omega arith;
}

-- tables that say the same
pub index_same : (slots homes words slots' words' : List ℕ) → IsIndex slots homes words
    → ((page : ℕ) → slot_of slots' page ≡ slot_of slots page) → ((page : ℕ) → has_bit words' page ≡ has_bit words page)
    → length slots' ≤ 16384 → length words' ≤ 256 → IsIndex slots' homes words'
index_same slots homes words slots' words' index slots_same words_same long' short' = record {
  home = λ i lt. slots_same (get_or homes i 0) ∙ index.home i lt;
  own = λ page lt. ap (λ (slot : ℕ). get_or homes slot 0) (slots_same page) ∙ index.own page (rw (slots_same page) at lt);
  within = λ page. rw (slots_same page) (index.within page);
  marked = λ page. words_same page ∙ index.marked page ∙ ap (λ (slot : ℕ). ltb slot (length homes)) (sym (slots_same page));
  count = index.count ∙ ap set_of.len (sym (same_pages words words' words_same));
  long = long';
  short = short';
}

-- the slots after one was written
pub slots_set : (slots : List ℕ) (page slot q : ℕ) → page < length slots → slot_of (set slots page slot) q ≡ cond (eqb q page) slot (slot_of slots q)
slots_set slots page slot q fits = elim (cases_eq q page) [
  | inl same ↦ ap (slot_of (set slots page slot)) same ∙ get_or-set_same slots page slot 65535 fits ∙ sym (cond-true (eqb q page) slot (slot_of slots q) (eq-eqb q page same))
  | inr apart ↦ get_or-set_other slots page q slot 65535 apart ∙ sym (cond-false (eqb q page) slot (slot_of slots q) (ne_eqb q page apart))
]

-- one more image, behind the others
module _ (slots homes words slots' words' : List ℕ) (page : ℕ) (index : IsIndex slots homes words) (absent : length homes ≤ slot_of slots page)
    (is : (q : ℕ) → slot_of slots' q ≡ cond (eqb q page) (length homes) (slot_of slots q)) (bits : (q : ℕ) → has_bit words' q ≡ (eqb q page || has_bit words q)) where
  put_here : (q : ℕ) → q ≡ page → slot_of slots' q ≡ length homes
  put_here q same = is q ∙ cond-true (eqb q page) _ _ (eq-eqb q page same)

  put_apart : (q : ℕ) → q ≢ page → slot_of slots' q ≡ slot_of slots q
  put_apart q apart = is q ∙ cond-false (eqb q page) _ _ (ne_eqb q page apart)

  put_home : (i : ℕ) → i < length homes + 1 → slot_of slots' (get_or (homes ++ page ∷ []) i 0) ≡ i
  put_home i lt = elim (cases_eq i (length homes)) [
    | inl last ↦ put_here _ (get_or_push homes page 0 i (sym last)) ∙ sym last
    | inr before ↦
        let below : i < length homes = omega arith in
        let held : get_or (homes ++ page ∷ []) i 0 ≡ get_or homes i 0 = get_or_append_left homes (page ∷ []) 0 i below in
        let back = index.home i below in
        let apart : get_or homes i 0 ≢ page = λ e. let both : i ≡ slot_of slots page = sym back ∙ ap (slot_of slots) e in omega arith in
        ap (slot_of slots') held ∙ put_apart _ apart ∙ back
  ]

  put_own : (q : ℕ) → slot_of slots' q < length homes + 1 → get_or (homes ++ page ∷ []) (slot_of slots' q) 0 ≡ q
  put_own q lt = elim (cases_eq q page) [
    | inl same ↦ get_or_push homes page 0 (slot_of slots' q) (sym (put_here q same)) ∙ sym same
    | inr apart ↦
        let as_before = put_apart q apart in
        let few = few_homes slots homes words index in
        let below : slot_of slots q < length homes = elim (index.within q) [ inl lt ↦ lt | inr none ↦ absurd (omega arith) ] in
        ap (λ (slot : ℕ). get_or (homes ++ page ∷ []) slot 0) as_before ∙ get_or_append_left homes (page ∷ []) 0 (slot_of slots q) below ∙ index.own q below
  ]

  put_within : (q : ℕ) → (slot_of slots' q < length homes + 1) ⊎ (slot_of slots' q ≡ 65535)
  put_within q = elim (cases_eq q page) [
    | inl same ↦ let here = put_here q same in inl (omega arith)
    | inr apart ↦ let as_before = put_apart q apart in elim (index.within q) [ inl lt ↦ inl (omega arith) | inr none ↦ inr (as_before ∙ none) ]
  ]

  put_marked : (q : ℕ) → has_bit words' q ≡ ltb (slot_of slots' q) (length homes + 1)
  put_marked q = elim (cases_eq q page) [
    | inl same ↦ bits q ∙ ap (λ b. b || has_bit words q) (eq-eqb q page same) ∙ sym (lt-ltb _ _ (let here = put_here q same in omega arith))
    | inr apart ↦ bits q ∙ ap (λ b. b || has_bit words q) (ne_eqb q page apart) ∙ index.marked q ∙
        (let as_before = put_apart q apart in let few = few_homes slots homes words index in elim (index.within q) [
          | inl lt ↦ lt-ltb _ _ lt ∙ sym (lt-ltb _ _ (omega arith))
          | inr none ↦ le-ltb _ _ (omega arith) ∙ sym (le-ltb _ _ (omega arith))
        ])
  ]

  pub index_put : length slots' ≤ 16384 → length words' ≤ 256 → IsIndex slots' (homes ++ page ∷ []) words'
  index_put long short = record {
    home = λ i lt. put_home i (omega (arith, length-append homes (page ∷ [])));
    own = λ q lt. put_own q (omega (arith, length-append homes (page ∷ [])));
    within = λ q. rw (length-append homes (page ∷ [])) (put_within q);
    marked = λ q. put_marked q ∙ ap (ltb (slot_of slots' q)) (sym (length-append homes (page ∷ [])));
    count = length-append homes (page ∷ []) ∙ count_of_more words words' page (length homes) bits (index.marked page ∙ le-ltb _ _ absent) index.count;
    long = long;
    short = short;
  }

one_less_page : (old new : List ℕ) (page : ℕ) → ((q : ℕ) → has_bit new q ≡ (not (eqb q page) && has_bit old q)) → pages_of new ≡ set_of.remove (pages_of old) page
one_less_page old new page is = same_set nat_cmp_total nat_cmp-IsAntisymmetric _ _ (λ q.
    contains-pages_of new q ∙ is q ∙ sym (contains-remove nat_cmp_total (pages_of old) page q ∙ ap (λ b. not b && set_of.contains (pages_of old) q) (unsigned_tied q page) ∙ ap (λ b. not (eqb q page) && b) (contains-pages_of old q)))

-- one image less, whose place the last takes
module _ (slots homes words slots' homes' words' : List ℕ) (page slot : ℕ) (index : IsIndex slots homes words) (at : slot ≡ slot_of slots page) (there : slot < length homes)
    (one_less : length homes' + 1 ≡ length homes)
    (last_moved : slot + 1 < length homes → get_or homes' slot 0 ≡ get_or homes (length homes - 1) 0)
    (others : (k : ℕ) → k ≢ slot → k + 1 < length homes → get_or homes' k 0 ≡ get_or homes k 0)
    (is : (q : ℕ) → slot_of slots' q ≡ cond (eqb q page) 65535 (cond (eqb (slot_of slots q) (length homes - 1)) slot (slot_of slots q)))
    (bits : (q : ℕ) → has_bit words' q ≡ (not (eqb q page) && has_bit words q)) where
  take_here : (q : ℕ) → q ≡ page → slot_of slots' q ≡ 65535
  take_here q same = is q ∙ cond-true (eqb q page) _ _ (eq-eqb q page same)

  take_last : (q : ℕ) → q ≢ page → slot_of slots q ≡ length homes - 1 → slot_of slots' q ≡ slot
  take_last q apart at_last = is q ∙ cond-false (eqb q page) _ _ (ne_eqb q page apart) ∙ cond-true (eqb (slot_of slots q) (length homes - 1)) _ _ (eq-eqb _ _ at_last)

  take_apart : (q : ℕ) → q ≢ page → slot_of slots q ≢ length homes - 1 → slot_of slots' q ≡ slot_of slots q
  take_apart q apart before = is q ∙ cond-false (eqb q page) _ _ (ne_eqb q page apart) ∙ cond-false (eqb (slot_of slots q) (length homes - 1)) _ _ (ne_eqb _ _ before)

  -- no other page has this slot
  alone : (q : ℕ) → slot_of slots q ≡ slot → q ≡ page
  alone q same =
      sym (index.own q (omega arith)) ∙ ap (λ (i : ℕ). get_or homes i 0) (same ∙ at) ∙ index.own page (omega arith)

  take_home : (i : ℕ) → i < length homes' → slot_of slots' (get_or homes' i 0) ≡ i
  take_home i lt = elim (cases_eq i slot) [
    | inl same ↦
        let more : slot + 1 < length homes = omega arith in
        let held : get_or homes' i 0 ≡ get_or homes (length homes - 1) 0 = ap (λ (k : ℕ). get_or homes' k 0) same ∙ last_moved more in
        let back : slot_of slots (get_or homes (length homes - 1) 0) ≡ length homes - 1 = index.home (length homes - 1) (omega arith) in
        let apart : get_or homes (length homes - 1) 0 ≢ page = λ e. let both : length homes - 1 ≡ slot = sym back ∙ ap (slot_of slots) e ∙ sym at in omega arith in
        ap (slot_of slots') held ∙ take_last _ apart back ∙ sym same
    | inr ne ↦
        let held : get_or homes' i 0 ≡ get_or homes i 0 = others i ne (omega arith) in
        let back : slot_of slots (get_or homes i 0) ≡ i = index.home i (omega arith) in
        let apart : get_or homes i 0 ≢ page = λ e. ne (sym back ∙ ap (slot_of slots) e ∙ sym at) in
        let before : slot_of slots (get_or homes i 0) ≢ length homes - 1 = λ e. let both : i ≡ length homes - 1 = sym back ∙ e in omega arith in
        ap (slot_of slots') held ∙ take_apart _ apart before ∙ back
  ]

  take_own : (q : ℕ) → slot_of slots' q < length homes' → get_or homes' (slot_of slots' q) 0 ≡ q
  take_own q lt = let few = few_homes slots homes words index in elim (cases_eq q page) [
    | inl same ↦ let none = take_here q same in absurd (omega arith)
    | inr apart ↦ elim (cases_eq (slot_of slots q) (length homes - 1)) [
      | inl at_last ↦
          let now = take_last q apart at_last in
          let moved : get_or homes' slot 0 ≡ get_or homes (length homes - 1) 0 = last_moved (omega arith) in
          ap (λ (k : ℕ). get_or homes' k 0) now ∙ moved ∙ ap (λ (k : ℕ). get_or homes k 0) (sym at_last) ∙ index.own q (omega arith)
      | inr before ↦
          let now = take_apart q apart before in
          let other : slot_of slots q ≢ slot = λ e. apart (alone q e) in
          ap (λ (k : ℕ). get_or homes' k 0) now ∙ others (slot_of slots q) other (omega arith) ∙ index.own q (omega arith)
    ]
  ]

  take_within : (q : ℕ) → (slot_of slots' q < length homes') ⊎ (slot_of slots' q ≡ 65535)
  take_within q = elim (cases_eq q page) [
    | inl same ↦ inr (take_here q same)
    | inr apart ↦ elim (cases_eq (slot_of slots q) (length homes - 1)) [
      | inl at_last ↦
          let now = take_last q apart at_last in
          let other : slot_of slots q ≢ slot = λ e. apart (alone q e) in
          inl (omega arith)
      | inr before ↦ let now = take_apart q apart before in elim (index.within q) [ inl lt ↦ inl (omega arith) | inr none ↦ inr (now ∙ none) ]
    ]
  ]

  take_marked : (q : ℕ) → has_bit words' q ≡ ltb (slot_of slots' q) (length homes')
  take_marked q = let few = few_homes slots homes words index in elim (cases_eq q page) [
    | inl same ↦ let none = take_here q same in bits q ∙ ap (λ b. not b && has_bit words q) (eq-eqb q page same) ∙ sym (le-ltb _ _ (omega arith))
    | inr apart ↦ bits q ∙ ap (λ b. not b && has_bit words q) (ne_eqb q page apart) ∙ index.marked q ∙ elim (cases_eq (slot_of slots q) (length homes - 1)) [
      | inl at_last ↦
          let now = take_last q apart at_last in
          let other : slot_of slots q ≢ slot = λ e. apart (alone q e) in
          lt-ltb _ _ (omega arith) ∙ sym (lt-ltb _ _ (omega arith))
      | inr before ↦ let now = take_apart q apart before in elim (index.within q) [
        | inl lt ↦ lt-ltb _ _ lt ∙ sym (lt-ltb _ _ (omega arith))
        | inr none ↦ le-ltb _ _ (omega arith) ∙ sym (le-ltb _ _ (omega arith))
      ]
    ]
  ]

  take_count : length homes' ≡ set_of.len (pages_of words')
  take_count =
      let less : set_of.len (pages_of words') ≡ cond (set_of.contains (pages_of words) page) (set_of.len (pages_of words) - 1) (set_of.len (pages_of words)) = ap set_of.len (one_less_page words words' page bits) ∙ len-remove nat_cmp_total (pages_of words) page in
      let had : set_of.contains (pages_of words) page ≡ true = contains-pages_of words page ∙ index.marked page ∙ lt-ltb _ _ (omega arith) in
      let now : set_of.len (pages_of words') ≡ set_of.len (pages_of words) - 1 = less ∙ cond-true _ _ _ had in
      omega (arith, index.count)

  pub index_take : length slots' ≤ 16384 → length words' ≤ 256 → IsIndex slots' homes' words'
  index_take long short = record { home = take_home; own = take_own; within = take_within; marked = take_marked; count = take_count; long = long; short = short }

-- the slots after the page's was cleared and the page of the last, if it's another, got it
pub slots_taken : (slots homes words : List ℕ) (page slot q : ℕ) → IsIndex slots homes words → slot ≡ slot_of slots page → slot + 1 ≡ length homes
    → slot_of (set slots page 65535) q ≡ cond (eqb q page) 65535 (cond (eqb (slot_of slots q) (length homes - 1)) slot (slot_of slots q))
slots_taken slots homes words page slot q index at is_last =
    slots_set slots page 65535 q fits ∙ elim (cases_eq q page) [
      | inl same ↦ cond-true (eqb q page) _ _ (eq-eqb q page same) ∙ sym (cond-true (eqb q page) _ _ (eq-eqb q page same))
      | inr apart ↦ cond-false (eqb q page) _ _ (ne_eqb q page apart) ∙ elim (cases_eq (slot_of slots q) (length homes - 1)) [
        | inl at_last ↦ let here : slot_of slots q ≡ slot = omega arith in here ∙ sym (cond-true (eqb (slot_of slots q) (length homes - 1)) _ _ (eq-eqb _ _ at_last))
        | inr before ↦ sym (cond-false (eqb (slot_of slots q) (length homes - 1)) _ _ (ne_eqb _ _ before))
      ] ∙ sym (cond-false (eqb q page) _ _ (ne_eqb q page apart))
    ]
  where
    fits : page < length slots
    fits = page_in_slots slots page (omega (arith, few_homes slots homes words index))

pub slots_moved : (slots homes words : List ℕ) (page slot moved q : ℕ) → IsIndex slots homes words → slot ≡ slot_of slots page → slot + 1 < length homes → moved ≡ get_or homes (length homes - 1) 0
    → slot_of (set (set slots page 65535) moved slot) q ≡ cond (eqb q page) 65535 (cond (eqb (slot_of slots q) (length homes - 1)) slot (slot_of slots q))
slots_moved slots homes words page slot moved q index at is_before is_moved =
    slots_set (set slots page 65535) moved slot q moved_fits ∙ elim (cases_eq q page) [
      | inl same ↦
          let other : q ≢ moved = λ e. let both : slot ≡ length homes - 1 = at ∙ ap (slot_of slots) (sym same ∙ e) ∙ back in omega arith in
          cond-false (eqb q moved) _ _ (ne_eqb q moved other) ∙ slots_set slots page 65535 q fits ∙ cond-true (eqb q page) _ _ (eq-eqb q page same) ∙ sym (cond-true (eqb q page) _ _ (eq-eqb q page same))
      | inr apart ↦ elim (cases_eq q moved) [
        | inl is_last ↦
            let at_last : slot_of slots q ≡ length homes - 1 = ap (slot_of slots) is_last ∙ back in
            cond-true (eqb q moved) _ _ (eq-eqb q moved is_last) ∙ sym (cond-true (eqb (slot_of slots q) (length homes - 1)) _ _ (eq-eqb _ _ at_last))
        | inr other ↦
            let before : slot_of slots q ≢ length homes - 1 = λ e. other (sym (index.own q (omega arith)) ∙ ap (λ (i : ℕ). get_or homes i 0) e ∙ sym is_moved) in
            cond-false (eqb q moved) _ _ (ne_eqb q moved other) ∙ slots_set slots page 65535 q fits ∙ cond-false (eqb q page) _ _ (ne_eqb q page apart)
            ∙ sym (cond-false (eqb (slot_of slots q) (length homes - 1)) _ _ (ne_eqb _ _ before))
      ] ∙ sym (cond-false (eqb q page) _ _ (ne_eqb q page apart))
    ]
  where
    back : slot_of slots moved ≡ length homes - 1
    back = ap (slot_of slots) is_moved ∙ index.home (length homes - 1) (omega arith)

    fits : page < length slots
    fits = page_in_slots slots page (omega (arith, few_homes slots homes words index))

    moved_fits : moved < length (set slots page 65535)
    moved_fits = rw (length-set slots page 65535) (page_in_slots slots moved (omega (arith, back, few_homes slots homes words index)))
