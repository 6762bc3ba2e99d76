-- A reference in a file and the same in memory.
use Rattle.std.proofs.Common.{◌≡◌, ◌≢◌, ◌<◌, ◌≤◌, ◌+◌, ◌*◌, ◌/◌, ◌%◌, ◌^◌, ◌==◌, ◌&&◌, ◌||◌, ◌∙◌, inl, inr, ℕ, Bool, true, false, cond, nat_lt, nat_le, Some, None, is_some, refl, sym, ap, arith}
use Rattle.std.proofs.lemmas.Bool.{cases_eq, cond-true, cond-false, eq-eqb, ne_eqb, eqb-true, and_parts, and_from, or_right, ltb-true, lt-ltb, leb-true, le-leb}
use Rattle.pm3_types.specs.Layout.{address, page_in, word_in, is_address}
use Rattle.pm3_types.specs.PageForm.{is_file_reference, is_memory_reference, memory_reference, file_reference}
use Rattle.pm3_types.proofs.Addressing.{page_in-address, word_in-address, is_address-address, word_in-lt, address_of}
use Rattle.pm3_page.specs.References.{from_file, to_file}

cond_Some : {A : Type 0} (b : Bool) (x y : A) → cond b (Some x) None ≡ Some y → (b ≡ true) × (y ≡ x)
cond_Some true x y e = (refl, cc)
cond_Some false x y e = absurd (cc)

-- a reference that is not nil names a word of a page, by the same numbers in both forms
pub record Names (pages page word : ℕ) : Type 0 where
  pub above : 3 ≤ page
  pub below : page < pages
  pub behind : 2 ≤ word
  pub low : word < 512

or_false : (b c : Bool) → b ≡ false → (b || c) ≡ true → c ≡ true
or_false true c no_ e = absurd (cc)
or_false false c no_ e = e

file_names : (pages r : ℕ) → r ≢ 0 → is_file_reference pages r ≡ true → Names pages (r / 2 ^ 32) (r % 2 ^ 32 / 8) × (r ≡ 2 ^ 32 * (r / 2 ^ 32) + 8 * (r % 2 ^ 32 / 8))
unfolding is_file_reference
file_names pages r some is =
    let parts = and_parts (nat_le 3 (r / 2 ^ 32) && nat_lt (r / 2 ^ 32) pages) ((nat_le 16 (r % 2 ^ 32) && nat_le (r % 2 ^ 32) 4088) && (r % 8 == 0))
    (or_false (r == 0) _ (ne_eqb r 0 some) is) in
    let page = and_parts (nat_le 3 (r / 2 ^ 32)) (nat_lt (r / 2 ^ 32) pages) parts.0 in
    let place = and_parts (nat_le 16 (r % 2 ^ 32) && nat_le (r % 2 ^ 32) 4088) (r % 8 == 0) parts.1 in
    let offset = and_parts (nat_le 16 (r % 2 ^ 32)) (nat_le (r % 2 ^ 32) 4088) place.0 in
    let least : 16 ≤ r % 2 ^ 32 = leb-true 16 (r % 2 ^ 32) offset.0 in
    let most : r % 2 ^ 32 ≤ 4088 = leb-true (r % 2 ^ 32) 4088 offset.1 in
    let whole : r % 8 ≡ 0 = eqb-true (r % 8) 0 place.1 in
    (record { above = leb-true 3 (r / 2 ^ 32) page.0; below = ltb-true (r / 2 ^ 32) pages page.1; behind = omega arith; low = omega arith }, omega arith)

names_file : (pages page word : ℕ) → Names pages page word → is_file_reference pages (2 ^ 32 * page + 8 * word) ≡ true
unfolding is_file_reference
names_file pages page word names =
    let high : (2 ^ 32 * page + 8 * word) / 2 ^ 32 ≡ page = omega (arith, names.low) in
    let rest : (2 ^ 32 * page + 8 * word) % 2 ^ 32 ≡ 8 * word = omega (arith, names.low) in
    let whole : (2 ^ 32 * page + 8 * word) % 8 ≡ 0 = omega arith in
    or_right (2 ^ 32 * page + 8 * word == 0) _
    (and_from _ _
    (and_from _ _ (le-leb 3 ((2 ^ 32 * page + 8 * word) / 2 ^ 32) (omega (arith, names.above))) (lt-ltb ((2 ^ 32 * page + 8 * word) / 2 ^ 32) pages (omega (arith, names.below))))
    (and_from _ _
    (and_from _ _ (le-leb 16 ((2 ^ 32 * page + 8 * word) % 2 ^ 32) (omega (arith, names.behind))) (le-leb ((2 ^ 32 * page + 8 * word) % 2 ^ 32) 4088 (omega (arith, names.low))))
    (eq-eqb ((2 ^ 32 * page + 8 * word) % 8) 0 whole)))

memory_names : (base pages a : ℕ) → a ≢ 0 → is_memory_reference base pages a ≡ true → Names pages (page_in base a) (word_in base a) × (a ≡ address base (page_in base a) (word_in base a))
unfolding is_memory_reference
memory_names base pages a some is =
    let parts = and_parts (is_address base a) ((nat_le 3 (page_in base a) && nat_lt (page_in base a) pages) && nat_le 2 (word_in base a)) (or_false (a == 0) _ (ne_eqb a 0 some) is) in
    let place = and_parts (nat_le 3 (page_in base a) && nat_lt (page_in base a) pages) (nat_le 2 (word_in base a)) parts.1 in
    let page = and_parts (nat_le 3 (page_in base a)) (nat_lt (page_in base a) pages) place.0 in (
      record {
        above = leb-true 3 (page_in base a) page.0;
        below = ltb-true (page_in base a) pages page.1;
        behind = leb-true 2 (word_in base a) place.1;
        low = word_in-lt base a;
      },
      sym (address_of base a parts.0),
    )

names_memory : (base pages page word : ℕ) → Names pages page word → is_memory_reference base pages (address base page word) ≡ true
unfolding is_memory_reference
names_memory base pages page word names =
    let number = page_in-address base page word names.low in
    let place = word_in-address base page word names.low in
    or_right (address base page word == 0) _
    (and_from _ _ (is_address-address base page word)
    (and_from _ _
    (and_from _ _ (le-leb 3 (page_in base (address base page word)) (omega (arith, number, names.above)))
    (lt-ltb (page_in base (address base page word)) pages (omega (arith, number, names.below))))
    (le-leb 2 (word_in base (address base page word)) (omega (arith, place, names.behind)))))

memory_of : (base pages r : ℕ) → r ≢ 0 → is_file_reference pages r ≡ true → memory_reference base r ≡ address base (r / 2 ^ 32) (r % 2 ^ 32 / 8)
unfolding memory_reference
memory_of base pages r some is = let names = file_names pages r some is in cond-false (r == 0) _ _ (ne_eqb r 0 some) ∙ omega (arith, names.1)

file_of : (base page word : ℕ) → 3 ≤ page → word < 512 → file_reference base (address base page word) ≡ 2 ^ 32 * page + 8 * word
unfolding file_reference
file_of base page word above low =
    cond-false (address base page word == 0) _ _ (ne_eqb (address base page word) 0 (λ e. omega arith))
    ∙ omega (arith, page_in-address base page word low, word_in-address base page word low)

-- from a file into memory and back
pub from_then_to : (base pages r a : ℕ) → from_file base pages r ≡ Some a → to_file base pages a ≡ Some r
unfolding is_memory_reference memory_reference file_reference
from_then_to base pages r a e = elim (cases_eq r 0) [ inl none ↦ nil none | inr some ↦ other some ]
  where
    got : (is_file_reference pages r ≡ true) × (a ≡ memory_reference base r)
    got = cond_Some _ _ a e

    nil : r ≡ 0 → to_file base pages a ≡ Some r
    nil none =
        let zero : a ≡ 0 = got.1 ∙ ap (memory_reference base) none in
        ap (to_file base pages) zero ∙ ap Some (sym none)

    other : r ≢ 0 → to_file base pages a ≡ Some r
    other some =
        let names = file_names pages r some got.0 in
        let there : a ≡ address base (r / 2 ^ 32) (r % 2 ^ 32 / 8) = got.1 ∙ memory_of base pages r some got.0 in
        ap (to_file base pages) there
        ∙ cond-true _ _ None (names_memory base pages (r / 2 ^ 32) (r % 2 ^ 32 / 8) names.0)
        ∙ ap Some (file_of base (r / 2 ^ 32) (r % 2 ^ 32 / 8) names.0.above names.0.low ∙ sym names.1)

-- from memory into a file and back
pub to_then_from : (base pages a r : ℕ) → to_file base pages a ≡ Some r → from_file base pages r ≡ Some a
unfolding is_file_reference memory_reference file_reference
to_then_from base pages a r e = elim (cases_eq a 0) [ inl none ↦ nil none | inr some ↦ other some ]
  where
    got : (is_memory_reference base pages a ≡ true) × (r ≡ file_reference base a)
    got = cond_Some _ _ r e

    nil : a ≡ 0 → from_file base pages r ≡ Some a
    nil none =
        let zero : r ≡ 0 = got.1 ∙ ap (file_reference base) none in
        ap (from_file base pages) zero ∙ ap Some (sym none)

    other : a ≢ 0 → from_file base pages r ≡ Some a
    other some =
        let names = memory_names base pages a some got.0 in
        let made : r ≡ 2 ^ 32 * page_in base a + 8 * word_in base a = got.1 ∙ ap (file_reference base) names.1 ∙ file_of base (page_in base a) (word_in base a) names.0.above names.0.low in
        let sound : is_file_reference pages r ≡ true = ap (is_file_reference pages) made ∙ names_file pages (page_in base a) (word_in base a) names.0 in
        let nonzero : r ≢ 0 = λ z. (let above = names.0.above in omega arith) in
        let high : r / 2 ^ 32 ≡ page_in base a = omega (arith, made, names.0.low) in
        let rest : r % 2 ^ 32 / 8 ≡ word_in base a = omega (arith, made, names.0.low) in
        cond-true _ _ None sound ∙ ap Some (memory_of base pages r nonzero sound ∙ omega (arith, high, rest, names.1))

-- a store with more pages has the same references
pub to_wider : (base pages more a r : ℕ) → pages ≤ more → to_file base pages a ≡ Some r → to_file base more a ≡ Some r
unfolding is_memory_reference
to_wider base pages more a r wide e = elim (cases_eq a 0) [ inl none ↦ nil none | inr some ↦ other some ]
  where
    got : (is_memory_reference base pages a ≡ true) × (r ≡ file_reference base a)
    got = cond_Some _ _ r e

    nil : a ≡ 0 → to_file base more a ≡ Some r
    nil none = cond-true (is_memory_reference base more a) _ None (ap (is_memory_reference base more) none) ∙ ap Some (sym got.1)

    other : a ≢ 0 → to_file base more a ≡ Some r
    other some =
        let names = memory_names base pages a some got.0 in
        let wider : Names more (page_in base a) (word_in base a) = record { above = names.0.above; below = omega (arith, names.0.below); behind = names.0.behind; low = names.0.low } in
        cond-true (is_memory_reference base more a) _ None
        (ap (is_memory_reference base more) names.1 ∙ names_memory base more (page_in base a) (word_in base a) wider)
        ∙ ap Some (sym got.1)

-- whether there is a reference in the other form
pub is_some-from_file : (base pages r : ℕ) → is_some (from_file base pages r) ≡ is_file_reference pages r
is_some-from_file base pages r = whether (is_file_reference pages r) (memory_reference base r)
  where
    whether : (b : Bool) (x : ℕ) → is_some (cond b (Some x) None) ≡ b
    whether true x = refl
    whether false x = refl

pub is_some-to_file : (base pages a : ℕ) → is_some (to_file base pages a) ≡ is_memory_reference base pages a
is_some-to_file base pages a = whether (is_memory_reference base pages a) (file_reference base a)
  where
    whether : (b : Bool) (x : ℕ) → is_some (cond b (Some x) None) ≡ b
    whether true x = refl
    whether false x = refl
