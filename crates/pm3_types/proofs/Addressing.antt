-- Addresses, and the pages and words that they name.
use Rattle.std.proofs.Common.{◌≡◌, ℕ, ◌-◌, ◌%◌, ◌<◌, ◌≤◌, ◌==◌, true, nat_le, arith}
use Rattle.std.proofs.lemmas.Bool.{and_parts, and_from, leb-true, le-leb, eqb-true, eq-eqb}
use Rattle.pm3_types.specs.Layout.{address, page_in, word_in, is_address}

pub word_in-lt : (base a : ℕ) → word_in base a < 512
unfolding word_in
word_in-lt base a = omega arith

pub page_in-address : (base page word : ℕ) → word < 512 → page_in base (address base page word) ≡ page
unfolding page_in
page_in-address base page word low = omega arith

pub word_in-address : (base page word : ℕ) → word < 512 → word_in base (address base page word) ≡ word
unfolding word_in
word_in-address base page word low = omega arith

pub is_address-address : (base page word : ℕ) → is_address base (address base page word) ≡ true
unfolding is_address
is_address-address base page word =
    and_from (nat_le base (address base page word)) ((address base page word - base) % 8 == 0)
    (le-leb base (address base page word) (omega arith)) (eq-eqb ((address base page word - base) % 8) 0 (omega arith))

pub above_base : (base a : ℕ) → is_address base a ≡ true → base ≤ a
unfolding is_address
above_base base a is = leb-true base a (and_parts (nat_le base a) ((a - base) % 8 == 0) is).0

-- an address is that of its word on its page
pub address_of : (base a : ℕ) → is_address base a ≡ true → address base (page_in base a) (word_in base a) ≡ a
unfolding is_address page_in word_in
address_of base a is =
    let parts = and_parts (nat_le base a) ((a - base) % 8 == 0) is in
    let above : base ≤ a = leb-true base a parts.0 in
    let whole : (a - base) % 8 ≡ 0 = eqb-true ((a - base) % 8) 0 parts.1 in
    omega arith
