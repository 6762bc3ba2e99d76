-- The next object, from the next word at which an object begins.
use Rattle.std.proofs.Common.{◌≡◌, ℕ, ◌+◌, ◌-◌, ◌*◌, ◌/◌, ◌<◌, ◌≤◌, ◌==◌, ◌&&◌, inl, inr, true, false, min, Some, None, arith, ap, ◌∙◌}
use Rattle.std.proofs.lemmas.Bool.{and_parts, and_from, and_left, and_right, cases_Bool, eqb-true, eq-eqb}
use Rattle.pm3_types.specs.Layout.{PageImage, address, page_in, word_in, is_address, is_start, begins_at, IsNextObject}
use Rattle.pm3_types.proofs.Addressing.{address_of, word_in-lt, page_in-address, word_in-address, is_address-address}
use Rattle.pm3_page.specs.StartBits.{IsFirstFrom}

-- how many words of the page begin at or before an address
abbrev pub words_to : ℕ → ℕ → ℕ → ℕ
words_to base page a = min 512 ((a + 8 - (base + 4096 * page)) / 8)

-- a word that no object begins at from these on, as an address
not_at : (base : ℕ) (image : PageImage) (from a until : ℕ) → from ≡ words_to base image.page a
    → ((i : ℕ) → from ≤ i → i < 512 → address base image.page i < until → is_start image.sheet i ≡ false)
    → (b : ℕ) → a < b → b < until → begins_at base image b ≡ false
not_at base image from a until is passed b above below =
    elim (cases_Bool (is_address base b && (page_in base b == image.page))) [ inl here ↦ on_page here | inr apart ↦ and_left _ _ apart ]
  where
    on_page : (is_address base b && (page_in base b == image.page)) ≡ true → begins_at base image b ≡ false
    on_page here =
        let parts = and_parts (is_address base b) (page_in base b == image.page) here in
        let low : word_in base b < 512 = word_in-lt base b in
        let page : page_in base b ≡ image.page = eqb-true (page_in base b) image.page parts.1 in
        let there : address base image.page (word_in base b) ≡ b = omega (arith, address_of base b parts.0, page) in
        let after : from ≤ word_in base b = omega (arith, is) in
        and_right (is_address base b && (page_in base b == image.page)) _ (passed (word_in base b) after low (omega arith))

pub next_by_start : (base : ℕ) (image : PageImage) (from a w : ℕ) → from ≡ words_to base image.page a
    → IsFirstFrom image.sheet.starts from (Some w) → IsNextObject base image a (Some (address base image.page w))
next_by_start base image from a w is found = (after, begins, between)
  where
    low : w < 512
    low = found.1

    after : a < address base image.page w
    after = omega (arith, found.0, is)

    begins : begins_at base image (address base image.page w) ≡ true
    begins =
        and_from _ _ (and_from _ _ (is_address-address base image.page w) (eq-eqb _ image.page (page_in-address base image.page w low)))
        (ap (λ (i : ℕ). is_start image.sheet i) (word_in-address base image.page w low) ∙ found.2)

    between : (m : ℕ) → a < m → m < address base image.page w → begins_at base image m ≡ false
    between = not_at base image from a (address base image.page w) is (λ i above low under. found.3 i above (omega arith))

pub none_by_starts : (base : ℕ) (image : PageImage) (from a : ℕ) → from ≡ words_to base image.page a
    → IsFirstFrom image.sheet.starts from None → IsNextObject base image a None
none_by_starts base image from a is none b above = not_at base image from a (b + 1) is (λ i after low under. none i after low) b above (omega arith)
