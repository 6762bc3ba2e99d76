-- Lists of truth values read from and written to the bits of words.
use Rattle.std.proofs.Common.{◌≡◌, ◌≢◌, ◌<◌, ◌+◌, ◌-◌, ◌*◌, ◌/◌, ◌%◌, ◌^◌, ◌==◌, ℕ, zero, suc, Bool, true, false, List, [], ◌∷◌, ◌++◌, length, get_or, set, replicate, bit_or, bit_and, refl, sym, ap, ◌∙◌, arith, length-append, length-set, get_or-set_same, get_or-set_other, inl, inr}
use Rattle.std.proofs.lemmas.Bool.{cases_eq}
use Rattle.std.specs.Int.{bit_at, bit_not, w64}
use Rattle.std.proofs.lemmas.Nat.Bits.{bit_at_set_same, bit_at_set_other, bit_at_clear_same, bit_at_clear_other, bit_at-suc, bit_at_lowest, bit_at-zero}
use Rattle.std.proofs.lemmas.List.{ext_get_or, get_or_append_left, get_or-append_right, get_or-replicate, length-replicate}
use Rattle.pm3_page.specs.StartBits.{low_bits, bits_in}

pub length-low_bits : (n w : ℕ) → length (low_bits n w) ≡ n
unfolding low_bits
length-low_bits zero w = refl
length-low_bits (suc n) w = ap suc (length-low_bits n (w / 2))

pub get-low_bits : (n w i : ℕ) → i < n → get_or (low_bits n w) i false ≡ (bit_at w i == 1)
unfolding low_bits
get-low_bits zero w i below = absurd (omega arith)
get-low_bits (suc n) w zero below = ap (λ (b : ℕ). b == 1) (sym (bit_at_lowest w))
get-low_bits (suc n) w (suc i) below =
    get-low_bits n (w / 2) i (omega arith) ∙ ap (λ (b : ℕ). b == 1) (sym (bit_at-suc w i))

pub length-bits_in : (ws : List ℕ) → length (bits_in ws) ≡ 64 * length ws
unfolding bits_in
length-bits_in [] = refl
length-bits_in (w ∷ ws) = omega (arith, length-append (low_bits 64 w) (bits_in ws), length-low_bits 64 w, length-bits_in ws)

pub get-bits_in : (ws : List ℕ) (j k : ℕ) → k < 64 → get_or (bits_in ws) (64 * j + k) false ≡ (bit_at (get_or ws j 0) k == 1)
unfolding bits_in
get-bits_in [] j k low = ap (λ (b : ℕ). b == 1) (sym (bit_at-zero k))
get-bits_in (w ∷ ws) zero k low =
    ap (λ (i : ℕ). get_or (low_bits 64 w ++ bits_in ws) i false) (omega arith)
    ∙ get_or_append_left (low_bits 64 w) (bits_in ws) false k (omega (arith, length-low_bits 64 w))
    ∙ get-low_bits 64 w k low
get-bits_in (w ∷ ws) (suc j) k low =
    get_or-append_right (low_bits 64 w) (bits_in ws) 64 (64 * suc j + k) false (length-low_bits 64 w) (omega arith)
    ∙ ap (λ (i : ℕ). get_or (bits_in ws) i false) same
    ∙ get-bits_in ws j k low
  where
    same : 64 * suc j + k - 64 ≡ 64 * j + k
    same = omega arith

-- the same by the place of the value
pub get-bits_in_at : (ws : List ℕ) (i : ℕ) → get_or (bits_in ws) i false ≡ (bit_at (get_or ws (i / 64) 0) (i % 64) == 1)
get-bits_in_at ws i = ap (λ (k : ℕ). get_or (bits_in ws) k false) place ∙ get-bits_in ws (i / 64) (i % 64) (omega arith)
  where
    place : i ≡ 64 * (i / 64) + i % 64
    place = omega arith

-- words of zeros have no bit
pub bits_in-zeros : (n : ℕ) → bits_in (replicate n 0) ≡ replicate (64 * n) false
bits_in-zeros n = ext_get_or false _ _ same_length each
  where
    none : ℕ
    none = 0

    zeros : List ℕ
    zeros = replicate n none

    same_length : length (bits_in zeros) ≡ length (replicate (64 * n) false)
    same_length = length-bits_in zeros ∙ ap (λ (k : ℕ). 64 * k) (length-replicate n none) ∙ sym (length-replicate (64 * n) false)

    each : (i : ℕ) → i < length (bits_in zeros) → get_or (bits_in zeros) i false ≡ get_or (replicate (64 * n) false) i false
    each i below =
        let within : i < 64 * n = omega (arith, length-bits_in zeros, length-replicate n none) in
        get-bits_in_at zeros i
        ∙ ap (λ (w : ℕ). bit_at w (i % 64) == 1) (get_or-replicate n (i / 64) none none (omega arith))
        ∙ ap (λ (b : ℕ). b == 1) (bit_at-zero (i % 64))
        ∙ sym (get_or-replicate (64 * n) i false false within)

-- one bit of one of the words changed is one value changed in the list
bits_in-change : (ws : List ℕ) (i word : ℕ) (value : Bool) → i / 64 < length ws
    → (bit_at word (i % 64) == 1) ≡ value
    → ((k : ℕ) → k < 64 → k ≢ i % 64 → bit_at word k ≡ bit_at (get_or ws (i / 64) 0) k)
    → bits_in (set ws (i / 64) word) ≡ set (bits_in ws) i value
bits_in-change ws i word value there here others = ext_get_or false _ _ same_length each
  where
    new : List ℕ
    new = set ws (i / 64) word

    same_length : length (bits_in new) ≡ length (set (bits_in ws) i value)
    same_length = omega (arith, length-bits_in new, length-bits_in ws, length-set ws (i / 64) word, length-set (bits_in ws) i value)

    other : (k : ℕ) → k ≢ i → bit_at (get_or new (k / 64) 0) (k % 64) ≡ bit_at (get_or ws (k / 64) 0) (k % 64)
    other k apart = elim (cases_eq (k / 64) (i / 64)) [ inl e ↦ same_word e | inr e ↦ ap (λ (w : ℕ). bit_at w (k % 64)) (get_or-set_other ws (i / 64) (k / 64) word 0 e) ]
      where
        same_word : k / 64 ≡ i / 64 → bit_at (get_or new (k / 64) 0) (k % 64) ≡ bit_at (get_or ws (k / 64) 0) (k % 64)
        same_word e =
            let bit : k % 64 ≢ i % 64 = omega arith in
            ap (λ (j : ℕ). bit_at (get_or new j 0) (k % 64)) e
            ∙ ap (λ (w : ℕ). bit_at w (k % 64)) (get_or-set_same ws (i / 64) word 0 there)
            ∙ others (k % 64) (omega arith) bit
            ∙ ap (λ (j : ℕ). bit_at (get_or ws j 0) (k % 64)) (sym e)

    at_i : (k : ℕ) → k ≡ i → get_or (bits_in new) k false ≡ get_or (set (bits_in ws) i value) k false
    at_i k e =
        let within : i < length (bits_in ws) = omega (arith, length-bits_in ws) in
        ap (λ (j : ℕ). get_or (bits_in new) j false) e
        ∙ get-bits_in_at new i
        ∙ ap (λ (w : ℕ). bit_at w (i % 64) == 1) (get_or-set_same ws (i / 64) word 0 there) ∙ here
        ∙ sym (get_or-set_same (bits_in ws) i value false within)
        ∙ ap (λ (j : ℕ). get_or (set (bits_in ws) i value) j false) (sym e)

    each : (k : ℕ) → k < length (bits_in new) → get_or (bits_in new) k false ≡ get_or (set (bits_in ws) i value) k false
    each k below = elim (cases_eq k i) [
      | inl e ↦ at_i k e
      | inr e ↦
          get-bits_in_at new k ∙ ap (λ (b : ℕ). b == 1) (other k e) ∙ sym (get-bits_in_at ws k) ∙ sym (get_or-set_other (bits_in ws) i k value false e)
    ]

pub bits_in-set : (ws : List ℕ) (i : ℕ) → i / 64 < length ws
    → bits_in (set ws (i / 64) (bit_or (get_or ws (i / 64) 0) (1 * 2 ^ (i % 64) % 2 ^ 64))) ≡ set (bits_in ws) i true
bits_in-set ws i there =
    bits_in-change ws i _ true there
    (ap (λ (b : ℕ). b == 1) (bit_at_set_same w64 (get_or ws (i / 64) 0) (i % 64) (omega arith)))
    (λ k low apart. bit_at_set_other w64 (get_or ws (i / 64) 0) (i % 64) (omega arith) k apart)

pub bits_in-clear : (ws : List ℕ) (i : ℕ) → i / 64 < length ws
    → bits_in (set ws (i / 64) (bit_and (get_or ws (i / 64) 0) (bit_not w64 (1 * 2 ^ (i % 64) % 2 ^ 64)))) ≡ set (bits_in ws) i false
bits_in-clear ws i there =
    bits_in-change ws i _ false there
    (ap (λ (b : ℕ). b == 1) (bit_at_clear_same w64 (get_or ws (i / 64) 0) (i % 64) (omega arith)))
    (λ k low apart. bit_at_clear_other w64 (get_or ws (i / 64) 0) (i % 64) (omega arith) k low apart)
