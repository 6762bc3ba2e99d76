-- A byte written before the end of a tail leaves the bytes past the end 0.
use Rattle.std.proofs.Common.{◌≡◌, ◌<◌, ◌≤◌, ◌+◌, ◌*◌, ◌/◌, ◌%◌, ◌^◌, ◌∙◌, ◌||◌, inl, inr, ℕ, zero, suc, Bool, true, eqb, leb, List, length, get_or, set, refl, sym, ap, arith, get_or-set_other, get_or-set_same}
use Rattle.std.proofs.lemmas.Bool.{cases_eq, cases_Bool, leb-false, eqb-true, eq-eqb}
use Rattle.std.proofs.Math.Nat.{div-eq_of_lt, lt-mul-div-succ}
use Rattle.std.proofs.Math.Pow.{pow_mono}
use Rattle.std.proofs.lemmas.Nat.{pow_pos}
use Rattle.std.specs.Int.{to_le_bytes, from_le_bytes, w64}
use Rattle.pm3_types.specs.PageForm.{is_padded}
use Rattle.pm3_access.specs.Spots.{with_byte}

abbrev Low : List ℕ → Type 0
Low bytes = (j : ℕ) → j < 8 → get_or bytes j 0 < 256

abbrev EndsBy : List ℕ → ℕ → Type 0
EndsBy bytes left = (j : ℕ) → left ≤ j → j < 8 → get_or bytes j 0 ≡ 0

read : (word j : ℕ) → j < 8 → get_or (to_le_bytes w64 word) j 0 ≡ word / 2 ^ (8 * j) % 256
read word zero low = omega arith
read word (suc zero) low = refl
read word (suc (suc zero)) low = refl
read word (suc (suc (suc zero))) low = refl
read word (suc (suc (suc (suc zero)))) low = refl
read word (suc (suc (suc (suc (suc zero))))) low = refl
read word (suc (suc (suc (suc (suc (suc zero)))))) low = refl
read word (suc (suc (suc (suc (suc (suc (suc zero))))))) low = refl
read word (suc (suc (suc (suc (suc (suc (suc (suc j)))))))) low = absurd (omega arith)

small_cells : (word : ℕ) → Low (to_le_bytes w64 word)
small_cells word j low = omega (arith, read word j low)

cells_end : (word left : ℕ) → word < 2 ^ (8 * left) → EndsBy (to_le_bytes w64 word) left
cells_end word left bound j high low =
    let more : 2 ^ (8 * left) ≤ 2 ^ (8 * j) = pow_mono (omega arith) in
    let none : word / 2 ^ (8 * j) ≡ 0 = div-eq_of_lt (omega arith) in
    read word j low ∙ ap (λ (n : ℕ). n % 256) none

-- a number whose bytes from one on are 0
low_sum : (bs : List ℕ) (left : ℕ) → left < 8 → Low bs → EndsBy bs left → from_le_bytes w64 bs < 2 ^ (8 * left)
low_sum bs zero few small none =
    omega (arith, none 0 (omega arith) (omega arith), none 1 (omega arith) (omega arith), none 2 (omega arith) (omega arith), none 3 (omega arith) (omega arith), none 4 (omega arith) (omega arith), none 5 (omega arith) (omega arith), none 6 (omega arith) (omega arith), none 7 (omega arith) (omega arith))
low_sum bs (suc zero) few small none =
    omega (arith, small 0 (omega arith), none 1 (omega arith) (omega arith), none 2 (omega arith) (omega arith), none 3 (omega arith) (omega arith), none 4 (omega arith) (omega arith), none 5 (omega arith) (omega arith), none 6 (omega arith) (omega arith), none 7 (omega arith) (omega arith))
low_sum bs (suc (suc zero)) few small none =
    omega (arith, small 0 (omega arith), small 1 (omega arith), none 2 (omega arith) (omega arith), none 3 (omega arith) (omega arith), none 4 (omega arith) (omega arith), none 5 (omega arith) (omega arith), none 6 (omega arith) (omega arith), none 7 (omega arith) (omega arith))
low_sum bs (suc (suc (suc zero))) few small none =
    omega (arith, small 0 (omega arith), small 1 (omega arith), small 2 (omega arith), none 3 (omega arith) (omega arith), none 4 (omega arith) (omega arith), none 5 (omega arith) (omega arith), none 6 (omega arith) (omega arith), none 7 (omega arith) (omega arith))
low_sum bs (suc (suc (suc (suc zero)))) few small none =
    omega (arith, small 0 (omega arith), small 1 (omega arith), small 2 (omega arith), small 3 (omega arith), none 4 (omega arith) (omega arith), none 5 (omega arith) (omega arith), none 6 (omega arith) (omega arith), none 7 (omega arith) (omega arith))
low_sum bs (suc (suc (suc (suc (suc zero))))) few small none =
    omega (arith, small 0 (omega arith), small 1 (omega arith), small 2 (omega arith), small 3 (omega arith), small 4 (omega arith), none 5 (omega arith) (omega arith), none 6 (omega arith) (omega arith), none 7 (omega arith) (omega arith))
low_sum bs (suc (suc (suc (suc (suc (suc zero)))))) few small none =
    omega (arith, small 0 (omega arith), small 1 (omega arith), small 2 (omega arith), small 3 (omega arith), small 4 (omega arith), small 5 (omega arith), none 6 (omega arith) (omega arith), none 7 (omega arith) (omega arith))
low_sum bs (suc (suc (suc (suc (suc (suc (suc zero))))))) few small none =
    omega (arith, small 0 (omega arith), small 1 (omega arith), small 2 (omega arith), small 3 (omega arith), small 4 (omega arith), small 5 (omega arith), small 6 (omega arith), none 7 (omega arith) (omega arith))
low_sum bs (suc (suc (suc (suc (suc (suc (suc (suc left)))))))) few small none = absurd (omega arith)

-- another byte before the end
set_small : (bs : List ℕ) (p v : ℕ) → p < length bs → v < 256 → Low bs → Low (set bs p v)
set_small bs p v long byte small j low = elim (cases_eq j p) [
  | inl e ↦ omega (arith, ap (λ (k : ℕ). get_or (set bs p v) k 0) e ∙ get_or-set_same bs p v 0 long)
  | inr apart ↦ omega (arith, get_or-set_other bs p j v 0 apart, small j low)
]

set_ends : (bs : List ℕ) (p v left : ℕ) → p < left → EndsBy bs left → EndsBy (set bs p v) left
set_ends bs p v left before none j high low = get_or-set_other bs p j v 0 (λ e. omega arith) ∙ none j high low

-- a word of a tail of bytes is padded still
pub byte_padded : (left word p v : ℕ) → p < left → p < 8 → v < 256 → is_padded left word ≡ true → is_padded left (with_byte word p v) ≡ true
unfolding is_padded with_byte
byte_padded left word p v before within byte padded = elim (cases_Bool (leb 8 left)) [
  | inl full ↦ ap (λ (b : Bool). b || eqb (from_le_bytes w64 (set (to_le_bytes w64 word) p v) / 2 ^ (8 * left)) 0) full
  | inr partial ↦ (let few : left < 8 = leb-false 8 left partial in
      let ends : word / 2 ^ (8 * left) ≡ 0 = eqb-true (word / 2 ^ (8 * left)) 0 (sym (ap (λ (b : Bool). b || eqb (word / 2 ^ (8 * left)) 0) partial) ∙ padded) in
      let bound : word < 2 ^ (8 * left) = omega (arith, lt-mul-div-succ word (pow_pos (8 * left)), ap (λ (n : ℕ). 2 ^ (8 * left) * (n + 1)) ends) in
      let low = low_sum (set (to_le_bytes w64 word) p v) left few (set_small (to_le_bytes w64 word) p v (omega arith) byte (small_cells word))
      (set_ends (to_le_bytes w64 word) p v left before (cells_end word left bound)) in
      ap (λ (b : Bool). b || eqb (from_le_bytes w64 (set (to_le_bytes w64 word) p v) / 2 ^ (8 * left)) 0) partial
      ∙ eq-eqb (from_le_bytes w64 (set (to_le_bytes w64 word) p v) / 2 ^ (8 * left)) 0 (div-eq_of_lt low))
]
