-- A list of truth values kept as the bits of words.
use Rattle.std.specs.Prelude.{ℕ, zero, suc, ◌≡◌, ◌<◌, ◌≤◌, ◌/◌, ◌%◌, ◌==◌, Bool, true, false, List, [], ◌∷◌, ◌++◌, Option, Some, None, slice_index_or}

-- the lowest n bits of a word, the lowest first
unfoldable pub low_bits : ℕ → ℕ → List Bool
low_bits zero word = []
low_bits (suc n) word = (word % 2 == 1) ∷ low_bits n (word / 2)

-- the 64 bits of each word
unfoldable pub bits_in : List ℕ → List Bool
bits_in [] = []
bits_in (word ∷ words) = low_bits 64 word ++ bits_in words

-- the first of 512 places from this one on that is true, or None where none is
abbrev pub IsFirstFrom : List Bool → ℕ → Option ℕ → Type 0
IsFirstFrom values from None = (i : ℕ) → from ≤ i → i < 512 → slice_index_or values i false ≡ false
IsFirstFrom values from (Some at) =
    (from ≤ at) × (at < 512) × (slice_index_or values at false ≡ true) × ((i : ℕ) → from ≤ i → i < at → slice_index_or values i false ≡ false)
