-- Words as bytes and back.
use Rattle.std.proofs.Common.{◌≡◌, ◌<◌, ◌≤◌, ◌+◌, ◌*◌, ◌^◌, ◌∙◌, ℕ, zero, suc, List, [], ◌∷◌, ◌++◌, length, take, drop, get_or, refl, sym, ap, subst, arith, take-append-drop, length-drop, length-take-le, get_or-drop, get_or-take}
use Rattle.std.proofs.lemmas.List.{drop_at, drop-drop, get_or_past}
use Rattle.std.proofs.lemmas.Bool.{cases_lt}
use Rattle.std.proofs.lemmas.Nat.{le_bytes_8}
use Rattle.std.proofs.Common.{inl, inr}
use Rattle.std.specs.Int.{from_le_bytes, w64}
use Rattle.byteorder.specs.Endian.{little_bytes, little_number}
use Rattle.byteorder.specs.Numbers.{little_number-reads_back, length-bytes_low_first, little_from-take}
use Rattle.pm3_page.specs.PageBytes.{bytes_of, words_in}

-- the words that stand in bytes, from the words one by one
pub read-words_in : (bytes words : List ℕ) → ((k : ℕ) → k < length words → get_or words k 0 ≡ little_number 8 (drop (8 * k) bytes))
    → words ≡ words_in (length words) bytes
unfolding words_in
read-words_in bytes [] each = refl
read-words_in bytes (w ∷ words) each =
    let first : w ≡ little_number 8 bytes = each 0 (omega arith) in
    let rest : words ≡ words_in (length words) (drop 8 bytes) = read-words_in (drop 8 bytes) words (λ k below.
    each (suc k) (omega arith)
    ∙ ap (λ (n : ℕ). little_number 8 (drop n bytes)) (omega arith)
    ∙ ap (λ (bs : List ℕ). little_number 8 bs) (sym (drop-drop (8 * k) 8 bytes))) in
    λ i. first i ∷ rest i

-- words written and read
pub words_in-bytes_of : (words : List ℕ) → ((k : ℕ) → get_or words k 0 < 2 ^ 64) → words_in (length words) (bytes_of words) ≡ words
unfolding words_in bytes_of
words_in-bytes_of [] low = refl
words_in-bytes_of (w ∷ words) low =
    let first : little_number 8 (little_bytes 8 w ++ bytes_of words) ≡ w = little_number-reads_back 8 w (bytes_of words) (low 0) in
    let behind : drop 8 (little_bytes 8 w ++ bytes_of words) ≡ bytes_of words = drop_at (little_bytes 8 w) (bytes_of words) 8 (length-bytes_low_first 0 8 w) in
    let rest : words_in (length words) (drop 8 (little_bytes 8 w ++ bytes_of words)) ≡ words =
    ap (words_in (length words)) behind ∙ words_in-bytes_of words (λ k. low (suc k)) in
    λ i. first i ∷ rest i

-- eight bytes read and written
eight : (bytes : List ℕ) → 8 ≤ length bytes → ((k : ℕ) → get_or bytes k 0 < 256) → little_bytes 8 (little_number 8 bytes) ≡ take 8 bytes
eight bytes long low = le_bytes_8 (take 8 bytes) (little_number 8 bytes) (length-take-le 8 bytes long) each (sym (little_from-take 0 8 8 bytes (omega arith)) ∙ number (take 8 bytes))
  where
    number : (bs : List ℕ) → little_number 8 bs ≡ from_le_bytes w64 bs
    number bs = omega arith

    each : (k : ℕ) → get_or (take 8 bytes) k 0 < 256
    each k = elim (cases_lt k 8) [
      | inl below ↦ subst (λ (b : ℕ). b < 256) (sym (get_or-take 8 bytes k 0 below)) (low k)
      | inr past ↦ subst (λ (b : ℕ). b < 256) (sym (get_or_past (take 8 bytes) k 0 (omega (arith, length-take-le 8 bytes long)))) (omega arith)
    ]

-- bytes read and written
pub bytes_of-words_in : (n : ℕ) (bytes : List ℕ) → length bytes ≡ 8 * n → ((k : ℕ) → get_or bytes k 0 < 256) → bytes_of (words_in n bytes) ≡ bytes
unfolding words_in bytes_of
bytes_of-words_in zero [] all low = refl
bytes_of-words_in zero (b ∷ bytes) all low = absurd (omega arith)
bytes_of-words_in (suc n) bytes all low =
    let first : little_bytes 8 (little_number 8 bytes) ≡ take 8 bytes = eight bytes (omega arith) low in
    let rest : bytes_of (words_in n (drop 8 bytes)) ≡ drop 8 bytes =
    bytes_of-words_in n (drop 8 bytes) (omega (arith, length-drop 8 bytes)) (λ k. subst (λ (b : ℕ). b < 256) (sym (get_or-drop 8 bytes k 0)) (low (8 + k))) in
    (λ i. first i ++ rest i) ∙ take-append-drop 8 bytes

pub length-words_in : (n : ℕ) (bytes : List ℕ) → length (words_in n bytes) ≡ n
unfolding words_in
length-words_in zero bytes = refl
length-words_in (suc n) bytes = ap suc (length-words_in n (drop 8 bytes))
