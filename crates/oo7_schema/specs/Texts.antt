-- Texts: what the manual and the documents say, and the chains of chunks that keep them.
use Rattle.std.specs.Prelude.{ℕ, zero, suc, ◌≡◌, ◌+◌, ◌*◌, ◌/◌, ◌%◌, ◌^◌, ◌≤◌, List, [], ◌∷◌, ◌++◌, map, take, drop, length, replicate, codes, slice_index, flat_map}
use Rattle.std.specs.List.{concat, range_with_len}
use Rattle.pm3_types.specs.Record.{Record}
use Rattle.oo7_schema.specs.Lookup.{Look, reference, bytes}
use Rattle.oo7_schema.specs.Nodes.{IsOf}

-- a line repeated and cut at so many bytes
abbrev pub repeated : List ℕ → ℕ → List ℕ
repeated line count = take count (concat (replicate (count / length line + 1) line))

-- a number in eight digits
abbrev pub eight_digits : ℕ → List ℕ
eight_digits k = map (λ (p : ℕ). 48 + k / 10 ^ p % 10) (7 ∷ 6 ∷ 5 ∷ 4 ∷ 3 ∷ 2 ∷ 1 ∷ 0 ∷ [])

abbrev pub manual_line : List ℕ
manual_line = codes "I am the manual for module 00000001.\n"

abbrev pub document_line : ℕ → List ℕ
document_line k = codes "I am the documentation for composite part " ++ eight_digits k ++ codes ".\n"

-- how many chunks keep so many bytes
abbrev pub chunk_count : ℕ → ℕ
chunk_count count = (count + 3071) / 3072

-- the chunks of a text, under these names in order, each with at most 3072 bytes and the next one
abbrev pub chunk_objects : List ℕ → List ℕ → List (ℕ × Record)
chunk_objects names text = map (λ (i : ℕ). (slice_index names i, record { ty = 8; fields = slice_index names (i + 1) ∷ []; tail = take 3072 (drop (3072 * i) text) }))
    (range_with_len 0 (chunk_count (length text)))

-- at most so many chunks, from n on along `next`
abbrev pub chunks : Look → ℕ → ℕ → List ℕ
chunks look zero n = []
chunks look (suc most) zero = []
chunks look (suc most) (suc n) = suc n ∷ chunks look most (reference look (suc n) 0)

-- the text of a length that begins at a chunk: each chunk has a byte at least
abbrev pub text_from : Look → ℕ → ℕ → List ℕ
text_from look count first = flat_map (bytes look) (chunks look count first)

-- a chunk of at least one byte
pub record IsChunk (look : Look) (n : ℕ) : Type 0 where
  pub is : IsOf look 8 n
  pub some : 1 ≤ length (bytes look n)
  pub most : length (bytes look n) ≤ 3072

-- the chain from n along `next` has these chunks, and the last has nil
abbrev pub AreChunks : Look → ℕ → List ℕ → Type 0
AreChunks look n [] = n ≡ 0
AreChunks look n (c ∷ cs) = (n ≡ c) × IsChunk look c × AreChunks look (reference look c 0) cs

-- a text of so many bytes begins at a chunk, and ends in the chunk `last`
pub record HasText (look : Look) (count first last : ℕ) : Type 0 where
  pub before : List ℕ
  pub are : AreChunks look first (before ++ last ∷ [])
  pub counted : length (flat_map (bytes look) (before ++ last ∷ [])) ≡ count
