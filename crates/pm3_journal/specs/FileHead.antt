-- The 32 bytes at the head of a journal's file.
use Rattle.std.specs.Prelude.{ℕ, List, [], ◌∷◌, ◌++◌, Option}
use Rattle.std.specs.Int.{w32, w64, to_le_bytes, from_le_bytes}
use Rattle.pm3_types.specs.Bytes.{Field, Number, Zeros, number_at, first_departure}
use Rattle.pm3_journal.specs.Format.{closed_gate}

-- the codes of "PM3JOURN", which say what the file is
abbrev pub kind : List ℕ
kind = 80 ∷ 77 ∷ 51 ∷ 74 ∷ 79 ∷ 85 ∷ 82 ∷ 78 ∷ []

-- the kind, the version, the page count and 16 zero bytes
abbrev pub head : ℕ → List ℕ
head pages = kind ++ 1 ∷ 0 ∷ 0 ∷ 0 ∷ (to_le_bytes w32 pages ++ (0 ∷ 0 ∷ 0 ∷ 0 ∷ 0 ∷ 0 ∷ 0 ∷ 0 ∷ 0 ∷ 0 ∷ 0 ∷ 0 ∷ 0 ∷ 0 ∷ 0 ∷ 0 ∷ []))

-- a journal without records
abbrev pub empty_journal : ℕ → List ℕ
empty_journal pages = head pages ++ closed_gate

-- how many pages the store has
abbrev pub page_count_of : List ℕ → ℕ
page_count_of head = number_at w32 12 head

-- the fields of a head
abbrev pub head_fields : List Field
head_fields =
    Number 0 w64 (from_le_bytes w64 kind) (from_le_bytes w64 kind)
    ∷ Number 8 w32 1 1
    ∷ Number 12 w32 16 16384
    ∷ Zeros 16 16
    ∷ []

-- the offset of the first field of a head that departs, or is cut
unfoldable pub head_departure : List ℕ → Option ℕ
head_departure front = first_departure head_fields front
