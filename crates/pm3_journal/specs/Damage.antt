-- What it says that a journal is damaged at an offset.
use Rattle.std.specs.Prelude.{◌≡◌, ℕ, ◌+◌, ◌≤◌, List, length, take}
use Rattle.pm3_journal.specs.Records.{records, Damaged}

-- Nothing that stands further on mends a damaged journal: bytes that are as many at least, and the same up to a record's
-- front behind the damaged byte, are damaged at the same offset. So they have no list of records.
abbrev pub NothingMends : Type 0
NothingMends = (bytes others : List ℕ) (offset : ℕ) → records bytes ≡ Damaged offset
    → length bytes ≤ length others → take (offset + 48) others ≡ take (offset + 48) bytes → records others ≡ Damaged offset
