-- What the bytes at an offset say of the next record.
use Rattle.std.specs.Prelude.{ℕ, suc, zero, ◌+◌, ◌-◌, ◌^◌, ◌==◌, if◌then◌else◌, List, [], ◌∷◌, length, Option, Some, None}
use Rattle.std.specs.Int.{w32}
use Rattle.pm3_types.specs.Bytes.{piece, number_at}
use Rattle.pm3_journal.specs.Format.{PagePart, Image, JournalRecord}
use Rattle.pm3_journal.specs.RecordFront.{front_departure, number_of, part_departure, record_with, stands}

-- what the reading of a record rests on: the page count, and the sequence number that is due, if any is
pub record State : Type 0 where
  pub pages : ℕ
  pub due : Option ℕ

-- the sequence number after this one
abbrev pub next_seq : ℕ → ℕ
next_seq seq = if seq == 2 ^ 64 - 1 then 1 else seq + 1

-- behind a record the one after its number is due
abbrev pub next : State → JournalRecord → State
next s r = record { pages = s.pages; due = Some (next_seq r.seq) }

-- the first record may have any number
abbrev pub at_start : ℕ → State
at_start pages = record { pages = pages; due = None }

-- the list ends here, or a field departs, or a record is here
pub data Reading : Type 0 where
  Ends : Reading
  Broken : ℕ → Reading
  Found : JournalRecord → Reading

-- the pages of a record, or the offset of the first field among them that departs
pub data Parts : Type 0 where
  Bad : ℕ → Parts
  Good : List PagePart → Parts

-- a page before the others, if none of its fields departs
abbrev pub with_part : ℕ → Option ℕ → PagePart → Parts → Parts
with_part at (Some field) part more = Bad (at + field)
with_part at None part (Bad place) = Bad place
with_part at None part (Good parts) = Good (part ∷ parts)

-- the page whose number stands in the 8 bytes at an offset, with the image behind them
abbrev pub part_at : ℕ → List ℕ → PagePart
part_at at bytes = Image (number_at w32 0 (piece at 8 bytes)) (piece (at + 8) 4096 bytes)

-- so many pages from an offset on, in order behind the page `last`
abbrev pub parts_at : ℕ → ℕ → ℕ → ℕ → List ℕ → Parts
parts_at zero pages last at bytes = Good []
parts_at (suc n) pages last at bytes =
    with_part at (part_departure pages last (piece at 8 bytes)) (part_at at bytes) (parts_at n pages
    (number_at w32 0 (piece at 8 bytes)) (at + 4104) bytes)

abbrev pub with_front : ℕ → List ℕ → Option ℕ → Parts → Reading
with_front at front (Some field) parts = Broken (at + field)
with_front at front None (Bad place) = Broken place
with_front at front None (Good parts) = Found (record_with front parts)

-- what a reading finds at an offset, where this front stands
abbrev pub read_with : State → ℕ → List ℕ → List ℕ → Reading
read_with s at front bytes =
    if stands s.due (length bytes - at) front
    then with_front at front (front_departure s.pages front) (parts_at (number_of front) s.pages 1 (at + 48) bytes)
    else Ends

unfoldable pub record_at : State → ℕ → List ℕ → Reading
record_at s at bytes = read_with s at (piece at 48 bytes) bytes
