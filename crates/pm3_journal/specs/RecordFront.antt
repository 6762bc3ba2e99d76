-- The 48 bytes at the front of a record, and the 8 bytes before an image in it.
use Rattle.std.specs.Prelude.{ℕ, ◌+◌, ◌-◌, ◌*◌, ◌^◌, Bool, true, ◌&&◌, ◌==◌, nat_le, List, [], ◌∷◌, slice_index, Option, Some, None}
use Rattle.std.specs.Int.{w32, w64}
use Rattle.pm3_types.specs.Bytes.{Field, Number, Zeros, number_at, first_departure}
use Rattle.pm3_journal.specs.Format.{PagePart, JournalRecord}
use Rattle.pm3_journal.specs.Summaries.{Summary}

-- the numbers of a front
abbrev pub seq_of : List ℕ → ℕ
seq_of front = number_at w64 8 front

abbrev pub name_of : List ℕ → ℕ
name_of front = number_at w64 16 front

abbrev pub tag_of : List ℕ → ℕ
tag_of front = number_at w32 24 front

-- how many pages the record has
abbrev pub number_of : List ℕ → ℕ
number_of front = number_at w32 28 front

abbrev pub high_of : List ℕ → ℕ
high_of front = number_at w32 32 front

abbrev pub pins_of : List ℕ → ℕ
pins_of front = number_at w32 36 front

abbrev pub moved_of : List ℕ → ℕ
moved_of front = number_at w32 40 front

-- The fields of a front that have a form, in a journal for so many pages. Gate and sequence number are no fields: where
-- they don't fit, the list ends.
abbrev pub front_fields : ℕ → List Field
front_fields pages =
    Zeros 1 7
    ∷ Number 16 w64 1 (2 ^ 62)
    ∷ Number 28 w32 0 (pages - 1)
    ∷ Number 32 w32 3 pages
    ∷ Zeros 44 4
    ∷ []

-- the offset, within the record, of the first of these that departs
unfoldable pub front_departure : ℕ → List ℕ → Option ℕ
front_departure pages front = first_departure (front_fields pages) front

-- the fields before the image of a page, which comes behind that of the page `last`
abbrev pub part_fields : ℕ → ℕ → List Field
part_fields pages last = Number 0 w32 (last + 1) (pages - 1) ∷ Zeros 4 4 ∷ []

unfoldable pub part_departure : ℕ → ℕ → List ℕ → Option ℕ
part_departure pages last field = first_departure (part_fields pages last) field

-- the number that is due is this one, or any
abbrev pub is_due : Option ℕ → ℕ → Bool
is_due None seq = true
is_due (Some due) seq = due == seq

-- A record belongs to the list where its gate is 1, its front is there, its number is due and it lies whole in the bytes,
-- of which so many are left.
unfoldable pub stands : Option ℕ → ℕ → List ℕ → Bool
stands due left front = (slice_index front 0 == 1) && (nat_le 48 left && (is_due due (seq_of front)
    && nat_le (48 + 4104 * number_of front) left))

-- the summary with these numbers and pages
abbrev pub summary_with : List ℕ → List ℕ → Summary
summary_with front pages = record {
  seq = seq_of front;
  next_name = name_of front;
  tag = tag_of front;
  high_page = high_of front;
  pins = pins_of front;
  moved = moved_of front;
  pages = pages;
}

-- the record with these numbers and parts
abbrev pub record_with : List ℕ → List PagePart → JournalRecord
record_with front parts = record {
  seq = seq_of front;
  next_name = name_of front;
  tag = tag_of front;
  high_page = high_of front;
  pins = pins_of front;
  moved = moved_of front;
  parts = parts;
}
