-- What a record of a journal is, and its bytes.
use Rattle.std.specs.Prelude.{◌≡◌, ℕ, ◌+◌, ◌^◌, ◌<◌, ◌≤◌, List, [], ◌∷◌, ◌++◌, length}
use Rattle.std.specs.Int.{w32, w64, to_le_bytes}

-- what a record has of one page: the page's number, and the 4096 bytes of its image
pub data PagePart : Type 0 where
  Image : ℕ → List ℕ → PagePart

pub record JournalRecord : Type 0 where
  pub seq : ℕ  -- its sequence number
  pub next_name : ℕ
  pub tag : ℕ
  pub high_page : ℕ
  pub pins : ℕ
  pub moved : ℕ
  pub parts : List PagePart

abbrev pub part_bytes : PagePart → List ℕ
part_bytes (Image page image) = to_le_bytes w32 page ++ (0 ∷ 0 ∷ 0 ∷ 0 ∷ image)

abbrev pub parts_bytes : List PagePart → List ℕ
parts_bytes [] = []
parts_bytes (part ∷ parts) = part_bytes part ++ parts_bytes parts

-- the bytes of a record behind its gate
unfoldable pub body : JournalRecord → List ℕ
body r = 0 ∷ 0 ∷ 0 ∷ 0 ∷ 0 ∷ 0 ∷ 0 ∷ (to_le_bytes w64 r.seq ++ (to_le_bytes w64 r.next_name
    ++ (to_le_bytes w32 r.tag ++ (to_le_bytes w32 (length r.parts)
    ++ (to_le_bytes w32 r.high_page ++ (to_le_bytes w32 r.pins ++ (to_le_bytes w32 r.moved ++ (0 ∷ 0 ∷ 0 ∷ 0 ∷ parts_bytes r.parts))))))))

-- the gate of the next record, closed
abbrev pub closed_gate : List ℕ
closed_gate = 0 ∷ 0 ∷ 0 ∷ 0 ∷ 0 ∷ 0 ∷ 0 ∷ 0 ∷ []

-- what an append writes behind a record's gate: the record, and the closed gate of the next
abbrev pub appended_bytes : JournalRecord → List ℕ
appended_bytes r = body r ++ closed_gate

abbrev pub part_size : PagePart → ℕ
part_size (Image page image) = 4104

abbrev pub parts_size : List PagePart → ℕ
parts_size [] = 0
parts_size (part ∷ parts) = part_size part + parts_size parts

-- how many bytes a record has, its gate among them
abbrev pub record_size : JournalRecord → ℕ
record_size r = 48 + parts_size r.parts

abbrev pub page_in : PagePart → ℕ
page_in (Image page image) = page

-- the pages' numbers rise, from above `last` to below the page count, and each image has 4096 bytes
abbrev pub AreParts : ℕ → ℕ → List PagePart → Type 0
AreParts pages last [] = Unit {0}
AreParts pages last (Image page image ∷ parts) = (last < page) × (page < pages) × (length image ≡ 4096) × AreParts pages page parts

-- no field of the record is damaged, in a journal for so many pages
pub record IsFit (pages : ℕ) (r : JournalRecord) : Type 0 where
  pub page_count : pages ≤ 16384
  pub seq : r.seq < 2 ^ 64
  pub named : 1 ≤ r.next_name
  pub names : r.next_name ≤ 2 ^ 62
  pub tag : r.tag < 2 ^ 32
  pub number : length r.parts < pages
  pub low : 3 ≤ r.high_page
  pub high : r.high_page ≤ pages
  pub pins : r.pins < 2 ^ 32
  pub moved : r.moved < 2 ^ 32
  pub parts : AreParts pages 1 r.parts
