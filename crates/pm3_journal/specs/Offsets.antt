-- Where the images of a journal's records stand.
use Rattle.std.specs.Prelude.{◌≡◌, ℕ, ◌+◌, ◌^◌, ◌<◌, ◌≤◌, ◌==◌, ◌||◌, Bool, true, false, if◌then◌else◌, List, [], ◌∷◌, length, slice_index_or, Option, Some, None}
use Rattle.std.specs.List.{count_by, list_any}
use Rattle.pm3_types.specs.Bytes.{piece}
use Rattle.pm3_journal.specs.Format.{PagePart, Image, JournalRecord, record_size}
use Rattle.pm3_journal.specs.Summaries.{Summary, has_page}

-- the offset of the last image of a page in the parts that begin at an offset, or where it was before
abbrev pub offset_in : ℕ → ℕ → List PagePart → Option ℕ → Option ℕ
offset_in page at [] was = was
offset_in page at (Image number image ∷ parts) was = offset_in page (at + 4104) parts (if number == page then Some (at + 8) else was)

-- the offset of the last image of a page in the records that begin at an offset, or where it was before
abbrev pub last_offset : ℕ → ℕ → List JournalRecord → Option ℕ → Option ℕ
last_offset page at [] was = was
last_offset page at (r ∷ rs) was = last_offset page (at + record_size r) rs (offset_in page (at + 48) r.parts was)

-- the images at the offsets in a table by page numbers, of which the first is that of `page`
abbrev pub images_at : ℕ → List (Option ℕ) → List ℕ → List (ℕ × List ℕ)
images_at page [] bytes = []
images_at page (None ∷ offsets) bytes = images_at (page + 1) offsets bytes
images_at page (Some place ∷ offsets) bytes = (page, piece place 4096 bytes) ∷ images_at (page + 1) offsets bytes

-- the image at one offset
abbrev pub one_at : ℕ → Option ℕ → List ℕ → List (ℕ × List ℕ)
one_at page None bytes = []
one_at page (Some place) bytes = (page, piece place 4096 bytes) ∷ []

abbrev pub has_offset : Option ℕ → Bool
has_offset None = false
has_offset (Some place) = true

-- how many cells of a table have an offset
abbrev pub number_of_offsets : List (Option ℕ) → ℕ
number_of_offsets offsets = count_by has_offset offsets

-- the offset of each byte of an image in the table is a number of 64 bits
abbrev pub AreLow : List (Option ℕ) → Type 0
AreLow offsets = (page place : ℕ) → slice_index_or offsets page None ≡ Some place → place + 4096 < 2 ^ 64

-- a table of a store's pages
pub record IsTable (offsets : List (Option ℕ)) : Type 0 where
  pub least : 16 ≤ length offsets
  pub most : length offsets ≤ 16384
  pub low : AreLow offsets

-- these pages have an offset in the table now, and those that had one before
abbrev pub AreNoted : List ℕ → List (Option ℕ) → List (Option ℕ) → Type 0
AreNoted numbers old new = (page : ℕ)
    → has_offset (slice_index_or new page None) ≡ (list_any (λ q. q == page) numbers || has_offset (slice_index_or old page None))

-- the pages of the records, all of them from 2 on, are those that have an offset
pub record AreHeld (summaries : List Summary) (offsets : List (Option ℕ)) : Type 0 where
  pub has : (page : ℕ) → has_offset (slice_index_or offsets page None) ≡ has_page summaries page
  pub above : (page : ℕ) → has_page summaries page ≡ true → 2 ≤ page
