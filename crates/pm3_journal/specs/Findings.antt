-- What was read of a journal's device.
use Rattle.std.specs.Prelude.{◌≡◌, ℕ, ◌+◌, ◌-◌, ◌^◌, ◌<◌, ◌≤◌, true, List, [], map, take, length, slice_index_or, Option, None, is_some}
use Rattle.pm3_types.specs.Bytes.{piece}
use Rattle.pm3_journal.specs.FileHead.{head_departure, page_count_of}
use Rattle.pm3_journal.specs.Format.{PagePart, JournalRecord, page_in}
use Rattle.pm3_journal.specs.Gates.{IsGate}
use Rattle.pm3_journal.specs.Offsets.{AreHeld, AreLow, has_offset, images_at, last_offset, offset_in}
use Rattle.pm3_journal.specs.Pages.{image_of}
use Rattle.pm3_journal.specs.Reading.{State, at_start, Good, parts_at, Found, Ends, record_at}
use Rattle.pm3_journal.specs.RecordFront.{is_due, stands}
use Rattle.pm3_journal.specs.Records.{after, HasFront}
use Rattle.pm3_journal.specs.Summaries.{Summary, summary_of}
use Rattle.pm3_journal.specs.declared.device_reading.Findings.{Findings}

-- a head for so many pages was read
pub record HasHead (pages : ℕ) (bytes : List ℕ) : Type 0 where
  pub fine : head_departure (take 32 bytes) ≡ None
  pub page_count : page_count_of (take 32 bytes) ≡ pages
  pub there : 32 ≤ length bytes

-- these 48 bytes are the front of a record of the list
pub record IsFrontAt (due : Option ℕ) (at : ℕ) (front bytes : List ℕ) : Type 0 where
  pub is : front ≡ piece at 48 bytes
  pub stands_there : stands due (length bytes - at) front ≡ true

-- so many pages were read at an offset, and the table has the offsets of their images
pub record HasParts (count pages at : ℕ) (bytes numbers : List ℕ) (old new : List (Option ℕ)) : Type 0 where
  pub parts : List PagePart
  pub are : parts_at count pages 1 at bytes ≡ Good parts
  pub numbers_are : numbers ≡ map page_in parts
  pub offsets_are : (page : ℕ) → slice_index_or new page None ≡ offset_in page at parts (slice_index_or old page None)

-- a record was read at an offset
pub record HasRecord (s : State) (at : ℕ) (bytes : List ℕ) (summary : Summary) (old new : List (Option ℕ)) : Type 0 where
  pub r : JournalRecord
  pub found : record_at s at bytes ≡ Found r
  pub shown : summary ≡ summary_of r
  pub offsets_are : (page : ℕ) → slice_index_or new page None ≡ offset_in page (at + 48) r.parts (slice_index_or old page None)

-- a head and the records up to an offset were read
pub record HasList (pages end : ℕ) (due : Option ℕ) (summaries : List Summary) (offsets : List (Option ℕ)) (bytes : List ℕ) : Type 0 where
  pub list : List JournalRecord
  pub front : HasFront pages list end bytes
  pub state : after (at_start pages) list ≡ record { pages = pages; due = due }
  pub shown : summaries ≡ map summary_of list
  pub offsets_are : (page : ℕ) → slice_index_or offsets page None ≡ last_offset page 32 list None

-- what was found is what the bytes have: the list, where it ends, the gate there, and the last images
pub record IsFoundIn (found : Findings) (bytes : List ℕ) : Type 0 where
  pub list : HasList found.pages found.list.end found.list.due found.list.entries.summaries found.offsets.items bytes
  pub ends : record_at (record { pages = found.pages; due = found.list.due }) found.list.end bytes ≡ Ends
  pub gate : IsGate found.is_closed found.list.end bytes
  pub images : found.images.items ≡ images_at 0 found.offsets.items bytes

-- what was found is sound, also where the device tells nothing
pub record IsSoundFound (found : Findings) : Type 0 where
  pub due : is_due found.list.due found.next ≡ true
  pub positive : 1 ≤ found.next
  pub short : found.next < 2 ^ 64
  pub first : found.list.entries.summaries ≡ [] → found.next ≡ 1
  pub least : 16 ≤ found.pages
  pub most : found.pages ≤ 16384
  pub table : found.list.entries.pages ≡ found.pages
  pub low : AreLow found.offsets.items
  pub held : AreHeld found.list.entries.summaries found.offsets.items
  pub images : (page : ℕ) → is_some (image_of page found.images.items) ≡ has_offset (slice_index_or found.offsets.items page None)
