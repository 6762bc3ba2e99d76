-- What a journal that was recovered has of its device's bytes.
use Rattle.std.specs.Prelude.{◌≡◌, ℕ, List, map, take, slice_index_or, None}
use Rattle.pm3_journal.specs.FileHead.{page_count_of}
use Rattle.pm3_journal.specs.Format.{JournalRecord}
use Rattle.pm3_journal.specs.Journals.{IsJournal}
use Rattle.pm3_journal.specs.JournalState.{JournalState}
use Rattle.pm3_journal.specs.Offsets.{last_offset}
use Rattle.pm3_journal.specs.Opening.{last_image}
use Rattle.pm3_journal.specs.Pages.{image_of}
use Rattle.pm3_journal.specs.Records.{records, Whole}
use Rattle.pm3_journal.specs.Summaries.{summary_of}

-- these are the records of the bytes, and the journal has the summary, the last images and the last offsets of each
pub record HasRecords {D : Type 0} (j : JournalState D) (list : List JournalRecord) (bytes : List ℕ) : Type 0 where
  pub list_is : records bytes ≡ Whole list
  pub page_count : page_count_of (take 32 bytes) ≡ j.pages
  pub shown : j.summaries ≡ map summary_of list
  pub journal : IsJournal j.pages j.end j.next j.is_closed list bytes
  pub images : (page : ℕ) → image_of page j.images ≡ last_image page list None
  pub offsets : (page : ℕ) → slice_index_or j.offsets page None ≡ last_offset page 32 list None
