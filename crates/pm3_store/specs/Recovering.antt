-- A journal that was just recovered, and the pictures that are made of its images.
use Rattle.std.specs.Prelude.{◌≡◌, ℕ, ◌+◌, ◌*◌, ◌^◌, ◌<◌, ◌≤◌, true, List, [], length, Option, get_or, slice_index_or, Some, None, is_some, Ok, Err}
use Rattle.std.specs.FinMap.{get}
use Rattle.pm3_disk.specs.Content.{IfTold}
use Rattle.pm3_disk.specs.Devices.{HasFailed, HasNotFailed}
use Rattle.pm3_disk.specs.declared.outside.Disk.{Ghosts}
use Rattle.pm3_types.specs.Fields.{Fields}
use Rattle.pm3_types.specs.Layout.{PageImage, Sheet}
use Rattle.pm3_types.specs.PageForm.{IsSound}
use Rattle.pm3_page.specs.PageBytes.{page_read}
use Rattle.pm3_page.specs.PageMap.{Images}
use Rattle.pm3_journal.specs.Format.{JournalRecord}
use Rattle.pm3_journal.specs.JournalState.{JournalState}
use Rattle.pm3_journal.specs.Offsets.{has_offset}
use Rattle.pm3_journal.specs.Opened.{IsHeldFrom}
use Rattle.pm3_journal.specs.Pages.{image_of, IsRising, page_at}
use Rattle.pm3_journal.specs.Recovered.{HasRecords}
use Rattle.pm3_journal.specs.Summaries.{has_page}
use Rattle.pm3_journal.specs.declared.faults.RecoverFault.{RecoverFault}
use Rattle.pm3_journal.specs.declared.faults.RecoverFault.TheVariants.{Damaged}
use Rattle.pm3_journal.specs.declared.faults.RecoverFault.TheVariants as faults
use Rattle.pm3_store.specs.declared.causes.OpenCause.{OpenCause}
use Rattle.pm3_store.specs.declared.causes.OpenCause.TheVariants.{JournalFault, JournalDamaged, PageFault, PageDamaged, Memory}

-- the journal isn't stopped, and has its records, with the last images of their pages and the offsets of these
pub record IsRecovered {D R : Type 0} (g : Ghosts D R) (j : JournalState D) : Type 0 where
  pub idle : j.stopped ≡ None
  pub pages : (16 ≤ j.pages) × (j.pages ≤ 16384)
  pub next : (1 ≤ j.next) × (j.next < 2 ^ 64)
  pub held : (page : ℕ) → is_some (image_of page j.images) ≡ has_page j.summaries page
  pub placed : (page : ℕ) → has_offset (slice_index_or j.offsets page None) ≡ has_page j.summaries page
  pub within : (page : ℕ) → has_page j.summaries page ≡ true → (2 ≤ page) × (page < j.pages)
  pub told : IfTold (g.content j.disk) (λ bytes. (list : List JournalRecord) × HasRecords j list bytes)

-- a journal of which no more than the number that is due is set, and the images are taken
pub record IsSameJournal {D : Type 0} (old new : JournalState D) : Type 0 where
  pub disk : new.disk ≡ old.disk
  pub stopped : new.stopped ≡ old.stopped
  pub summaries : new.summaries ≡ old.summaries
  pub offsets : new.offsets ≡ old.offsets
  pub since : new.since ≡ old.since
  pub pages : new.pages ≡ old.pages

-- why a journal wasn't recovered, as a cause
abbrev pub cause_of : RecoverFault → OpenCause
cause_of faults.JournalFault = JournalFault
cause_of (Damaged offset) = JournalDamaged offset
cause_of faults.Memory = Memory

-- the image at an index
abbrev pub bytes_at : List (ℕ × List ℕ) → ℕ → List ℕ
bytes_at items i = (get_or items i (0, [])).1

-- the first `count` of these images are held, each as it is read, and no others
pub record ArePictures (catalog : List Fields) (base pages : ℕ) (items : List (ℕ × List ℕ)) (count : ℕ) (images : Images) : Type 0 where
  pub each : (i : ℕ) → i < count → IsHeldFrom catalog base pages (page_at items i) images (bytes_at items i)
  pub only : (page : ℕ) (image : PageImage) → get images page ≡ Some image
      → (i : ℕ) × (i < count) × (page_at items i ≡ page) × (image.page ≡ page) × IsSound catalog base pages image

-- this image departs from the form, and none before it
pub record IsFirstBad (catalog : List Fields) (base pages : ℕ) (items : List (ℕ × List ℕ)) (offsets : List (Option ℕ)) (cause : OpenCause) : Type 0 where
  pub rising : IsRising items
  pub index : ℕ
  pub word : ℕ
  pub place : ℕ
  pub low : index < length items
  pub read : page_read catalog base pages (page_at items index) (bytes_at items index) ≡ Err word
  pub at : slice_index_or offsets (page_at items index) None ≡ Some place
  pub is : cause ≡ JournalDamaged (place + 8 * word)
  pub earlier : (i : ℕ) → i < index → (sheet : Sheet) × (page_read catalog base pages (page_at items i) (bytes_at items i) ≡ Ok sheet)

-- a device failed exactly where it is the cause
abbrev pub IsCauseOf : {D R : Type 0} → Ghosts D R → D → D → D → D → OpenCause → Type 0
IsCauseOf g pages pages_now journal journal_now JournalFault = HasNotFailed g pages pages_now × HasFailed g journal journal_now
IsCauseOf g pages pages_now journal journal_now (JournalDamaged offset) = HasNotFailed g pages pages_now × HasNotFailed g journal journal_now
IsCauseOf g pages pages_now journal journal_now PageFault = HasFailed g pages pages_now × HasNotFailed g journal journal_now
IsCauseOf g pages pages_now journal journal_now (PageDamaged offset) = HasNotFailed g pages pages_now × HasNotFailed g journal journal_now
IsCauseOf g pages pages_now journal journal_now Memory = HasNotFailed g pages pages_now × HasNotFailed g journal journal_now
