-- What holds of a store that is open.
use Rattle.std.specs.Prelude.{ℕ, ◌≡◌, ◌*◌, ◌<◌, ◌≤◌, true, List, [], ◌∷◌, ◌++◌, length, Option, Some, None, is_some, Ok}
use Rattle.std.specs.FinMap.{get}
use Rattle.pm3_core.specs.declared.naming.TheConstants.{BASE}
use Rattle.pm3_disk.specs.Content.{IfTold}
use Rattle.pm3_disk.specs.declared.outside.Disk.{Ghosts}
use Rattle.pm3_types.specs.Bytes.{piece}
use Rattle.pm3_types.specs.Fields.{Fields}
use Rattle.pm3_types.specs.Layout.{PageImage, Sheet}
use Rattle.pm3_types.specs.PageForm.{IsSound}
use Rattle.pm3_types.specs.PageOne.{catalog_page}
use Rattle.pm3_page.specs.Head.{AreMarks, head_page}
use Rattle.pm3_page.specs.PageBytes.{file_bytes, page_read}
use Rattle.pm3_page.specs.PageMap.{Images}
use Rattle.pm3_page.specs.declared.marks.Marks.{Marks}
use Rattle.pm3_journal.specs.Format.{JournalRecord}
use Rattle.pm3_journal.specs.JournalState.{JournalState}
use Rattle.pm3_journal.specs.Opening.{last_image, page_bytes}
use Rattle.pm3_journal.specs.Records.{records, Whole}
use Rattle.pm3_journal.specs.Summaries.{Summary, has_page}
use Rattle.pm3_journal.specs.declared.opened.Opened.{Opened}

-- This holds of the records that the journal's disk tells, where the journal isn't stopped. After an append that failed
-- the disk may tell one record more.
abbrev pub IfRecorded : {D R : Type 0} → Ghosts D R → JournalState D → (List JournalRecord → Type 0) → Type 0
IfRecorded g j holds = j.stopped ≡ None → IfTold (g.content j.disk) (λ told. (list : List JournalRecord)
    → records told ≡ Whole list → holds list)

-- this page's image is held as it is read from these bytes, and they are those that are written of it
pub record IsHeldFrom (catalog : List Fields) (base pages page : ℕ) (images : Images) (bytes : List ℕ) : Type 0 where
  pub sheet : Sheet
  pub held : get images page ≡ Some (record { page = page; sheet = sheet })
  pub read : page_read catalog base pages page bytes ≡ Ok sheet
  pub written : file_bytes catalog base (record { page = page; sheet = sheet }) ≡ bytes

-- Of a store whose page file tells these bytes, or none: the marks are within their bounds and agree with the journal; each
-- image that is held has the form of a page; and the catalog, the marks and the images are those of the files.
pub record IsOpen {D R : Type 0} (g : Ghosts D R) (base : ℕ) (file : Option (List ℕ)) (j : JournalState D)
    (catalog : List Fields) (images : Images) (marks : Marks) : Type 0 where
  pub bounds : AreMarks marks
  pub page_count : marks.pages ≡ j.pages
  pub number : marks.next_seq ≡ j.next
  pub last : (front : List Summary) (s : Summary) → j.summaries ≡ front ++ s ∷ []
      → (marks.next_name ≡ s.next_name) × (marks.high_page ≡ s.high_page)
  pub sound : (page : ℕ) (image : PageImage) → get images page ≡ Some image
      → (image.page ≡ page) × (2 ≤ page) × (page < marks.pages) × IsSound catalog base marks.pages image
  pub recorded : (page : ℕ) → 2 ≤ page → has_page j.summaries page ≡ true → is_some (get images page) ≡ true
  pub recorded_last : IfRecorded g j (λ list. (page : ℕ) (bytes : List ℕ) → 2 ≤ page → last_image page list None ≡ Some bytes
      → IsHeldFrom catalog base marks.pages page images bytes)
  pub size : IfTold file (λ bytes. length bytes ≡ 4096 * marks.pages)
  pub head : IfTold file (λ bytes. j.summaries ≡ [] → piece 0 4096 bytes ≡ head_page marks)
  pub catalog_is : IfTold file (λ bytes. IfRecorded g j (λ list. page_bytes bytes list 1 ≡ catalog_page catalog))
  pub others : IfTold file (λ bytes. IfRecorded g j (λ list. (page : ℕ) (image : PageImage)
      → get images page ≡ Some image → last_image page list None ≡ None
      → page_read catalog base marks.pages page (piece (4096 * page) 4096 bytes) ≡ Ok image.sheet))

-- what holds of an open store between two calls
abbrev pub IsOpenStore : {D R : Type 0} → Ghosts D R → Opened D R → Type 0
IsOpenStore g s = IsOpen g BASE (g.content s.pages) s.journal s.catalog s.images.images s.marks
