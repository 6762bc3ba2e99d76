-- For what the values of the table's slots stand.
use Rattle.std.specs.Prelude.{ℕ, ◌≡◌, ◌≢◌, ◌⊎◌, ◌*◌, ◌^◌, ◌<◌, ◌≤◌, ◌==◌, true, cond, List, [], ◌∷◌, ◌++◌, length, Option, Some, None, unwrap_or, Ok, ◌&&◌, ◌||◌, Bool}
use Rattle.std.specs.Option.{option_or}
use Rattle.std.specs.FinMap as map
use Rattle.std.specs.FinSet as set
use Rattle.pm3_core.specs.declared.naming.TheConstants.{BASE}
use Rattle.pm3_disk.specs.Content.{IfTold}
use Rattle.pm3_disk.specs.Faults.{Rose}
use Rattle.pm3_disk.specs.declared.outside.Disk.{Ghosts}
use Rattle.pm3_types.specs.Bytes.{piece}
use Rattle.pm3_types.specs.Fields.{Fields}
use Rattle.pm3_types.specs.Layout.{PageImage, Sheet}
use Rattle.pm3_types.specs.PageForm.{HasForm, is_memory_reference}
use Rattle.pm3_types.specs.Shown.{Images}
use Rattle.pm3_page.specs.PageMap as page_map
use Rattle.pm3_page.specs.PageBytes.{file_bytes, page_read}
use Rattle.pm3_page.specs.PageSheets.{sheets_of}
use Rattle.pm3_access.specs.Holding.{SpaceState}
use Rattle.pm3_journal.specs.Format.{JournalRecord}
use Rattle.pm3_journal.specs.JournalState.{JournalState}
use Rattle.pm3_journal.specs.Journals.{Keeps, failed_list}
use Rattle.pm3_journal.specs.Opened.{IsOpenStore}
use Rattle.pm3_journal.specs.Opening.{image_in}
use Rattle.pm3_journal.specs.Reading.{next_seq}
use Rattle.pm3_journal.specs.Records.{records, Whole}
use Rattle.pm3_journal.specs.Summaries.{Summary}
use Rattle.pm3_journal.specs.declared.opened.Opened.{Opened}
use Rattle.pm3_history.specs.Entry.{Done, Pass}
use Rattle.pm3_history.specs.Files.{AreRecordsOf}
use Rattle.pm3_history.specs.LastImages.{last_written}
use Rattle.pm3_history.specs.Opens.{Origin, Opens}
use Rattle.pm3_history.specs.State.{State, now}
use Rattle.pm3_table.specs.declared.view.Told.{Told}
use Rattle.pm3_table.specs.Entries.{writes}
use Rattle.pm3_table.specs.Histories.{some_has}
use Rattle.pm3_table.specs.Words.{space_unit, turn_unit}
use Rattle.pm3_txn.specs.Knowing.{is_in_use}
use Rattle.pm3_txn.specs.OwnStarts.{starts_in}

-- the last image of a page that a commit wrote or that was opened
abbrev pub last_known : Origin → List Done → ℕ → Option Sheet
last_known o h page = option_or (last_written h page) (map.get o.images page)

-- the images of a space after its last pass, or none where it had no pass
abbrev pub after_pass : Option Pass → ℕ → Option Images
after_pass None space = None
after_pass (Some p) space = cond (p.space == space) (Some p.after) None

abbrev pub space_left : List Done → ℕ → Option Images
space_left [] space = None
space_left (d ∷ ds) space = option_or (space_left ds space) (after_pass d.pass space)

-- A page's value after a history: it has the form, and is the page's last image, also where that is known from the opened
-- images, from a commit or from the bytes of the page file alone.
pub record IsPageOf (told : Told) (h : List Done) (u : ℕ) (image : PageImage) : Type 0 where
  pub low : (2 ≤ u) × (u < told.pages)
  pub home : image.page ≡ u
  pub form : HasForm told.opening.catalog (is_in_use told h) u image.sheet
  pub known : (sheet : Sheet) → last_known told.opening h u ≡ Some sheet → image.sheet ≡ sheet
  pub loaded : last_known told.opening h u ≡ None → IfTold told.opening.file (λ bytes.
      page_read told.opening.catalog BASE told.frontier u (piece (4096 * u) 4096 bytes) ≡ Ok image.sheet)
  pub last : (st : State) → Opens BASE told.pages told.opening st
      → map.get (now told.opening.catalog BASE st h).pages u ≡ Some image.sheet

-- After a history the word may be a reference on a page of a space with these images: to a page in use, or to where an object of the
-- space begins.
abbrev pub space_use : Told → List Done → page_map.Images → ℕ → Bool
space_use told h images a = is_in_use told h a || (is_memory_reference BASE told.pages a && starts_in images a)

-- A space's value: its images are those of the space's last pass, or none, and have the form; no free page has an image.
pub record IsSpaceOf (told : Told) (h : List Done) (u : ℕ) (s : SpaceState) : Type 0 where
  pub unit : u ≡ space_unit told.pages s.number
  pub low : s.number < 32
  pub last : sheets_of s.images ≡ unwrap_or (space_left h s.number) map.empty
  pub sound : (page : ℕ) (image : PageImage) → map.get s.images page ≡ Some image
      → (image.page ≡ page) × (3 ≤ page) × (page < told.pages) × HasForm told.opening.catalog (space_use told h s.images) image.page image.sheet
  pub free : (page : ℕ) → set.contains s.free page ≡ true → (3 ≤ page) × (page < told.pages) × (map.get s.images page ≡ None)

-- what goes with the turn: the journal, the marks with which the next commit begins, and the store as it was opened
pub record TurnState (D R : Type 0) : Type 0 where
  pub journal : JournalState D
  pub next_name : ℕ
  pub high_page : ℕ
  pub file : D
  pub opened : Opened D R

-- the summary of a commit's record
abbrev pub pins_of : Option Pass → ℕ
pins_of None = 0
pins_of (Some p) = set.len p.pinned

abbrev pub moves_of : Option Pass → ℕ
moves_of None = 0
moves_of (Some p) = length p.moves

abbrev pub summary_at : ℕ → Done → Summary
summary_at seq d = record {
  seq = seq;
  next_name = d.next_name;
  tag = d.tag;
  high_page = d.high_page;
  pins = pins_of d.pass;
  moved = moves_of d.pass;
  pages = map.keys d.written;
}

-- the summaries of the records of commits, the first with this number, and the number that is due behind them
abbrev pub summaries_from : ℕ → List Done → List Summary
summaries_from due [] = []
summaries_from due (d ∷ ds) = summary_at due d ∷ summaries_from (next_seq due) ds

abbrev pub due_after : ℕ → List Done → ℕ
due_after due [] = due
due_after due (d ∷ ds) = due_after (next_seq due) ds

-- what the journal's disk tells, where the journal is not stopped; else the disk may have one record more than the journal
abbrev pub where_whole : Option ℕ → Option (List ℕ) → Option (List ℕ)
where_whole None told = told
where_whole (Some n) told = None

-- what is told of a store as it was opened
abbrev pub origin_of : {D R : Type 0} → Ghosts D R → Opened D R → Origin
origin_of g s = record {
  catalog = s.catalog;
  images = sheets_of s.images.images;
  summaries = s.journal.summaries;
  due = s.journal.next;
  file = g.content s.pages;
  journal = where_whole s.journal.stopped (g.content s.journal.disk);
  faults = g.faults s.journal.disk;
  stopped = s.journal.stopped;
}

-- The records that the journal's disk tells are those of the opening and then these of the history; after an append that failed,
-- they may have that record besides.
abbrev pub HasRecords : {D R : Type 0} → Ghosts D R → JournalState D → List JournalRecord → Type 0
HasRecords g j list = IfTold (g.content j.disk) (λ bytes. (j.stopped ≡ None → records bytes ≡ Whole list)
    × ((records bytes ≡ Whole list) ⊎ (records bytes ≡ Whole (list ++ failed_list j.failed))))

-- what the record has of each page is written of the sheet as which it reads
abbrev pub IsFiledRecord : List Fields → ℕ → JournalRecord → Type 0
IsFiledRecord catalog pages r = (page : ℕ) (bytes : List ℕ) → image_in page r.parts None ≡ Some bytes
    → (sheet : Sheet) × (page_read catalog BASE pages page bytes ≡ Ok sheet) × (file_bytes catalog BASE (record { page = page; sheet = sheet }) ≡ bytes)

abbrev pub AreFiledRecords : List Fields → ℕ → List JournalRecord → Type 0
AreFiledRecords catalog pages [] = Unit {0}
AreFiledRecords catalog pages (r ∷ rs) = IsFiledRecord catalog pages r × AreFiledRecords catalog pages rs

-- The journal that is stopped at a number was stopped so when it was opened, or a fault was counted since, when that number was
-- due.
abbrev pub WasStopped : Told → ℕ → ℕ → ℕ → Type 0
WasStopped told n due faults = (told.opening.stopped ≡ Some n) ⊎ (Rose told.opening.faults faults × (n ≡ due))

-- the next name after a history: that of the last commit, or the first one
abbrev pub next_name_after : ℕ → List Done → ℕ
next_name_after first [] = first
next_name_after first (d ∷ ds) = next_name_after d.next_name ds

-- The turn's value: its journal has the opening's records and then those of the history, and the marks are those of the last
-- record, or those that were opened. Where a commit failed, the journal is stopped, with that commit's record. The commits write
-- pages of the store from 2 on.
pub record IsTurnOf {D R : Type 0} (g : Ghosts D R) (told : Told) (lost h : List Done) (u : ℕ) (t : TurnState D R) : Type 0 where
  pub unit : u ≡ turn_unit told.pages
  pub origin : origin_of g t.opened ≡ told.opening
  pub file_is : t.file ≡ t.opened.pages
  pub opened_well : IsOpenStore g t.opened
  pub opened_keeps : Keeps g t.opened.journal
  pub page_count : (t.journal.pages ≡ told.pages) × (t.opened.marks.pages ≡ told.pages)
  pub summaries : t.journal.summaries ≡ told.opening.summaries ++ summaries_from told.opening.due h
  pub due : t.journal.next ≡ due_after told.opening.due h
  pub bounds : (1 ≤ t.next_name) × (t.next_name ≤ 2 ^ 62) × (3 ≤ t.high_page) × (t.high_page ≤ told.pages)
  pub last : (front : List Summary) (s : Summary) → t.journal.summaries ≡ front ++ s ∷ []
      → (t.next_name ≡ s.next_name) × (t.high_page ≡ s.high_page)
  pub marks : (st : State) → Opens BASE told.pages told.opening st
      → (t.next_name ≡ (now told.opening.catalog BASE st h).next_name) × (t.high_page ≡ (now told.opening.catalog BASE st h).high_page)
  pub name_is : t.next_name ≡ next_name_after told.next_name h
  pub none : t.journal.summaries ≡ [] → (t.next_name ≡ t.opened.marks.next_name) × (t.high_page ≡ t.opened.marks.high_page)
  pub records_are : (first : List ℕ) (old : List JournalRecord) → t.opened.journal.stopped ≡ None → told.opening.journal ≡ Some first
      → records first ≡ Whole old
      → (new : List JournalRecord) × AreRecordsOf told.opening.catalog BASE told.pages h new × HasRecords g t.journal (old ++ new)
      × AreFiledRecords told.opening.catalog told.pages new
  pub tells : t.journal.stopped ≡ None → told.opening.journal ≡ None → g.content t.journal.disk ≡ None
  pub within : (page : ℕ) → some_has writes h page ≡ true → (2 ≤ page) × (page < told.pages)
  pub later : told.opening.faults ≤ g.faults t.journal.disk
  pub stopped_at : (n : ℕ) → t.journal.stopped ≡ Some n → WasStopped told n t.journal.next (g.faults t.journal.disk)
  pub halted : lost ≢ [] → t.journal.stopped ≢ None
  pub whole : lost ≡ [] → t.opened.journal.stopped ≡ None → t.journal.stopped ≡ None
  pub failed : (d : Done) → lost ≡ d ∷ [] → (t.journal.stopped ≢ None)
      × ((r : JournalRecord) × (t.journal.failed ≡ Some r) × AreRecordsOf told.opening.catalog BASE told.pages (d ∷ []) (r ∷ []))
