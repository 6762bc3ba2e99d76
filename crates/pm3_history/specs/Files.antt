-- When the records of a journal are those of a history, and what files then open to.
use Rattle.std.specs.Prelude.{ℕ, ◌≡◌, ◌++◌, true, List, [], ◌∷◌, take, Some, None, is_some, Ok}
use Rattle.std.specs.FinMap.{get}
use Rattle.pm3_types.specs.Fields.{Fields}
use Rattle.pm3_types.specs.Graph.{Part}
use Rattle.pm3_types.specs.Layout.{Sheet}
use Rattle.pm3_types.specs.Reached.{IsClosure}
use Rattle.pm3_page.specs.PageBytes.{page_read}
use Rattle.pm3_journal.specs.Format.{JournalRecord}
use Rattle.pm3_journal.specs.FileHead.{page_count_of}
use Rattle.pm3_journal.specs.Opening.{OpenTo, image_in}
use Rattle.pm3_journal.specs.Records.{records, Whole}
use Rattle.pm3_history.specs.Entry.{Done}
use Rattle.pm3_history.specs.State.{State, now}
use Rattle.pm3_history.specs.Opens.{Origin, Opens, LawfulFrom}

-- the record has the marks of the commit and the images that it wrote, as they are in a file
pub record IsRecordOf (catalog : List Fields) (base pages : ℕ) (d : Done) (r : JournalRecord) : Type 0 where
  pub tag : r.tag ≡ d.tag
  pub next_name : r.next_name ≡ d.next_name
  pub high_page : r.high_page ≡ d.high_page
  pub images : (page : ℕ) (bytes : List ℕ) → image_in page r.parts None ≡ Some bytes
      → (sheet : Sheet) × (get d.written page ≡ Some sheet) × (page_read catalog base pages page bytes ≡ Ok sheet)
  pub written : (page : ℕ) (sheet : Sheet) → get d.written page ≡ Some sheet → is_some (image_in page r.parts None) ≡ true

-- the records are those of the commits, one for each in order
abbrev pub AreRecordsOf : List Fields → ℕ → ℕ → List Done → List JournalRecord → Type 0
AreRecordsOf catalog base pages [] [] = Unit {0}
AreRecordsOf catalog base pages [] (r ∷ rs) = ⊥
AreRecordsOf catalog base pages (d ∷ ds) [] = ⊥
AreRecordsOf catalog base pages (d ∷ ds) (r ∷ rs) = IsRecordOf catalog base pages d r × AreRecordsOf catalog base pages ds rs

-- Where the journal has gone on from an opening by the records of a beginning of a lawful history, the files open to the closure
-- of the graph after that beginning.
abbrev pub FilesOpen : Type 0
FilesOpen = (base pages : ℕ) (o : Origin) (st : State) (opens : Opens base pages o st) (journal : List ℕ) (h more : List Done) (rs : List JournalRecord)
    → page_count_of (take 32 journal) ≡ pages → records journal ≡ Whole (opens.opens.list ++ rs) → AreRecordsOf o.catalog base pages h rs
    → LawfulFrom base pages o (h ++ more)
    → (g : Part) × OpenTo base opens.page_file journal g × IsClosure o.catalog (now o.catalog base st h).graph g
