-- How a heap is closed.
use Rattle.std.specs.Prelude.{ℕ, ◌≡◌, ◌++◌, ◌+◌, ◌^◌, ◌≤◌, ◌<◌, true, List, length, Option, Some}
use Rattle.std.specs.FinMap as map
use Rattle.atomic_table.specs.Seated.{TableId}
use Rattle.pm3_disk.specs.declared.outside.Disk.{Ghosts}
use Rattle.pm3_types.specs.Layout.{PageImage, Sheet}
use Rattle.pm3_journal.specs.Journals.{Keeps}
use Rattle.pm3_journal.specs.declared.opened.Opened.{Opened}
use Rattle.pm3_table.specs.declared.view.Told.{Told}
use Rattle.pm3_table.specs.declared.view.View.{View}
use Rattle.pm3_table.specs.Counts.{counts, counted_under}
use Rattle.pm3_table.specs.Histories.{by}
use Rattle.pm3_table.specs.Ops.{saw_made}
use Rattle.pm3_table.specs.Rule.{count_view}
use Rattle.pm3_table.specs.Telling.{Lawful}
use Rattle.pm3_table.specs.Words.{turn_unit}
use Rattle.pm3_table.specs.Passes.{Becomes}
use Rattle.pm3_types.specs.Fields.{Fields}
use Rattle.pm3_txn.specs.declared.close_fault.HeapCloseFault.{HeapCloseFault}
use Rattle.pm3_txn.specs.declared.close_fault.HeapCloseFault.TheVariants.{NotAll, Memory}
use Rattle.pm3_txn.specs.declared.close_fault.TableFault.{TableFault}
use Rattle.pm3_txn.specs.declared.close_fault.TableFault.TheVariants as table
use Rattle.pm3_txn.specs.declared.values.Turn.{Turn as Turns}
use Rattle.pm3_txn.specs.declared.values.Value.{Value}
use Rattle.pm3_txn.specs.Draining.{EndsWithTurn}
use Rattle.pm3_txn.specs.Gathering.{AreImagesOf}
use Rattle.pm3_txn.specs.States.{MutatorState}
use Rattle.pm3_txn.specs.Takes.{with_view}
use Rattle.pm3_txn.specs.Underway.{Belongs, HoldsNothing}
use Rattle.pm3_txn.specs.Values.{IsPageOf, IsTurnOf, TurnState, last_known}

-- What the last mutator has seen is the whole history, which is lawful, also with the failed commit that it keeps. Each of the
-- mutators made is the last one or one that it keeps, with its commits.
pub record HasSeenAll (told : Told) (v : View) : Type 0 where
  pub lawful : Lawful told v.seen
  pub lawful_failed : Lawful told (v.seen ++ v.failed)
  pub kept : (k : ℕ) → k < length v.kept + 1
      → (counts v.row (count_view v) k ≡ true) × (counted_under v.row (count_view v) k ≡ by k v.seen)

-- What went with the turn stands for that history, its journal keeps its records, and the journal's disk has counted no fewer
-- faults than the mutator has seen. Its page file is that of the store as it was opened.
pub record IsLastTurn {D R : Type 0} (g : Ghosts D R) (told : Told) (v : View) (t : TurnState D R) : Type 0 where
  pub stands : IsTurnOf g told v.failed v.seen (turn_unit told.pages) t
  pub keeps : Keeps g t.journal
  pub heard : v.faults ≤ g.faults t.journal.disk
  pub tells : g.content t.file ≡ told.opening.file

-- A store as it stands after that history: its journal, its marks and its page file are those of the turn, and its images are the last ones of their pages. Each page that a commit wrote, or that was among the opened images,
-- has one.
pub record IsLastStore {D R : Type 0} (g : Ghosts D R) (told : Told) (v : View) (s : Opened D R) : Type 0 where
  pub turn : TurnState D R
  pub last : IsLastTurn g told v turn
  pub journal : s.journal ≡ turn.journal
  pub marks : s.marks ≡ record { pages = told.pages; high_page = turn.high_page; next_name = turn.next_name; next_seq = turn.journal.next }
  pub catalog : s.catalog ≡ told.opening.catalog
  pub file : s.pages ≡ turn.file
  pub images : (page : ℕ) (image : PageImage) → map.get s.images.images page ≡ Some image → IsPageOf told v.seen page image
  pub known : (page : ℕ) (sheet : Sheet) → page < told.pages → last_known told.opening v.seen page ≡ Some sheet
      → map.get s.images.images page ≡ Some (record { page = page; sheet = sheet })

-- The store has the journal, the page file and the marks that went with the turn, the last of the homes, this catalog, and the
-- images of the homes.
pub record IsStoreOf {D R : Type 0} (g : Ghosts D R) (homes : List (Option (Value D R))) (pages : ℕ) (catalog : List Fields) (s : Opened D R) : Type 0 where
  pub turn : Turns D R
  pub ends : EndsWithTurn homes turn
  pub keeps : Keeps g turn.journal
  pub due : turn.journal.next < 2 ^ 64
  pub rest : s ≡ record s {
    pages = turn.file;
    journal = turn.journal;
    catalog = catalog;
    marks = record { pages = pages; high_page = turn.high_page; next_name = turn.next_name; next_seq = turn.journal.next };
  }
  pub images : AreImagesOf homes s.images.images

-- the disks are the page file and that of the journal that went with the turn, the last of the homes
abbrev pub AreLastDisks : {D R : Type 0} → Ghosts D R → List (Option (Value D R)) → D → D → Type 0
AreLastDisks {D} {R} g homes file disk = (turn : Turns D R) × EndsWithTurn homes turn × Keeps g turn.journal × (file ≡ turn.file) × (disk ≡ turn.journal.disk)

-- the disks are those of what went with the turn, which stands after the whole history
abbrev pub AreDisksAfter : {D R : Type 0} → Ghosts D R → Told → View → D → D → Type 0
AreDisksAfter {D} {R} g told v file disk = HasSeenAll told v
    × ((t : TurnState D R) × IsLastTurn g told v t × (file ≡ t.file) × (disk ≡ t.journal.disk))

-- why a table was not closed
abbrev pub IsTableFault : {D R : Type 0} → Ghosts D R → TableId × Told → TableId × View → TableFault D R → Type 0
IsTableFault g heap pass (table.NotAll made joined same last) =
    (joined ≡ length pass.1.kept + 1) × (joined < made) × (made < 33) × (same ≡ heap) × Becomes pass last (saw_made pass.1 made)
IsTableFault g heap pass (table.Memory pages journal) = AreDisksAfter g heap.1 pass.1 pages journal

-- Why a heap was not closed: more mutators were seen made than were joined, and the heap and the mutator come back, as they were
-- but for that number; or there was no memory, and the two devices and the reader come back.
abbrev pub IsHeapCloseFault : {D R : Type 0} → Ghosts D R → TableId × Told → MutatorState R → HeapCloseFault D R → Type 0
IsHeapCloseFault g heap m (NotAll made joined same last) =
    (joined ≡ length m.pass.1.kept + 1) × (joined < made) × (made < 33) × (same ≡ heap) × (last ≡ with_view m (saw_made m.pass.1 made))
IsHeapCloseFault g heap m (Memory pages journal reader) = AreDisksAfter g heap.1 m.pass.1 pages journal × (reader ≡ m.reader)

-- a heap that was not closed goes on with its last mutator, which holds nothing
abbrev pub MayGoOn : {D R : Type 0} → (R → Option (List ℕ)) → HeapCloseFault D R → Type 0
MayGoOn content (NotAll made joined heap last) = Belongs content heap last × HoldsNothing last
MayGoOn content (Memory pages journal reader) = Unit {0}
