-- What holds of a transaction while it commits.
use Rattle.std.specs.Prelude.{ℕ, ◌≡◌, ◌≢◌, ◌↔◌, ◌≤◌, ◌<◌, ◌++◌, ◌^◌, true, List, [], ◌∷◌, length, Option, Some, None, Ok, map}
use Rattle.std.specs.FinMap as images
use Rattle.std.specs.FinMap.{contains_key}
use Rattle.atomic_table.specs.Seated.{TableId}
use Rattle.pm3_core.specs.declared.naming.TheConstants.{BASE}
use Rattle.pm3_disk.specs.Faults.{Rose}
use Rattle.pm3_disk.specs.declared.outside.Disk.{Ghosts}
use Rattle.pm3_types.specs.Fields.{Fields}
use Rattle.pm3_types.specs.PageForm.{IsSound}
use Rattle.pm3_types.specs.Layout.{PageImage, Sheet}
use Rattle.pm3_page.specs.PageBytes.{file_bytes, page_read}
use Rattle.pm3_page.specs.PageMap.{Images}
use Rattle.pm3_page.specs.PageSheets.{sheets_of}
use Rattle.pm3_access.specs.declared.parted.Parted.{Parted}
use Rattle.pm3_access.specs.Acts.{left_images, found_images}
use Rattle.pm3_access.specs.Holding.{Holding}
use Rattle.pm3_access.specs.Parting.{joined, CanRejoin}
use Rattle.pm3_access.specs.Parts.{AreWritten, AreUnwritten}
use Rattle.pm3_journal.specs.declared.entry.Entry.{Entry}
use Rattle.pm3_journal.specs.declared.entry.Receipt.{Receipt}
use Rattle.pm3_journal.specs.declared.faults.AppendFault.{AppendFault}
use Rattle.pm3_journal.specs.declared.faults.AppendFault.TheVariants as append
use Rattle.pm3_journal.specs.Pages.{page_at}
use Rattle.pm3_graph.specs.declared.operations.Op.{Op}
use Rattle.pm3_graph.specs.Operation.{IsRun}
use Rattle.pm3_history.specs.Entry.{Done}
use Rattle.pm3_history.specs.Opens.{Opens}
use Rattle.pm3_history.specs.State.{State, now}
use Rattle.pm3_table.specs.declared.unit.Limit.TheVariants.{Journal}
use Rattle.pm3_table.specs.declared.view.Told.{Told}
use Rattle.pm3_table.specs.declared.view.View.{View}
use Rattle.pm3_table.specs.Holds.{holds_of}
use Rattle.pm3_table.specs.Ops.{gave}
use Rattle.pm3_table.specs.Telling.{Lawful, MayJoin}
use Rattle.pm3_table.specs.Words.{turn_unit}
use Rattle.pm3_txn.specs.declared.commit_fault.CommitEnd.{CommitEnd}
use Rattle.pm3_txn.specs.declared.commit_fault.CommitFault.{CommitFault}
use Rattle.pm3_txn.specs.declared.commit_fault.CommitFault.TheVariants.{Refused, Ended}
use Rattle.pm3_txn.specs.declared.commit_fault.CommitRefusal.TheVariants.{Memory}
use Rattle.pm3_txn.specs.declared.commit_fault.CommitEnd.TheVariants as end
use Rattle.pm3_txn.specs.declared.values.Turn.{Turn as Turns}
use Rattle.pm3_txn.specs.Aborting.{HasCleared, was_written}
use Rattle.pm3_txn.specs.CommitParts.{HasOnlySeen}
use Rattle.pm3_txn.specs.Frontiers.{IsTop}
use Rattle.pm3_txn.specs.Owners.{IsHolding}
use Rattle.pm3_txn.specs.Runs.{RunsAfter}
use Rattle.pm3_txn.specs.States.{MutatorState}
use Rattle.pm3_txn.specs.Underway.{Belongs, HoldsNothing, IsUnder}
use Rattle.pm3_txn.specs.Values.{IsTurnOf, TurnState, WasStopped, moves_of, pins_of}

-- the pages of an entry that has these images: in order, each with its bytes in a file
abbrev pub file_items : List Fields → Images → List (ℕ × List ℕ)
file_items catalog written = map (λ e. (e.0, file_bytes catalog BASE e.1)) (images.entries written)

-- images that have the form of pages, under their own numbers, in a store of so many pages
abbrev pub AreWritable : List Fields → ℕ → Images → Type 0
AreWritable catalog pages written = (page : ℕ) (image : PageImage) → images.get written page ≡ Some image
    → (image.page ≡ page) × (2 ≤ page) × (page < pages) × IsSound catalog BASE pages image

-- the bytes of an image in a file are those of a page, and read as the image in each store in which it has its form
pub record IsFiled (catalog : List Fields) (image : PageImage) : Type 0 where
  pub long : length (file_bytes catalog BASE image) ≡ 4096
  pub back : (pages : ℕ) → pages ≤ 16384 → IsSound catalog BASE pages image
      → page_read catalog BASE pages image.page (file_bytes catalog BASE image) ≡ Ok image.sheet

abbrev pub AreFiled : List Fields → Images → Type 0
AreFiled catalog written = (page : ℕ) (image : PageImage) → images.get written page ≡ Some image → IsFiled catalog image

-- one of the items is of the page
abbrev pub HasItem : List (ℕ × List ℕ) → ℕ → Type 0
HasItem items page = (i : ℕ) × (i < length items) × (page_at items i ≡ page)

-- nothing of the turn changed but the room in its journal
abbrev pub HasMadeRoom : {D R : Type 0} → Turns D R → Turns D R → Type 0
HasMadeRoom old new = new ≡ record old { journal = record old.journal { room = new.journal.room } }

-- the commit of a transaction that is parted, by this entry of the journal
abbrev pub done_by : ℕ → Entry → Parted → Done
done_by row entry parted = record {
  tag = entry.tag;
  mutator = row;
  next_name = entry.next_name;
  high_page = entry.high_page;
  found = found_images (joined parted);
  left = left_images (joined parted);
  written = sheets_of parted.written.images;
  pass = None;
}

-- A mutator has the turn, with this value, and holds what a transaction does besides.
pub record HasTurn {D R : Type 0} (g : Ghosts D R) (content : R → Option (List ℕ)) (heap : TableId × Told) (m : MutatorState R) (turn : TurnState D R)
    (h : Holding) : Type 0 where
  pub belongs : Belongs content heap m
  pub holds : holds_of m.pass.1.holds (turn_unit heap.1.pages) ≡ true
  pub good : IsTurnOf g heap.1 m.pass.1.lost m.pass.1.seen (turn_unit heap.1.pages) turn
  pub heard : m.pass.1.faults ≡ g.faults turn.journal.disk
  pub holding : IsHolding heap.1 (gave m.pass.1 (turn_unit heap.1.pages)) m.space h
  pub under : IsUnder heap.1 (gave m.pass.1 (turn_unit heap.1.pages)) h
  pub lawful_lost : Lawful heap.1 (m.pass.1.seen ++ m.pass.1.lost)

-- what a transaction holds is parted into what it wrote and the rest
pub record IsParted (p : Parted) : Type 0 where
  pub rejoin : CanRejoin p
  pub written : AreWritten (joined p).pages p.written.images
  pub others : AreUnwritten (joined p).pages p.rest.pages.images

-- the entry is one of what was written, with the marks behind those of the turn
pub record IsEntryFor {D R : Type 0} (catalog : List Fields) (tag : ℕ) (turn : TurnState D R) (written : Images) (e : Entry) : Type 0 where
  pub tag_is : e.tag ≡ tag
  pub name : e.next_name ≡ turn.next_name
  pub top : IsTop (λ p. contains_key written p ≡ true) turn.high_page e.high_page
  pub none : (e.pins ≡ 0) × (e.moved ≡ 0)
  pub pages : e.pages.items ≡ file_items catalog written

-- The entry is one of these written images, with this tag. Its next name and its high page are not before those of the turn.
pub record IsEntryOf {D R : Type 0} (catalog : List Fields) (tag : ℕ) (turn : TurnState D R) (written : Images) (e : Entry) : Type 0 where
  pub tag_is : e.tag ≡ tag
  pub names : (turn.next_name ≤ e.next_name) × (e.next_name ≤ 2 ^ 62)
  pub top : IsTop (λ p. contains_key written p ≡ true) turn.high_page e.high_page
  pub few : (e.pins < 2 ^ 32) × (e.moved < 2 ^ 32)
  pub pages : e.pages.items ≡ file_items catalog written

-- the commit has the marks and the counts of an entry, and these images
pub record IsDoneOf (e : Entry) (written : Images) (d : Done) : Type 0 where
  pub tag : d.tag ≡ e.tag
  pub next_name : d.next_name ≡ e.next_name
  pub high_page : d.high_page ≡ e.high_page
  pub written_is : d.written ≡ sheets_of written
  pub pins : pins_of d.pass ≡ e.pins
  pub moved : moves_of d.pass ≡ e.moved

-- the turn as it is given back after commits, of which some joined the history, and others failed
pub record MayGive {D R : Type 0} (g : Ghosts D R) (told : Told) (v : View) (turn : TurnState D R) (more failed : List Done) : Type 0 where
  pub good : IsTurnOf g told (v.lost ++ failed) (v.seen ++ more) (turn_unit told.pages) turn
  pub heard : v.faults ≤ g.faults turn.journal.disk
  pub may : MayJoin told v more failed

-- The commit is one of what is held, with this tag, by the mutator of this row, and its marks come behind those of the turn.
pub record IsCommitFor {D R : Type 0} (h : Holding) (tag row : ℕ) (turn : TurnState D R) (d : Done) : Type 0 where
  pub marks : (d.tag ≡ tag) × (d.mutator ≡ row) × (d.next_name ≡ turn.next_name)
  pub top : IsTop (λ p. contains_key d.written p ≡ true) turn.high_page d.high_page
  pub found : d.found ≡ found_images h
  pub left : d.left ≡ left_images h
  pub written : (page : ℕ) (sheet : Sheet) → (images.get d.written page ≡ Some sheet)
      ↔ ((images.get (left_images h) page ≡ Some sheet) × (images.get (found_images h) page ≢ Some sheet))
  pub pass : d.pass ≡ None

-- The turn was given back with these commits, when so many faults were counted; so were other units. All else is as it was.
pub record HasGivenTurn {R : Type 0} (old new : MutatorState R) (more failed : List Done) (faults : ℕ) : Type 0 where
  pub rest : HasOnlySeen old new
  pub seen : new.pass.1.seen ≡ old.pass.1.seen ++ more
  pub mine : new.pass.1.mine ≡ old.pass.1.mine ++ more
  pub failed_are : new.pass.1.failed ≡ old.pass.1.failed ++ failed
  pub heard : new.pass.1.faults ≡ faults

-- a transaction that had the turn has committed
pub record HasRecorded {D R : Type 0} (told : Told) (h : Holding) (tag : ℕ) (turn : TurnState D R) (old new : MutatorState R) (receipt : Receipt) : Type 0 where
  pub commit : Done
  pub is : IsCommitFor h tag old.pass.1.row turn commit
  pub given : HasGivenTurn old new (commit ∷ []) [] new.pass.1.faults
  pub heard : old.pass.1.faults ≤ new.pass.1.faults
  pub receipt_is : receipt ≡ record { seq = turn.journal.next; pinned = 0; moved = 0 }
  pub run : (st : State) → Opens BASE told.pages told.opening st → (ops : List (Op × ℕ)) → RunsAfter told old.pass.1 h st ops
      → IsRun told.opening.catalog ops (now told.opening.catalog BASE st old.pass.1.seen).graph (now told.opening.catalog BASE st new.pass.1.seen).graph

-- it has ended, where these commits failed
pub record HasFailed {R : Type 0} (old new : MutatorState R) (failed : List Done) : Type 0 where
  pub last : MutatorState R
  pub given : HasGivenTurn old last [] failed new.pass.1.faults
  pub heard : old.pass.1.faults ≤ new.pass.1.faults
  pub cleared : HasCleared last new (was_written old)

-- why it has ended
abbrev pub IsEndOf : {D R : Type 0} → Told → Holding → ℕ → TurnState D R → MutatorState R → MutatorState R → CommitEnd → Type 0
IsEndOf told h tag turn old new end.JournalFault =
    (d : Done) × IsCommitFor h tag old.pass.1.row turn d × HasFailed old new (d ∷ []) × Rose old.pass.1.faults new.pass.1.faults
IsEndOf told h tag turn old new (end.Full what limit) = HasFailed old new [] × (what ≡ Journal) × (limit ≡ 2 ^ 30)
IsEndOf told h tag turn old new (end.Stopped seq) = HasFailed old new [] × WasStopped told seq turn.journal.next new.pass.1.faults

-- the cause of a commit's end, by that of an append
abbrev pub end_of : AppendFault → CommitEnd
end_of (append.Stopped seq) = end.Stopped seq
end_of (append.Full limit) = end.Full Journal limit
end_of append.JournalFault = end.JournalFault

-- the commits that failed by an append: this one, where its device failed
abbrev pub failed_by : AppendFault → Done → List Done
failed_by (append.Stopped seq) d = []
failed_by (append.Full limit) d = []
failed_by append.JournalFault d = d ∷ []

-- A commit that gave no receipt: there was no memory, and the turn was given back; or the transaction has ended.
abbrev pub IsFaultOf : {D R : Type 0} → (R → Option (List ℕ)) → TableId × Told → Holding → ℕ → TurnState D R → MutatorState R → CommitFault D R → Type 0
IsFaultOf content heap h tag turn m (Refused cause txn) = (cause ≡ Memory) × (txn ≡ record { heap = heap; mutator = txn.mutator; held = h; tag = tag })
    × HasGivenTurn m txn.mutator [] [] txn.mutator.pass.1.faults × (m.pass.1.faults ≤ txn.mutator.pass.1.faults)
    × ((u : ℕ) → holds_of txn.mutator.pass.1.holds u ≡ holds_of (gave m.pass.1 (turn_unit heap.1.pages)).holds u)
IsFaultOf content heap h tag turn m (Ended cause mutator) = IsEndOf heap.1 h tag turn m mutator cause × HoldsNothing mutator × Belongs content heap mutator
