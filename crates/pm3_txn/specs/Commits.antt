-- What the commit of a transaction makes of its mutator, and why it is refused.
use Rattle.std.specs.Prelude.{ℕ, ◌≡◌, ◌≢◌, ◌↔◌, ◌≤◌, ◌^◌, ◌++◌, max, true, false, List, [], ◌∷◌, Option, Some, None, is_some, slice_index_or}
use Rattle.std.specs.FinMap.{get, contains_key}
use Rattle.atomic_table.specs.Seated.{TableId}
use Rattle.pm3_core.specs.declared.naming.TheConstants.{BASE}
use Rattle.pm3_core.specs.Naming.{Names}
use Rattle.pm3_disk.specs.Faults.{Rose}
use Rattle.pm3_graph.specs.declared.operations.Op.{Op}
use Rattle.pm3_graph.specs.Operation.{IsRun}
use Rattle.pm3_types.specs.Layout.{Sheet}
use Rattle.pm3_access.specs.Acts.{left_images, found_images, space_left}
use Rattle.pm3_access.specs.Holding.{HeldSpaceState, Holding}
use Rattle.pm3_journal.specs.declared.entry.Receipt.{Receipt}
use Rattle.pm3_history.specs.Entry.{Done, Pass}
use Rattle.pm3_history.specs.Opens.{Opens}
use Rattle.pm3_history.specs.State.{State, now}
use Rattle.pm3_table.specs.declared.unit.Unit.TheVariants.{Turn}
use Rattle.pm3_table.specs.declared.unit.Limit.TheVariants.{Journal, Pages}
use Rattle.pm3_table.specs.declared.view.Told.{Told}
use Rattle.pm3_table.specs.Deeds.{word_of}
use Rattle.pm3_table.specs.Holds.{holds_of}
use Rattle.pm3_table.specs.Ops.{refused}
use Rattle.pm3_table.specs.Words.{turn_unit}
use Rattle.pm3_txn.specs.declared.commit_fault.CommitRefusal.{CommitRefusal}
use Rattle.pm3_txn.specs.declared.commit_fault.CommitRefusal.TheVariants.{Busy, Full, Memory, Later}
use Rattle.pm3_txn.specs.declared.commit_fault.CommitFault.{CommitFault}
use Rattle.pm3_txn.specs.declared.commit_fault.CommitFault.TheVariants.{Refused, Ended}
use Rattle.pm3_txn.specs.declared.commit_fault.CommitEnd.{CommitEnd}
use Rattle.pm3_txn.specs.declared.commit_fault.CommitEnd.TheVariants as end
use Rattle.pm3_txn.specs.Aborting.{HasCleared, was_written}
use Rattle.pm3_txn.specs.CommitParts.{HasMoreFree, HasOnlyPassed, HasOnlySeen, IsPassOver}
use Rattle.pm3_txn.specs.Frontiers.{IsTop}
use Rattle.pm3_txn.specs.Knowing.{state_seen}
use Rattle.pm3_txn.specs.States.{MutatorState, TxnState, told_in, view_in}
use Rattle.pm3_txn.specs.Takes.{with_view}
use Rattle.pm3_txn.specs.Touching.{Advances, nothing_more}
use Rattle.pm3_txn.specs.Underway.{Belongs, HoldsNothing}
use Rattle.pm3_txn.specs.Values.{WasStopped, due_after, moves_of, next_name_after, pins_of}
use Rattle.pm3_txn.specs.Works.{Works}

-- What a commit writes: the pages that are not as they were found; or what the pass over the space that is held leaves.
abbrev pub IsWrittenBy : {R : Type 0} → TxnState R → Option HeldSpaceState → Done → Type 0
IsWrittenBy t None d = (d.pass ≡ None) × ((page : ℕ) (sheet : Sheet) → (get d.written page ≡ Some sheet)
    ↔ ((get (left_images t.held) page ≡ Some sheet) × (get (found_images t.held) page ≢ Some sheet)))
IsWrittenBy t (Some s) d = (p : Pass) × (d.pass ≡ Some p) × IsPassOver t.held t.mutator.space p

-- The commit is one of what the transaction holds.
pub record IsCommitBy {R : Type 0} (t : TxnState R) (d : Done) : Type 0 where
  pub tag : d.tag ≡ t.tag
  pub mutator : d.mutator ≡ (view_in t).row
  pub found : d.found ≡ found_images t.held
  pub left : d.left ≡ left_images t.held
  pub written : IsWrittenBy t t.held.space d

-- the next name behind one, or with a space the greater of it and of the one that the mutator has noted
abbrev pub name_with : Option HeldSpaceState → ℕ → ℕ → ℕ
name_with None next noted = next
name_with (Some s) next noted = max next noted

-- its marks come after those of a history: the next name is above all names that were drawn, and the high page above all pages that it
-- writes
pub record HasMarksAfter {R : Type 0} (t : TxnState R) (h : List Done) (d : Done) : Type 0 where
  pub name : d.next_name ≡ name_with t.held.space (next_name_after (told_in t).next_name h) t.mutator.next_name
  pub page : (st : State) → Opens BASE (told_in t).pages (told_in t).opening st
      → IsTop (λ p. contains_key d.written p ≡ true) (now (told_in t).opening.catalog BASE st h).high_page d.high_page

-- The mutator is as it was, but for what it has seen; and, with a space, for its marks and its pages.
abbrev pub HasKept : {R : Type 0} → Option HeldSpaceState → MutatorState R → MutatorState R → Type 0
HasKept None old new = HasOnlySeen old new
HasKept (Some s) old new = HasOnlyPassed old new

-- The commit has come to the history behind those of others, and its record to the journal. The operations of the transaction, with the
-- answers that they had, lead from the graph before it to the graph after it.
pub record HasCommitted {R : Type 0} (old : TxnState R) (new : MutatorState R) (receipt : Receipt) : Type 0 where
  pub between : List Done
  pub commit : Done
  pub by : IsCommitBy old commit
  pub marks : HasMarksAfter old ((view_in old).seen ++ between) commit
  pub seen : new.pass.1.seen ≡ ((view_in old).seen ++ between) ++ commit ∷ []
  pub mine : new.pass.1.mine ≡ (view_in old).mine ++ commit ∷ []
  pub failed : new.pass.1.failed ≡ (view_in old).failed
  pub receipt_is : receipt ≡ record { seq = due_after (told_in old).opening.due ((view_in old).seen ++ between); pinned = pins_of commit.pass; moved = moves_of commit.pass }
  pub run : (st : State) → Opens BASE (told_in old).pages (told_in old).opening st → (ops : List (Op × ℕ))
      → Works (told_in old).opening.catalog (told_in old).pages (state_seen (told_in old) (view_in old) st) old.held ops
      → IsRun (told_in old).opening.catalog ops (now (told_in old).opening.catalog BASE st ((view_in old).seen ++ between)).graph
      (now (told_in old).opening.catalog BASE st new.pass.1.seen).graph
  pub heard : (view_in old).faults ≤ new.pass.1.faults
  pub rest : HasKept old.held.space old.mutator new

-- what is held is as it was, but for free pages of a space
abbrev pub IsHeldStill : Option HeldSpaceState → Holding → Holding → Type 0
IsHeldStill None old new = new ≡ old
IsHeldStill (Some s) old new = HasMoreFree old new

-- The transaction is as it was, but for what its mutator has seen and for free pages of its space.
pub record IsAsBefore {R : Type 0} (old new : TxnState R) : Type 0 where
  pub rest : new ≡ record old { mutator = new.mutator; held = new.held }
  pub held : IsHeldStill old.held.space old.held new.held
  pub seen : HasKept old.held.space old.mutator new.mutator
  pub holds : (u : ℕ) → holds_of (view_in new).holds u ≡ holds_of (view_in old).holds u
  pub own : ((view_in new).mine ≡ (view_in old).mine) × ((view_in new).failed ≡ (view_in old).failed)
  pub goes_on : Advances old new nothing_more

-- a reference of the row leads to a page of the space
abbrev pub NamesOwnPage : {R : Type 0} → TxnState R → Type 0
NamesOwnPage t = (q : ℕ) × (page : ℕ) × (slice_index_or t.mutator.refs q false ≡ true) × (contains_key (space_left t.held.space) page ≡ true)
    × Names (told_in t).pages (word_of (view_in t).log q) page

-- Why a commit was refused: the turn's word showed another holder; the store has no page left that the pass wants; there was no memory;
-- or a reference of the row leads to a page of the space, as one does where the page would stay in it.
abbrev pub IsCommitRefusal : {R : Type 0} → TxnState R → TxnState R → CommitRefusal → Type 0
IsCommitRefusal old new (Busy unit word) = (unit ≡ Turn) × (word ≢ 0)
    × (new ≡ record old { mutator = with_view old.mutator (refused (view_in old) (turn_unit (told_in old).pages) word) })
IsCommitRefusal old new (Full what limit) = (is_some old.held.space ≡ true) × IsAsBefore old new × (what ≡ Pages) × (limit ≡ (told_in old).pages)
    × ((view_in new).filled ≡ 0 ∷ (view_in old).filled)
IsCommitRefusal old new Memory = IsAsBefore old new × ((view_in new).filled ≡ (view_in old).filled)
IsCommitRefusal old new Later = (is_some old.held.space ≡ true) × IsAsBefore old new × ((view_in new).filled ≡ (view_in old).filled) × NamesOwnPage old

-- The transaction has ended as by an abort, once its mutator had seen more of the history.
pub record HasEnded {R : Type 0} (old : TxnState R) (new : MutatorState R) : Type 0 where
  pub between : List Done
  pub last : MutatorState R
  pub more : last.pass.1.seen ≡ (view_in old).seen ++ between
  pub seen : HasKept old.held.space old.mutator last
  pub mine : last.pass.1.mine ≡ (view_in old).mine
  pub heard : (view_in old).faults ≤ last.pass.1.faults
  pub cleared : HasCleared last new (was_written old.mutator)

-- Why it ended: the journal's device failed, and the commit is kept as one that failed; its record would not end within the limit; or
-- the journal was stopped before.
abbrev pub IsCommitEnd : {R : Type 0} → TxnState R → MutatorState R → CommitEnd → Type 0
IsCommitEnd old new end.JournalFault = (ended : HasEnded old new) × (d : Done) × IsCommitBy old d × HasMarksAfter old ended.last.pass.1.seen d
    × (ended.last.pass.1.failed ≡ (view_in old).failed ++ d ∷ []) × Rose (view_in old).faults new.pass.1.faults
IsCommitEnd old new (end.Full what limit) = (ended : HasEnded old new) × (ended.last.pass.1.failed ≡ (view_in old).failed) × (what ≡ Journal) × (limit ≡ 2 ^ 30)
IsCommitEnd old new (end.Stopped seq) = (ended : HasEnded old new) × (ended.last.pass.1.failed ≡ (view_in old).failed)
    × WasStopped (told_in old) seq (due_after (told_in old).opening.due ended.last.pass.1.seen) new.pass.1.faults

-- How a commit gave no receipt. A transaction that has ended holds nothing.
abbrev pub IsCommitFault : {D R : Type 0} → (R → Option (List ℕ)) → TxnState R → CommitFault D R → Type 0
IsCommitFault content old (Refused cause txn) = IsCommitRefusal old txn cause
IsCommitFault content old (Ended cause mutator) = IsCommitEnd old mutator cause × HoldsNothing mutator × Belongs content old.heap mutator

-- a transaction that was refused has the heap that it had
abbrev pub IsOverHeap : {D R : Type 0} → TableId × Told → CommitFault D R → Type 0
IsOverHeap heap (Refused cause txn) = txn.heap ≡ heap
IsOverHeap heap (Ended cause mutator) = Unit {0}
