-- What holds of a transaction that holds its space while it commits.
use Rattle.std.specs.Prelude.{ℕ, ◌≡◌, ◌≤◌, ◌<◌, ◌++◌, ◌^◌, max, true, List, [], ◌∷◌, length, map, take, drop, Option, Some, None, unwrap_or}
use Rattle.std.specs.FinMap as images
use Rattle.std.specs.FinMap.{contains_key}
use Rattle.std.specs.FinSet as set
use Rattle.std.specs.List.{range_with_len}
use Rattle.atomic_table.specs.Seated.{TableId}
use Rattle.pm3_core.specs.declared.events.TheConstants.{PLACES}
use Rattle.pm3_core.specs.declared.naming.TheConstants.{BASE}
use Rattle.pm3_disk.specs.Faults.{Rose}
use Rattle.pm3_disk.specs.declared.outside.Disk.{Ghosts}
use Rattle.pm3_types.specs.Fields.{Fields}
use Rattle.pm3_types.specs.PassMoves.{Move, moves_of, wanted_by}
use Rattle.pm3_page.specs.PageSheets.{sheets_of}
use Rattle.pm3_access.specs.declared.parted.Parted.{Parted}
use Rattle.pm3_access.specs.Acts.{found_images, left_images, space_left}
use Rattle.pm3_access.specs.Holding.{Holding}
use Rattle.pm3_access.specs.Parting.{joined}
use Rattle.pm3_access.specs.Parts.{SpaceRest}
use Rattle.pm3_graph.specs.declared.operations.Op.{Op}
use Rattle.pm3_graph.specs.Operation.{IsRun}
use Rattle.pm3_history.specs.Entry.{Done, Pass}
use Rattle.pm3_history.specs.Opens.{Opens}
use Rattle.pm3_history.specs.State.{State, now}
use Rattle.pm3_journal.specs.declared.entry.Entry.{Entry}
use Rattle.pm3_journal.specs.declared.entry.Receipt.{Receipt}
use Rattle.pm3_journal.specs.JournalState.{HasRoom}
use Rattle.pm3_table.specs.declared.unit.Limit.TheVariants.{Journal}
use Rattle.pm3_table.specs.declared.view.Deed.{Deed}
use Rattle.pm3_table.specs.declared.view.Told.{Told}
use Rattle.pm3_table.specs.declared.view.View.{View}
use Rattle.pm3_table.specs.Holds.{holds_of}
use Rattle.pm3_table.specs.Ops.{gave}
use Rattle.pm3_table.specs.Reads.{read_of}
use Rattle.pm3_table.specs.Telling.{Lawful}
use Rattle.pm3_table.specs.Words.{turn_unit}
use Rattle.pm3_txn.specs.declared.commit_fault.CommitEnd.{CommitEnd}
use Rattle.pm3_txn.specs.declared.commit_fault.CommitEnd.TheVariants as end
use Rattle.pm3_txn.specs.declared.commit_fault.CommitFault.{CommitFault}
use Rattle.pm3_txn.specs.declared.commit_fault.CommitFault.TheVariants.{Refused, Ended}
use Rattle.pm3_txn.specs.declared.prepared.Prepared.{Prepared}
use Rattle.pm3_txn.specs.CarriedPass.{Carried, parts_of, pass_by}
use Rattle.pm3_txn.specs.CommitParts.{HasMoreFree, IsPassOver}
use Rattle.pm3_txn.specs.Committing.{AreFiled, AreWritable, IsDoneOf, IsEntryOf}
use Rattle.pm3_txn.specs.Frontiers.{IsTop}
use Rattle.pm3_txn.specs.Knowing.{state_seen}
use Rattle.pm3_txn.specs.PassCommits.{done_with}
use Rattle.pm3_txn.specs.PassEnding.{HasFailedPass, HasGivenPass}
use Rattle.pm3_txn.specs.PassSteps.{IsPassRefusal}
use Rattle.pm3_txn.specs.States.{MutatorState, TxnState}
use Rattle.pm3_txn.specs.Underway.{Belongs, HoldsNothing}
use Rattle.pm3_txn.specs.Values.{IsTurnOf, TurnState, WasStopped, moves_of as moved_in, pins_of}
use Rattle.pm3_txn.specs.Works.{Works}

-- The turn has this value after all that the view has seen.
pub record HasTurnValue {D R : Type 0} (g : Ghosts D R) (told : Told) (v : View) (turn : TurnState D R) : Type 0 where
  pub good : IsTurnOf g told v.lost v.seen (turn_unit told.pages) turn
  pub heard : v.faults ≡ g.faults turn.journal.disk
  pub lawful_lost : Lawful told (v.seen ++ v.lost)

-- the words that the last scan read in the places of all rows
abbrev pub words_read : List Deed → List ℕ
words_read log = map (λ n. unwrap_or (read_of log n) 0) (range_with_len 0 PLACES)

-- the rest of a space; where there is none, that of one without pages
abbrev pub rest_in : Option SpaceRest → SpaceRest
rest_in None = record { number = 0; found = images.empty; free = set.empty; room = 0; first = None; current = None; drawn = [] }
rest_in (Some s) = s

-- what was carried out over these parts with what was prepared, by a view with this log, where the parts are these now
abbrev pub carried_of : Parted → Prepared → List Deed → Parted → Carried
carried_of p x log left = record {
  volatile = p.volatile;
  written = p.written;
  others = p.rest.pages;
  found = p.rest.found;
  space = rest_in p.rest.space;
  words = words_read log;
  pins = x.pins;
  fresh = x.fresh.images;
  space_now = left.volatile.images;
  written_now = left.written.images;
}

-- the moves that were planned
abbrev pub moves_planned : List Fields → Parted → Prepared → List Move
moves_planned catalog p x =
    let space = sheets_of p.volatile.images in let fresh = images.keys x.fresh.images in let wanted = wanted_by catalog BASE space x.plan.promoted in
    moves_of catalog BASE space x.plan.promoted (take wanted fresh) ++ moves_of catalog BASE space x.plan.kept (drop wanted fresh)

-- the commit of this pass, by an entry of the journal
abbrev pub commit_of : {R : Type 0} → Told → MutatorState R → Parted → Prepared → Parted → Entry → Done
commit_of told m p x left e =
    let c : Carried = carried_of p x m.pass.1.log left in
    done_with (record { tag = e.tag; mutator = m.pass.1.row; next_name = e.next_name; high_page = e.high_page }) (joined (parts_of c))
    (pass_by m.space m.next_name m.pass.1.names c (moves_planned told.opening.catalog p x))

-- The entry is one of the commit, with these written images and this tag, behind the marks of the turn, and its journal has room for it.
pub record MayAppend {D R : Type 0} (told : Told) (next tag : ℕ) (turn : TurnState D R) (p : Parted) (e : Entry) (d : Done) : Type 0 where
  pub entry : IsEntryOf told.opening.catalog tag turn p.written.images e
  pub done : IsDoneOf e p.written.images d
  pub name : e.next_name ≡ max turn.next_name next
  pub tag_low : tag < 2 ^ 32
  pub writes : AreWritable told.opening.catalog told.pages p.written.images
  pub filed : AreFiled told.opening.catalog p.written.images
  pub room : HasRoom turn.journal.room (length e.pages.items)

-- the commit has come to the history, and its record to the journal
pub record HasAppended {D R : Type 0} (turn : TurnState D R) (old new : MutatorState R) (d : Done) (receipt : Receipt) : Type 0 where
  pub given : HasGivenPass old new (d ∷ []) [] new.pass.1.faults
  pub heard : old.pass.1.faults ≤ new.pass.1.faults
  pub receipt_is : receipt ≡ record { seq = turn.journal.next; pinned = pins_of d.pass; moved = moved_in d.pass }

-- why the append was refused
abbrev pub IsAppendEnd : {D R : Type 0} → Told → TurnState D R → MutatorState R → MutatorState R → Done → CommitEnd → Type 0
IsAppendEnd told turn old new d end.JournalFault = HasFailedPass old new (d ∷ []) × Rose old.pass.1.faults new.pass.1.faults
IsAppendEnd told turn old new d (end.Full what limit) = HasFailedPass old new [] × (what ≡ Journal) × (limit ≡ 2 ^ 30)
IsAppendEnd told turn old new d (end.Stopped seq) = HasFailedPass old new [] × WasStopped told seq turn.journal.next new.pass.1.faults

abbrev pub IsAppendFault : {D R : Type 0} → (R → Option (List ℕ)) → TableId × Told → TurnState D R → MutatorState R → Done → CommitFault D R → Type 0
IsAppendFault content heap turn m d (Refused cause txn) = ⊥
IsAppendFault content heap turn m d (Ended cause mutator) = IsAppendEnd heap.1 turn m mutator d cause × HoldsNothing mutator × Belongs content heap mutator

-- The commit is one of what is held with its space, with this tag, by this mutator, and its marks come behind those of the turn.
pub record IsSpaceCommit {D R : Type 0} (h : Holding) (tag : ℕ) (turn : TurnState D R) (m : MutatorState R) (d : Done) : Type 0 where
  pub marks : (d.tag ≡ tag) × (d.mutator ≡ m.pass.1.row) × (d.next_name ≡ max turn.next_name m.next_name)
  pub top : IsTop (λ p. contains_key d.written p ≡ true) turn.high_page d.high_page
  pub found : d.found ≡ found_images h
  pub left : d.left ≡ left_images h
  pub pass : (p : Pass) × (d.pass ≡ Some p) × IsPassOver h m.space p

-- a transaction that had the turn has committed with its space
pub record HasCommittedSpace {D R : Type 0} (told : Told) (h : Holding) (tag : ℕ) (turn : TurnState D R) (old new : MutatorState R) (receipt : Receipt) : Type 0 where
  pub commit : Done
  pub is : IsSpaceCommit h tag turn old commit
  pub appended : HasAppended turn old new commit receipt
  pub run : (st : State) → Opens BASE told.pages told.opening st → (ops : List (Op × ℕ)) → Works told.opening.catalog told.pages (state_seen told old.pass.1 st) h ops
      → IsRun told.opening.catalog ops (now told.opening.catalog BASE st old.pass.1.seen).graph (now told.opening.catalog BASE st new.pass.1.seen).graph

-- The transaction goes on as it was, with more free pages in its space, once the turn was given back without a commit.
pub record HasGoneOn {R : Type 0} (heap : TableId × Told) (h : Holding) (tag : ℕ) (old : MutatorState R) (new : TxnState R) : Type 0 where
  pub rest : new ≡ record { heap = heap; mutator = new.mutator; held = new.held; tag = tag }
  pub given : HasGivenPass old new.mutator [] [] new.mutator.pass.1.faults
  pub heard : old.pass.1.faults ≤ new.mutator.pass.1.faults
  pub holds : (u : ℕ) → holds_of new.mutator.pass.1.holds u ≡ holds_of (gave old.pass.1 (turn_unit heap.1.pages)).holds u
  pub held : HasMoreFree h new.held

-- it has ended with its commit
abbrev pub IsSpaceEnd : {D R : Type 0} → (R → Option (List ℕ)) → TableId × Told → Holding → ℕ → TurnState D R → MutatorState R → CommitFault D R → Type 0
IsSpaceEnd content heap h tag turn m (Refused cause txn) = ⊥
IsSpaceEnd content heap h tag turn m (Ended cause mutator) = ((d : Done) × IsSpaceCommit h tag turn m d × IsAppendEnd heap.1 turn m mutator d cause) × HoldsNothing mutator × Belongs content heap mutator

-- why a commit with a space gave no receipt
abbrev pub IsSpaceFault : {D R : Type 0} → (R → Option (List ℕ)) → TableId × Told → Holding → ℕ → TurnState D R → MutatorState R → CommitFault D R → Type 0
IsSpaceFault content heap h tag turn m (Refused cause txn) = HasGoneOn heap h tag m txn × IsPassRefusal heap.1 m txn.mutator (contains_key (space_left h.space)) cause
IsSpaceFault content heap h tag turn m (Ended cause mutator) = ((d : Done) × IsSpaceCommit h tag turn m d × IsAppendEnd heap.1 turn m mutator d cause) × HoldsNothing mutator × Belongs content heap mutator
