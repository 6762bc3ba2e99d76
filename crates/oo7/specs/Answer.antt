-- How a call of the program ends, and why.
use Rattle.std.specs.Prelude.{◌≡◌, ◌⊎◌, ℕ, ◌<◌, Bool, List, [], length, Option, Some, None, Ok, Err}
use Rattle.pm3_disk.specs.Devices.{HasFailed, IsKept, WasEmpty}
use Rattle.pm3_disk.specs.declared.outside.Disk as disk
use Rattle.pm3_disk.specs.declared.outside.Sink as sink
use Rattle.oo7_schema.specs.Schema.{schema}
use Rattle.pm3_store.specs.Creation.{Files, files, AreCreated, AreOnward, AreSynced, HasStore, JournalHasFailed, NoneHasFailed, PagesHaveFailed}
use Rattle.pm3_store.specs.Standing.{AreRead}
use Rattle.oo7.specs.Checkpoints.{CheckpointEnds, StandThroughout}
use Rattle.oo7.specs.Dumps.{DumpEnds}
use Rattle.oo7.specs.Output.{Delivers, Outcome, status_of, printed_of}
use Rattle.oo7.specs.Words.{command_of}
use Rattle.oo7.specs.declared.refusal.Refusal.TheVariants.{Usage, PageFault, JournalFault, PageDamaged, JournalDamaged, Memory, Exists, Later}
use Rattle.oo7.specs.declared.top.Done.{Done}
use Rattle.oo7.specs.declared.words.Command.{Command}
use Rattle.oo7.specs.declared.words.Command.TheVariants.{Create, Checkpoint, Dump, NotYet}

-- a call of the program: what its words ask for, the two files before and after it, and the status
pub record Call (D : Type 0) : Type 0 where
  pub command : Option Command
  pub before : Files D
  pub after : Files D
  pub status : ℕ

-- the call with these words on a page file and a journal, which left two files with a status
abbrev pub call_of : {D : Type 0} → List (List ℕ) → Files D → Files D → ℕ → Call D
call_of words before after status = record { command = command_of words; before = before; after = after; status = status }

-- the call that ended so
abbrev pub called : {D : Type 0} → List (List ℕ) → D → D → Done D → Call D
called words pages journal done = call_of words (files pages journal) (files done.pages done.journal) done.status

module _ {D R : Type 0} (g : disk.Ghosts D R) where
  -- how the making of a store of so many pages ends
  abbrev pub CreateEnds : ℕ → Files D → Files D → Outcome → Type 0
  CreateEnds count old new (Ok output) = (output ≡ None) × WasEmpty g old.pages × AreCreated g count schema old new × NoneHasFailed g old new
  CreateEnds count old new (Err Exists) = HasStore g (λ length. 0 < length) old new
  CreateEnds count old new (Err PageFault) = PagesHaveFailed g count old new
  CreateEnds count old new (Err JournalFault) = JournalHasFailed g old new
  CreateEnds count old new (Err Usage) = ⊥
  CreateEnds count old new (Err (PageDamaged offset)) = ⊥
  CreateEnds count old new (Err (JournalDamaged offset)) = ⊥
  CreateEnds count old new (Err Memory) = ⊥
  CreateEnds count old new (Err Later) = ⊥

  -- how a call ends, by what was asked for
  abbrev pub HasReason : Option Command → Files D → Files D → Outcome → Type 0
  HasReason None old new outcome = (outcome ≡ Err Usage) × (new ≡ old)
  HasReason (Some NotYet) old new outcome = (outcome ≡ Err Later) × (new ≡ old)
  HasReason (Some (Create count)) old new outcome = CreateEnds count old new outcome
  HasReason (Some Checkpoint) old new outcome = CheckpointEnds g old new outcome
  HasReason (Some Dump) old new outcome = DumpEnds g old new outcome

  -- the call ended in one way, of which the status, the printed line and the reason are
  pub record Answers {K : Type 0} (k : sink.Ghosts K) (call : Call D) (old new : K) : Type 0 where
    pub outcome : Outcome
    pub is_taken : Bool
    pub status_is : call.status ≡ status_of is_taken outcome
    pub prints : Delivers k is_taken (printed_of outcome) old new
    pub reason : HasReason call.command call.before call.after outcome
    pub onward : AreOnward g call.before call.after

  -- a store that was asked for, in an empty page file, is made where no device fails
  abbrev pub Completes : Call D → Type 0
  Completes call =
      (count : ℕ) → call.command ≡ Some (Create count) → g.content call.before.pages ≡ Some []
      → ¬ (HasFailed g call.before.pages call.after.pages) → ¬ (HasFailed g call.before.journal call.after.journal) → call.status ≡ 0

  -- where a store is to be made, a page file with bytes in it is never changed, and then no call is made on the journal
  abbrev pub Spares : Call D → Type 0
  Spares call =
      (count : ℕ) (bytes : List ℕ) → call.command ≡ Some (Create count) → g.content call.before.pages ≡ Some bytes → 0 < length bytes
      → IsKept g call.before.pages call.after.pages × (call.after.journal ≡ call.before.journal)

  -- where a store was asked for and the status is 0, its two files are there, and a crash leaves them
  abbrev pub Makes : Call D → Type 0
  Makes call =
      (count : ℕ) → call.command ≡ Some (Create count) → call.status ≡ 0 → AreCreated g count schema call.before call.after × AreSynced g call.after

  -- where a dump was asked for, the files were only read
  abbrev pub Reads : Call D → Type 0
  Reads call = call.command ≡ Some Dump → AreRead g call.before call.after

  -- Where a checkpoint was asked for, the files were only read, or from their opening on whatever a crash leaves of them opens
  -- to the graph that they opened to.
  abbrev pub Stops : Call D → Type 0
  Stops call = call.command ≡ Some Checkpoint → AreRead g call.before call.after ⊎ StandThroughout g call.before call.after
