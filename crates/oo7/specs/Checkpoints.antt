-- How a checkpoint ends, and what a crash in it leaves.
use Rattle.std.specs.Prelude.{◌≡◌, [], None, Ok, Err}
use Rattle.pm3_disk.specs.Content.{IfTold}
use Rattle.pm3_disk.specs.declared.outside.Disk.{Ghosts}
use Rattle.pm3_types.specs.Graph.{Part}
use Rattle.pm3_journal.specs.Records.{records, Whole}
use Rattle.pm3_store.specs.Creation.{Files, AreSynced, NoneHasFailed}
use Rattle.pm3_store.specs.Standing.{AreOpenTo, AreRead, JournalStands, PagesStand, Stands}
use Rattle.oo7.specs.Opening.{IsRefused}
use Rattle.oo7.specs.Output.{Outcome}

module _ {D R : Type 0} (g : Ghosts D R) where
  -- the files open to the graph that they opened to, the journal has no record, and a crash leaves both as they are
  pub record IsCarried (old new : Files D) : Type 0 where
    pub honest : NoneHasFailed g old new
    pub graph : (graph : Part) → AreOpenTo g old graph → AreOpenTo g new graph
    pub emptied : IfTold (g.content new.journal) (λ bytes. records bytes ≡ Whole [])
    pub synced : AreSynced g new

  -- done, or refused with its cause
  abbrev pub CheckpointEnds : Files D → Files D → Outcome → Type 0
  CheckpointEnds old new (Ok output) = (output ≡ None) × IsCarried old new
  CheckpointEnds old new (Err refusal) = IsRefused g old new refusal

  -- The two files were read and synced. From then on what a crash leaves of the page file, with the journal as it was, opens to
  -- the graph that they opened to, and so does what it leaves of the journal, with the page file as it became.
  pub record StandThroughout (old new : Files D) : Type 0 where
    pub opened : Files D
    pub read : AreRead g old opened
    pub synced : AreSynced g opened
    pub pages : (graph : Part) → AreOpenTo g old graph → PagesStand g opened new graph
    pub journal : (graph : Part) → AreOpenTo g old graph → JournalStands g opened new graph
    pub exit : (graph : Part) → AreOpenTo g old graph → Stands g new graph
