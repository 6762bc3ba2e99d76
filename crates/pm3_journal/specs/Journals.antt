-- What holds of a journal between two calls.
use Rattle.std.specs.Prelude.{◌≡◌, ◌⊎◌, ℕ, ◌+◌, ◌*◌, ◌^◌, ◌<◌, ◌≤◌, Bool, true, false, List, [], ◌∷◌, ◌++◌, length, map, take, Option, Some, None}
use Rattle.pm3_disk.specs.Content.{IfTold, overwrite}
use Rattle.pm3_disk.specs.Devices.{IsSynced}
use Rattle.pm3_disk.specs.Moments.{HoldsSince}
use Rattle.pm3_disk.specs.declared.outside.Disk.{Ghosts}
use Rattle.pm3_journal.specs.FileHead.{page_count_of}
use Rattle.pm3_journal.specs.Format.{JournalRecord}
use Rattle.pm3_journal.specs.Gates.{IsGate}
use Rattle.pm3_journal.specs.JournalState.{JournalState}
use Rattle.pm3_journal.specs.Reading.{at_start, Ends, record_at}
use Rattle.pm3_journal.specs.RecordFront.{is_due}
use Rattle.pm3_journal.specs.Records.{after, HasFront, records, Whole}
use Rattle.pm3_journal.specs.Steps.{HasFirstOf}
use Rattle.pm3_journal.specs.Summaries.{summary_of}

-- The bytes are a head and these records up to the offset `end`, where the list ends. Whether the gate there is
-- closed is known exactly.
pub record IsJournal (pages end next : ℕ) (is_closed : Bool) (list : List JournalRecord) (bytes : List ℕ) : Type 0 where
  pub front : HasFront pages list end bytes
  pub ends : record_at (after (at_start pages) list) end bytes ≡ Ends
  pub gate : IsGate is_closed end bytes
  pub due : is_due (after (at_start pages) list).due next ≡ true

-- the disk has such bytes, where it tells them, and all of them are synced
pub record IsAtRest {D R : Type 0} (g : Ghosts D R) (j : JournalState D) (list : List JournalRecord) : Type 0 where
  pub settled : IsSynced g j.disk
  pub told : IfTold (g.content j.disk) (IsJournal j.pages j.end j.next j.is_closed list)

-- the bytes with the first gate open
abbrev pub with_first_open : List ℕ → List ℕ
with_first_open bytes = overwrite 32 (1 ∷ []) bytes

-- the record of an append that failed, if there is one
abbrev pub failed_list : Option JournalRecord → List JournalRecord
failed_list None = []
failed_list (Some r) = r ∷ []

-- What a crash now leaves: the page count, and all of these records, or these and that of an append that failed. After a
-- closing that failed it has some first ones of them where the first gate is open.
pub record IsPresent (pages : ℕ) (is_torn : Bool) (list failed : List JournalRecord) (bytes : List ℕ) : Type 0 where
  pub page_count : page_count_of (take 32 bytes) ≡ pages
  pub whole : is_torn ≡ false → (records bytes ≡ Whole list) ⊎ (records bytes ≡ Whole (list ++ failed))
  pub torn : is_torn ≡ true → (32 < length bytes) × HasFirstOf pages (list ++ failed) (with_first_open bytes)

-- What a journal keeps. Whatever a crash may leave at a moment from `since` on has some first ones of its records, or,
-- after an append that failed, of these and that append's; what it may leave now has all of them, but for a closing that
-- failed. A journal that isn't stopped is at rest.
pub record Keeps {D R : Type 0} (g : Ghosts D R) (j : JournalState D) : Type 0 where
  pub list : List JournalRecord
  pub shown : j.summaries ≡ map summary_of list
  pub kept : IfTold (g.content j.disk) (λ _. HoldsSince j.since (g.moment j.disk) (g.may_leave j.disk)
      (HasFirstOf j.pages (list ++ failed_list j.failed)))
  pub present : IfTold (g.content j.disk) (λ _. (left : List ℕ) → g.may_leave j.disk (g.moment j.disk) left
      → IsPresent j.pages j.is_torn list (failed_list j.failed) left)
  pub untorn : j.stopped ≡ None → j.is_torn ≡ false
  pub none_failed : j.stopped ≡ None → j.failed ≡ None
  pub rest : j.stopped ≡ None → IsAtRest g j list

-- the buffers have space for a record of that many pages, where a number is given
abbrev pub HasSpace : Option ℕ → ℕ → ℕ → ℕ → ℕ → Type 0
HasSpace None bytes numbers summaries slots = Unit {0}
HasSpace (Some most) bytes numbers summaries slots = (55 + 4104 * most ≤ bytes) × (most ≤ numbers)
    × (summaries < slots) × (summaries + 1 < 2 ^ 32)
