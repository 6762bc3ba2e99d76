-- What clauses see of a disk in memory: the bytes that it began with, and its record of calls.
use Rattle.std.specs.Prelude.{◌≡◌, ◌⊎◌, ℕ, List, ◌∷◌, length, Contains, Option, Some, Result, Ok, Err}
use Rattle.pm3_disk.specs.Plan.{raised, raised_32}
use Rattle.pm3_disk.specs.Replay.{content_after, MayLeaveAt}
use Rattle.pm3_disk.specs.declared.call.Call.{Call}

pub record Recording : Type 0 where
  pub began : List ℕ
  pub calls : List Call  -- the newest first
  pub fails : List ℕ  -- the numbers of the calls that fail
  pub faults : ℕ
  pub wanted : ℕ  -- how many of the faults were for want of memory

abbrev pub content_of : Recording → Option (List ℕ)
content_of disk = Some (content_after disk.began disk.calls)

abbrev pub moment_of : Recording → ℕ
moment_of disk = length disk.calls

abbrev pub may_leave_of : Recording → ℕ → List ℕ → Type 0
may_leave_of disk = MayLeaveAt disk.began disk.calls

-- the disk after a call that succeeded and is recorded as `call`
abbrev pub done : Call → Recording → Recording
done call disk = record disk { calls = call ∷ disk.calls }

-- after one that failed
abbrev pub spoilt : Call → Recording → Recording
spoilt call disk = record disk { calls = call ∷ disk.calls; faults = raised disk.faults }

-- after one that wanted memory, which has no number and no place in the record
abbrev pub starved : Recording → Recording
starved disk = record disk { faults = raised disk.faults; wanted = raised_32 disk.wanted }

-- A call is recorded as the first of these where it succeeds, and as the second where it fails. It fails exactly
-- where its number is in the list, or where it wants memory.
abbrev pub IsRecorded : {T E : Type 0} → Call → Call → Recording → Recording → Result T E → Type 0
IsRecorded well badly old new (Ok _) = (Contains old.fails (length old.calls) → ⊥) × (new ≡ done well old)
IsRecorded well badly old new (Err _) = (Contains old.fails (length old.calls) × (new ≡ spoilt badly old)) ⊎ (new ≡ starved old)
