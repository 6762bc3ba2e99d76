-- A crash may leave a disk as it reads.
use Rattle.std.specs.Prelude.{◌≡◌, List, ℕ, Some, [], ◌∷◌, length}
use Rattle.std.proofs.Common.{inl, inr, arith}
use Rattle.pm3_disk.specs.Recording.{Recording, content_of, moment_of, may_leave_of}
use Rattle.pm3_disk.specs.Replay.{content_after, MayLeave, MayLeaveAt}
use Rattle.pm3_disk.specs.declared.call.Call.{Call}

pub leaves_present : (began : List ℕ) (calls : List Call) (left : List ℕ) → MayLeave began calls left → MayLeaveAt began calls (length calls) left
leaves_present began [] left is = is
leaves_present began (call ∷ calls) left is = inr (omega arith, is)

pub leaves_what_it_reads : (disk : Recording) (bytes : List ℕ) → content_of disk ≡ Some bytes → may_leave_of disk (moment_of disk) bytes
leaves_what_it_reads disk bytes told =
    let same : bytes ≡ content_after disk.began disk.calls = cc in
    leaves_present disk.began disk.calls bytes (inl same)
