-- What calls do to a disk, said of the disk as a whole.
use Rattle.std.specs.Prelude.{◌≡◌, ℕ, ◌+◌, ◌≤◌, List, length, option_map, Result}
use Rattle.pm3_disk.specs.Content.{IfTold, Steps, Unchanged}
use Rattle.pm3_disk.specs.Faults.{HasCause, Rose}
use Rattle.pm3_disk.specs.Moments.{After, IsSettled, Passes}
use Rattle.pm3_disk.specs.declared.outside.Disk.{Ghosts}

module _ {D R : Type 0} (g : Ghosts D R) where
  -- a crash now leaves what a read gives
  abbrev pub IsSynced : D → Type 0
  IsSynced disk = IsSettled (g.content disk) (g.may_leave disk (g.moment disk))

  -- the bytes have taken this step, where they are told
  abbrev pub Takes : D → D → (List ℕ → List ℕ → Type 0) → Type 0
  Takes old new step = Steps step (g.content old) (g.content new)

  -- what a crash at an earlier moment may leave has stayed, and all that one since may leave has P
  abbrev pub LeavesOnly : D → D → (List ℕ → Type 0) → Type 0
  LeavesOnly old new P = Passes (g.moment old) (g.moment new) (g.may_leave old) (g.may_leave new) P

  -- and it comes by this step from what a crash before could leave
  abbrev pub Leaves : D → D → (List ℕ → List ℕ → Type 0) → Type 0
  Leaves old new step = LeavesOnly old new (After (g.may_leave old (g.moment old)) step)

  -- or by this step from the bytes of the disk as it was, where it tells them
  abbrev pub LeavesFromTold : D → D → (List ℕ → List ℕ → Type 0) → Type 0
  LeavesFromTold old new step = LeavesOnly old new (λ left. IfTold (g.content old) (λ bytes. step bytes left))

  -- at most so many calls were made on the disk
  abbrev pub MakesAtMost : ℕ → D → D → Type 0
  MakesAtMost count old new = g.moment new ≤ g.moment old + count

  -- a fault of the disk was counted
  abbrev pub HasFailed : D → D → Type 0
  HasFailed old new = Rose (g.faults old) (g.faults new)

  -- no fault of the disk was counted
  abbrev pub HasNotFailed : D → D → Type 0
  HasNotFailed old new = g.faults new ≡ g.faults old

  -- an answer is honest: a fault of the disk was counted exactly where it is an error
  abbrev pub IsHonest : {T E : Type 0} → D → D → Result T E → Type 0
  IsHonest old new result = HasCause (g.faults old) (g.faults new) result

  -- the disk has these bytes now, where it tells any
  abbrev pub Holds : List ℕ → D → D → Type 0
  Holds bytes old new = g.content new ≡ option_map (λ _. bytes) (g.content old)

  -- it has the bytes that it had
  abbrev pub IsKept : D → D → Type 0
  IsKept old new = g.content new ≡ g.content old

  -- there was nothing in it
  abbrev pub WasEmpty : D → Type 0
  WasEmpty old = IfTold (g.content old) (λ bytes. length bytes ≡ 0)

  -- The disk has the bytes that it had, a crash leaves what one before did, and its count of faults doesn't fall.
  pub record OnlyReads (old new : D) : Type 0 where
    pub same : g.content new ≡ g.content old
    pub crash : Leaves old new Unchanged
    pub later : g.faults old ≤ g.faults new
