-- Reads and writes of the root slots on page 2.
use Rattle.std.specs.Prelude.{ℕ, ◌≡◌, ◌⊎◌, true, false, Some, slice_index_or}
use Rattle.pm3_access.specs.Roots.{root_held, root_written}
use Rattle.pm3_table.specs.declared.unit.Busy as table
use Rattle.pm3_txn.specs.declared.faults.AccessFault.{AccessFault}
use Rattle.pm3_txn.specs.Owners.{root_reads_here, root_writes_here}
use Rattle.pm3_txn.specs.PlaceAccess.{IsNumberPlace}
use Rattle.pm3_txn.specs.Placing.{IsPlaced, IsRefusedPlace, busy_fault}
use Rattle.pm3_txn.specs.Refusals.{IsTouchRefusal}
use Rattle.pm3_txn.specs.States.{TxnState, told_in, view_in}
use Rattle.pm3_txn.specs.Touching.{Advances, HasTouched, nothing_more}

-- the slot has this address; page 2 is held, and the read is one operation more
pub record HasRootRead {R : Type 0} (old new : TxnState R) (slot x : ℕ) : Type 0 where
  pub touched : HasTouched old new 2 nothing_more
  pub value : root_held new.held slot ≡ Some x
  pub goes_on : Advances old new (root_reads_here (told_in new) (view_in new) new.held slot x)

-- it was read so, and put at place j of the row
pub record HasRootReadInto {R : Type 0} (old new : TxnState R) (slot j : ℕ) : Type 0 where
  pub mid : TxnState R
  pub word : ℕ
  pub read : HasRootRead old mid slot word
  pub placed : IsPlaced mid new j word true
  pub goes_on : Advances old new (root_reads_here (told_in mid) (view_in mid) mid.held slot word)

-- The address was written in the slot, which is one operation more. Nothing changed but what is held.
pub record HasRootStored {R : Type 0} (old new : TxnState R) (slot x : ℕ) : Type 0 where
  pub rest : new ≡ record old { held = new.held }
  pub written : root_written old.held slot x ≡ Some new.held
  pub goes_on : Advances old new (root_writes_here (told_in old) (view_in old) old.held slot x)

-- it was written so once page 2 was held
pub record HasRootWritten {R : Type 0} (old new : TxnState R) (slot x : ℕ) : Type 0 where
  pub mid : TxnState R
  pub touched : HasTouched old mid 2 nothing_more
  pub stored : HasRootStored mid new slot x
  pub goes_on : Advances old new (root_writes_here (told_in mid) (view_in mid) mid.held slot x)

-- the address was read, but its page has a mark, so that place j of the row is nil
pub record IsRootMarked {R : Type 0} (old new : TxnState R) (slot j : ℕ) (fault : AccessFault) : Type 0 where
  pub mid : TxnState R
  pub word : ℕ
  pub read : HasRootRead old mid slot word
  pub busy : table.Busy
  pub refused : IsRefusedPlace mid new j word busy
  pub fault_is : fault ≡ busy_fault busy
  pub goes_on : Advances old new nothing_more

-- why a root was not read: page 2 was refused, or the page that the slot names has a mark
abbrev pub IsRootRefusal : {R : Type 0} → (R → ℕ) → TxnState R → TxnState R → ℕ → ℕ → AccessFault → Type 0
IsRootRefusal faults old new slot j fault = IsTouchRefusal faults old new 2 fault ⊎ IsRootMarked old new slot j fault

-- why it was not written: place i of the row holds a number, or page 2 was refused
abbrev pub IsRootStoreRefusal : {R : Type 0} → (R → ℕ) → TxnState R → TxnState R → ℕ → AccessFault → Type 0
IsRootStoreRefusal faults old new i fault =
    IsNumberPlace old new i fault ⊎ ((slice_index_or old.mutator.refs i false ≡ true) × IsTouchRefusal faults old new 2 fault)
