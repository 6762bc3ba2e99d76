-- Reads and writes of the places of objects to which places of the row lead.
use Rattle.std.specs.Prelude.{ℕ, ◌≡◌, ◌⊎◌, Bool, true, false, slice_index_or}
use Rattle.pm3_access.specs.declared.places.Place.{Place}
use Rattle.pm3_access.specs.declared.places.Place.TheVariants.{Field, Tail, Byte}
use Rattle.pm3_table.specs.declared.unit.Busy as table
use Rattle.pm3_txn.specs.declared.faults.AccessFault.{AccessFault}
use Rattle.pm3_txn.specs.declared.faults.AccessFault.TheVariants.{NotAReference, NoSuchField, NoSuchTail}
use Rattle.pm3_txn.specs.ObjectValues.{HasValue, HasNewValue, Lacks}
use Rattle.pm3_txn.specs.Owners.{reads_here, writes_here}
use Rattle.pm3_txn.specs.Placing.{IsPlaced, IsRefusedPlace, busy_fault}
use Rattle.pm3_txn.specs.Refusals.{HasObject, IsObjectRefusal}
use Rattle.pm3_txn.specs.States.{TxnState, told_in, view_in}
use Rattle.pm3_txn.specs.Touching.{Advances, nothing_more}

-- The place of the object to which place i of the row leads has this value. Its page is held, and the read is one operation more.
pub record HasRead {R : Type 0} (old new : TxnState R) (i : ℕ) (place : Place) (is_ref : Bool) (x : ℕ) : Type 0 where
  pub address : ℕ
  pub object : HasObject old new i address
  pub value : HasValue (told_in new) new.held address place is_ref x
  pub goes_on : Advances old new (reads_here (told_in new) (view_in new) new.held address value.map place x)

-- a reference was read so, and put at place j of the row
pub record HasReadInto {R : Type 0} (old new : TxnState R) (i : ℕ) (place : Place) (j : ℕ) : Type 0 where
  pub mid : TxnState R
  pub word : ℕ
  pub read : HasRead old mid i place true word
  pub placed : IsPlaced mid new j word true
  pub goes_on : Advances old new (reads_here (told_in mid) (view_in mid) mid.held read.address read.value.map place word)

-- The value was written at a place of the object at an address, which is one operation more. Nothing changed but what is held.
pub record HasStored {R : Type 0} (old new : TxnState R) (a : ℕ) (place : Place) (is_ref : Bool) (x : ℕ) : Type 0 where
  pub rest : new ≡ record old { held = new.held }
  pub value : HasNewValue (told_in old) old.held new.held a place is_ref x
  pub goes_on : Advances old new (writes_here (told_in old) (view_in old) old.held a value.map place x)

-- it was written so where place i of the row leads, once the page was held
pub record HasWritten {R : Type 0} (old new : TxnState R) (i : ℕ) (place : Place) (is_ref : Bool) (x : ℕ) : Type 0 where
  pub mid : TxnState R
  pub address : ℕ
  pub object : HasObject old mid i address
  pub stored : HasStored mid new address place is_ref x
  pub goes_on : Advances old new (writes_here (told_in mid) (view_in mid) mid.held address stored.value.map place x)

-- the fault of an object of a type that lacks a place
abbrev pub lack_of : ℕ → Place → AccessFault
lack_of type (Field f) = NoSuchField type f
lack_of type (Tail k) = NoSuchTail type k
lack_of type (Byte k) = NoSuchTail type k

-- its page is held, but the object has no such place
pub record IsLacking {R : Type 0} (old new : TxnState R) (i : ℕ) (place : Place) (is_ref : Bool) (fault : AccessFault) : Type 0 where
  pub type : ℕ
  pub address : ℕ
  pub object : HasObject old new i address
  pub lacks : Lacks (told_in new) new.held address place is_ref type
  pub fault_is : fault ≡ lack_of type place

-- why a place was refused: the object was, or it has no such place
abbrev pub IsPlaceRefusal : {R : Type 0} → (R → ℕ) → TxnState R → TxnState R → ℕ → Place → Bool → AccessFault → Type 0
IsPlaceRefusal faults old new i place is_ref fault = IsObjectRefusal faults old new i fault ⊎ IsLacking old new i place is_ref fault

-- the reference was read, but its page has a mark, so that place j of the row is nil
pub record IsReadMarked {R : Type 0} (old new : TxnState R) (i : ℕ) (place : Place) (j : ℕ) (fault : AccessFault) : Type 0 where
  pub mid : TxnState R
  pub word : ℕ
  pub read : HasRead old mid i place true word
  pub busy : table.Busy
  pub refused : IsRefusedPlace mid new j word busy
  pub fault_is : fault ≡ busy_fault busy
  pub goes_on : Advances old new nothing_more

abbrev pub IsReadRefusal : {R : Type 0} → (R → ℕ) → TxnState R → TxnState R → ℕ → Place → ℕ → AccessFault → Type 0
IsReadRefusal faults old new i place j fault = IsPlaceRefusal faults old new i place true fault ⊎ IsReadMarked old new i place j fault

-- the place of the row holds a number
pub record IsNumberPlace {R : Type 0} (old new : TxnState R) (k : ℕ) (fault : AccessFault) : Type 0 where
  pub number : slice_index_or old.mutator.refs k false ≡ false
  pub same : new ≡ old
  pub fault_is : fault ≡ NotAReference k

-- Why a reference was not stored, in this order: place i of the row holds a number, or place k does; the object was refused; or it
-- has no such place.
abbrev pub IsStoreRefusal : {R : Type 0} → (R → ℕ) → TxnState R → TxnState R → ℕ → ℕ → Place → AccessFault → Type 0
IsStoreRefusal faults old new i k place fault =
    IsNumberPlace old new i fault
    ⊎ ((slice_index_or old.mutator.refs i false ≡ true)
    × (IsNumberPlace old new k fault ⊎ ((slice_index_or old.mutator.refs k false ≡ true) × IsPlaceRefusal faults old new i place true fault)))
