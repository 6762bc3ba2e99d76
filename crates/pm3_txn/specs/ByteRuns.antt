-- Runs of bytes of the tails of objects.
use Rattle.std.specs.Prelude.{ℕ, ◌≡◌, ◌⊎◌, ◌+◌, ◌<◌, ◌≤◌, Bool, true, false, List, [], ◌∷◌, length, Some, is_some, slice_index}
use Rattle.pm3_core.specs.declared.naming.TheConstants.{BASE}
use Rattle.pm3_graph.specs.declared.operations.Op.{Op}
use Rattle.pm3_graph.specs.declared.operations.Op.TheVariants as operation
use Rattle.pm3_access.specs.declared.places.Place.TheVariants.{Byte}
use Rattle.pm3_access.specs.Access.{value_held}
use Rattle.pm3_access.specs.Holding.{Holding}
use Rattle.pm3_history.specs.State.{State}
use Rattle.pm3_table.specs.declared.view.Told.{Told}
use Rattle.pm3_table.specs.declared.view.View.{View}
use Rattle.pm3_txn.specs.declared.faults.AccessFault.{AccessFault}
use Rattle.pm3_txn.specs.declared.faults.AccessFault.TheVariants.{NoSuchTail}
use Rattle.pm3_txn.specs.Answers.{with_step}
use Rattle.pm3_txn.specs.ObjectValues.{HasNewValue, type_held}
use Rattle.pm3_txn.specs.Owners.{name_here}
use Rattle.pm3_txn.specs.Refusals.{HasObject, IsObjectRefusal}
use Rattle.pm3_txn.specs.States.{TxnState, told_in, view_in}
use Rattle.pm3_txn.specs.Touching.{Advances}

-- the tail of the object has a byte k
abbrev pub has_byte : Told → Holding → ℕ → ℕ → Bool
has_byte told h a k = is_some (value_held told.opening.catalog BASE h a (Byte k))

-- each byte of a run of n from one on is there
abbrev pub HasRun : Told → Holding → ℕ → ℕ → ℕ → Type 0
HasRun told h a from n = (k : ℕ) → from ≤ k → k < from + n → has_byte told h a k ≡ true

-- k is the first byte of the run that isn't there
pub record IsFirstMissing (told : Told) (h : Holding) (a from n k : ℕ) : Type 0 where
  pub within : (from ≤ k) × (k < from + n)
  pub missing : has_byte told h a k ≡ false
  pub before : (q : ℕ) → from ≤ q → q < k → has_byte told h a q ≡ true

-- the bytes of the tail from one on are these
abbrev pub HasBytes : Told → Holding → ℕ → ℕ → List ℕ → Type 0
HasBytes told h a from xs = (k : ℕ) → k < length xs → value_held told.opening.catalog BASE h a (Byte (from + k)) ≡ Some (slice_index xs k)

-- they were read, one operation each
abbrev pub bytes_read : Told → View → Holding → ℕ → ℕ → List ℕ → State → List (Op × ℕ) → List (Op × ℕ)
bytes_read told v h a from [] st done = done
bytes_read told v h a from (x ∷ xs) st done = bytes_read told v h a (from + 1) xs st (with_step done (operation.Byte (name_here told v h st a) from) x)

-- The bytes of the tail of the object to which place i of the row leads, from one on, are these. Its page is held.
pub record HasReadBytes {R : Type 0} (old new : TxnState R) (i from : ℕ) (xs : List ℕ) : Type 0 where
  pub address : ℕ
  pub object : HasObject old new i address
  pub bytes : HasBytes (told_in new) new.held address from xs
  pub goes_on : Advances old new (bytes_read (told_in new) (view_in new) new.held address from xs)

-- the bytes were written, one after another
abbrev pub HasNewBytes : Told → Holding → Holding → ℕ → ℕ → List ℕ → Type 0
HasNewBytes told old new a from [] = new ≡ old
HasNewBytes told old new a from (x ∷ xs) = (mid : Holding) × HasNewValue told old mid a (Byte from) false x × HasNewBytes told mid new a (from + 1) xs

-- one operation each
abbrev pub bytes_written : Told → View → Holding → ℕ → ℕ → List ℕ → State → List (Op × ℕ) → List (Op × ℕ)
bytes_written told v h a from [] st done = done
bytes_written told v h a from (x ∷ xs) st done = bytes_written told v h a (from + 1) xs st (with_step done (operation.SetByte (name_here told v h st a) from x) 0)

-- They were written in the object at an address, from one byte on. Nothing changed but what is held.
pub record HasStoredBytes {R : Type 0} (old new : TxnState R) (a from : ℕ) (xs : List ℕ) : Type 0 where
  pub rest : new ≡ record old { held = new.held }
  pub bytes : HasNewBytes (told_in old) old.held new.held a from xs
  pub goes_on : Advances old new (bytes_written (told_in old) (view_in old) old.held a from xs)

-- they were written so where place i of the row leads, once the page was held
pub record HasWrittenBytes {R : Type 0} (old new : TxnState R) (i from : ℕ) (xs : List ℕ) : Type 0 where
  pub mid : TxnState R
  pub address : ℕ
  pub object : HasObject old mid i address
  pub stored : HasStoredBytes mid new address from xs
  pub goes_on : Advances old new (bytes_written (told_in mid) (view_in mid) mid.held address from xs)

-- its page is held, but a byte of the run isn't there
pub record IsShort {R : Type 0} (old new : TxnState R) (i from n : ℕ) (fault : AccessFault) : Type 0 where
  pub type : ℕ
  pub byte : ℕ
  pub address : ℕ
  pub object : HasObject old new i address
  pub type_is : type_held new.held address ≡ Some type
  pub first : IsFirstMissing (told_in new) new.held address from n byte
  pub fault_is : fault ≡ NoSuchTail type byte

-- why a run of bytes was refused: the object was, or it has no such run
abbrev pub IsRunRefusal : {R : Type 0} → (R → ℕ) → TxnState R → TxnState R → ℕ → ℕ → ℕ → AccessFault → Type 0
IsRunRefusal faults old new i from n fault = IsObjectRefusal faults old new i fault ⊎ IsShort old new i from n fault
