-- What a transaction does to the space that it holds.
use Rattle.std.specs.Prelude.{ℕ, ◌≡◌, ◌⊎◌, ◌^◌, ◌≤◌, Bool, true, false, [], ◌∷◌, Option}
use Rattle.std.specs.FinSet as set
use Rattle.pm3_access.specs.Holding.{HeldSpaceState, FreeIs}
use Rattle.pm3_access.specs.Making.{current_image, has_room_for}
use Rattle.pm3_table.specs.declared.unit.Limit.TheVariants.{Names, Pages}
use Rattle.pm3_table.specs.Entries.{makes}
use Rattle.pm3_table.specs.Histories.{some_has}
use Rattle.pm3_txn.specs.declared.faults.AccessFault.{AccessFault}
use Rattle.pm3_txn.specs.declared.faults.AccessFault.TheVariants.{Full, Memory}
use Rattle.pm3_txn.specs.DrawnLaws.{HasNoName}
use Rattle.pm3_txn.specs.Making.{Drew, HasGrownSpace, HasNewObject, HasNoRoom, IsUsableName}
use Rattle.pm3_txn.specs.States.{TxnState, told_in, view_in}

-- a name was drawn and noted, and nothing else
pub record HasDrawnName {R : Type 0} (old new : TxnState R) (name : ℕ) : Type 0 where
  pub grown : HasGrownSpace old new
  pub drew : Drew old new (name ∷ []) 0
  pub filled : (view_in new).filled ≡ (view_in old).filled
  pub usable : IsUsableName (told_in new) (view_in new) new.held name
  pub held : new.held ≡ old.held
  pub fresh : HasNoName (told_in old) old.held name × ((told_in old).next_name ≤ name) × (some_has makes (view_in old).seen name ≡ false)

-- none was left
pub record IsNameRefusal {R : Type 0} (old new : TxnState R) (fault : AccessFault) : Type 0 where
  pub full : fault ≡ Full Names (2 ^ 62)
  pub grown : HasGrownSpace old new
  pub drew : Drew old new [] 0
  pub filled : (view_in new).filled ≡ 1 ∷ (view_in old).filled

-- the space has a free page, or none
abbrev pub HasFree : Option HeldSpaceState → Type 0
HasFree s = FreeIs s (λ free. (p : ℕ) × (set.contains free p ≡ true))

abbrev pub HasNone : Option HeldSpaceState → Type 0
HasNone s = FreeIs s (λ free. (p : ℕ) → set.contains free p ≡ false)

-- a page was drawn, and is a free one of the space
pub record HasDrawnPage {R : Type 0} (old new : TxnState R) : Type 0 where
  pub grown : HasGrownSpace old new
  pub drew : Drew old new [] 1
  pub free : HasFree new.held.space

-- none was left: the space is as it was
pub record IsPageShortage {R : Type 0} (old new : TxnState R) (fault : AccessFault) : Type 0 where
  pub full : fault ≡ Full Pages (told_in old).pages
  pub grown : HasGrownSpace old new
  pub drew : Drew old new [] 0
  pub filled : (view_in new).filled ≡ 0 ∷ (view_in old).filled
  pub current : current_image new.held.space ≡ current_image old.held.space
  pub free : HasNone old.held.space → HasNone new.held.space

-- the least free page is the one that objects are placed on, without any
pub record HasOpenedPage {R : Type 0} (old new : TxnState R) : Type 0 where
  pub grown : HasGrownSpace old new
  pub drew : Drew old new [] 0
  pub room : (size : ℕ) → size ≤ 510 → has_room_for (current_image new.held.space) size ≡ true

-- there is no free page
pub record HasNoFree {R : Type 0} (old new : TxnState R) : Type 0 where
  pub same : new ≡ old
  pub none : HasNone old.held.space

-- a page was opened, or none was free
abbrev pub HasTriedToOpen : {R : Type 0} → TxnState R → TxnState R → Bool → Type 0
HasTriedToOpen old new true = HasOpenedPage old new
HasTriedToOpen old new false = HasNoFree old new

-- a page has room: one that was free, or where none was one that was drawn
pub record HasMadeRoom {R : Type 0} (old new : TxnState R) : Type 0 where
  pub drawn : ℕ
  pub grown : HasGrownSpace old new
  pub drew : Drew old new [] drawn
  pub why : (drawn ≡ 0) ⊎ ((drawn ≡ 1) × HasNone old.held.space)
  pub room : (size : ℕ) → size ≤ 510 → has_room_for (current_image new.held.space) size ≡ true

-- there was no memory; at most a page was drawn
pub record IsShortOfMemory {R : Type 0} (old new : TxnState R) (fault : AccessFault) : Type 0 where
  pub drawn : ℕ
  pub memory : fault ≡ Memory
  pub grown : HasGrownSpace old new
  pub drew : Drew old new [] drawn × (drawn ≤ 1)

-- no page has room for an object that does not fit on the current one, and none was left
pub record IsOutOfPages {R : Type 0} (old new : TxnState R) (size : ℕ) (fault : AccessFault) : Type 0 where
  pub full : fault ≡ Full Pages (told_in old).pages
  pub grown : HasGrownSpace old new
  pub drew : Drew old new [] 0
  pub filled : (view_in new).filled ≡ 0 ∷ (view_in old).filled
  pub none : has_room_for (current_image old.held.space) size ≡ false → HasNoRoom new size

-- an object of so many words was placed, where there was room or some was made; a page was drawn only where none had room
pub record HasPlacedObject {R : Type 0} (old new : TxnState R) (type tail size name a : ℕ) : Type 0 where
  pub ready : TxnState R
  pub drawn : ℕ
  pub grown : HasGrownSpace old ready
  pub drew : Drew old ready [] drawn
  pub why : (drawn ≡ 0) ⊎ ((drawn ≡ 1) × HasNoRoom old size)
  pub object : HasNewObject ready new type tail name a
