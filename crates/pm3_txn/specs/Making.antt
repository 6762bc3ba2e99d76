-- What making an object does, and why it is refused.
use Rattle.std.specs.Prelude.{ℕ, ◌≡◌, ◌≢◌, ◌⊎◌, ◌+◌, ◌^◌, ◌<◌, ◌≤◌, ◌++◌, max, true, false, if◌then◌else◌, List, [], ◌∷◌, All, length, None, is_some, slice_get}
use Rattle.std.specs.FinMap.{get}
use Rattle.std.specs.FinSet as set
use Rattle.pm3_core.specs.declared.naming.TheConstants.{BASE}
use Rattle.pm3_types.specs.Fields.{Fields}
use Rattle.pm3_types.specs.Layout.{has_tail, size_by, page_in}
use Rattle.pm3_graph.specs.declared.operations.Op.TheVariants as operation
use Rattle.pm3_access.specs.Holding.{Holding, FreeIs}
use Rattle.pm3_access.specs.Making.{current_image, has_room_for}
use Rattle.pm3_history.specs.Opens.{Opens}
use Rattle.pm3_history.specs.State.{State}
use Rattle.pm3_table.specs.declared.unit.Limit.TheVariants.{Names, Pages}
use Rattle.pm3_table.specs.declared.unit.Unit.TheVariants.{Space}
use Rattle.pm3_table.specs.declared.view.Hold.TheVariants.{Took, Gave}
use Rattle.pm3_table.specs.declared.view.Told.{Told}
use Rattle.pm3_table.specs.declared.view.View.{View}
use Rattle.pm3_table.specs.Entries.{makes}
use Rattle.pm3_table.specs.Histories.{some_has}
use Rattle.pm3_table.specs.Holds.{is_in}
use Rattle.pm3_table.specs.Words.{space_unit}
use Rattle.pm3_txn.specs.declared.faults.AccessFault.{AccessFault}
use Rattle.pm3_txn.specs.declared.faults.AccessFault.TheVariants.{NotAReference, Nil, Busy, PageFault, Damaged, NoSuchField, NoSuchTail, Full, Memory}
use Rattle.pm3_txn.specs.DrawnLaws.{HasNoName}
use Rattle.pm3_txn.specs.Knowing.{state_seen}
use Rattle.pm3_txn.specs.Owners.{KnowsHere, name_here}
use Rattle.pm3_txn.specs.Placing.{IsPlaced}
use Rattle.pm3_txn.specs.States.{TxnState, told_in, view_in}
use Rattle.pm3_txn.specs.Touching.{Advances, DrewNothing, IsSameButHeld, nothing_more}
use Rattle.pm3_txn.specs.Works.{left_book, is_own_page}

-- there is such a type; its objects have a tail, or none is asked for; and an object with that tail fits on a page
pub record MayMake (catalog : List Fields) (type tail : ℕ) : Type 0 where
  pub there : type < length catalog
  pub empty : has_tail (slice_get catalog type) ≡ false → tail ≡ 0
  pub small : size_by (slice_get catalog type) tail ≤ 510

-- the unit of the mutator's space
abbrev pub own_unit : {R : Type 0} → TxnState R → ℕ
own_unit t = space_unit (told_in t).pages t.mutator.space

-- The space is held. Where it wasn't before, it was taken, and nothing else was.
pub record HasTakenSpace {R : Type 0} (old new : TxnState R) : Type 0 where
  pub same : IsSameButHeld old new
  pub drew : DrewNothing old new
  pub refusals : (view_in new).refusals ≡ (view_in old).refusals
  pub holds : (view_in new).holds ≡ (if is_some old.held.space then (view_in old).holds else (Took (own_unit old) ∷ (view_in old).holds))
  pub held : is_some new.held.space ≡ true
  pub pages : new.held.pages ≡ old.held.pages
  pub goes_on : Advances old new nothing_more

-- It was refused: its word showed another holder. Only the refusals rose.
pub record IsSpaceRefused {R : Type 0} (old new : TxnState R) (word : ℕ) : Type 0 where
  pub same : IsSameButHeld old new
  pub drew : DrewNothing old new
  pub seen : word ≢ 0
  pub refusals : (view_in new).refusals ≡ record { unit = own_unit old; word = word } ∷ (view_in old).refusals
  pub holds : (view_in new).holds ≡ (view_in old).holds
  pub held : new.held ≡ old.held
  pub none : old.held.space ≡ None
  pub goes_on : Advances old new nothing_more

-- It was taken and given back, since there was no memory for it.
pub record IsSpaceGivenBack {R : Type 0} (old new : TxnState R) : Type 0 where
  pub same : IsSameButHeld old new
  pub drew : DrewNothing old new
  pub refusals : (view_in new).refusals ≡ (view_in old).refusals
  pub holds : (view_in new).holds ≡ Gave (own_unit old) ∷ Took (own_unit old) ∷ (view_in old).holds
  pub held : new.held ≡ old.held
  pub none : old.held.space ≡ None
  pub goes_on : Advances old new nothing_more

-- why the space isn't held
abbrev pub IsSpaceRefusal : {R : Type 0} → TxnState R → TxnState R → AccessFault → Type 0
IsSpaceRefusal old new (NotAReference index) = ⊥
IsSpaceRefusal old new (Nil index) = ⊥
IsSpaceRefusal old new (Busy unit word) = (unit ≡ Space old.mutator.space) × IsSpaceRefused old new word
IsSpaceRefusal old new PageFault = ⊥
IsSpaceRefusal old new (Damaged page word) = ⊥
IsSpaceRefusal old new (NoSuchField ty field) = ⊥
IsSpaceRefusal old new (NoSuchTail ty at) = ⊥
IsSpaceRefusal old new (Full what limit) = ⊥
IsSpaceRefusal old new Memory = IsSpaceGivenBack old new

-- a name that the view drew and that no object has yet
pub record IsUsableName (told : Told) (v : View) (h : Holding) (n : ℕ) : Type 0 where
  pub drawn : is_in n v.names ≡ true
  pub from : told.next_name ≤ n
  pub unmade : some_has makes v.seen n ≡ false
  pub unused : HasNoName told h n
  pub low : (0 < n) × (n < 2 ^ 62)

-- Names and pages may have been drawn for the space, which is held. All else is as it was, and each object is where it was.
pub record HasGrownSpace {R : Type 0} (old new : TxnState R) : Type 0 where
  pub same : IsSameButHeld old new
  pub refusals : (view_in new).refusals ≡ (view_in old).refusals
  pub holds : (view_in new).holds ≡ (view_in old).holds
  pub held : is_some new.held.space ≡ true
  pub pages : new.held.pages ≡ old.held.pages
  pub names : (n : ℕ) → IsUsableName (told_in old) (view_in old) old.held n → IsUsableName (told_in new) (view_in new) new.held n
  pub goes_on : Advances old new nothing_more

-- the greatest of a first number and one above each of these names
abbrev pub next_above : ℕ → List ℕ → ℕ
next_above first [] = first
next_above first (n ∷ ns) = max (next_above first ns) (n + 1)

-- these names were drawn, the last of them first, and so many pages; and each of the names is noted
pub record Drew {R : Type 0} (old new : TxnState R) (names : List ℕ) (pages : ℕ) : Type 0 where
  pub pages_drawn : (view_in new).drew_pages ≡ (view_in old).drew_pages + pages
  pub names_drawn : (view_in new).drew_names ≡ (view_in old).drew_names + length names
  pub names_are : (view_in new).names ≡ names ++ (view_in old).names
  pub noted : new.mutator.next_name ≡ next_above old.mutator.next_name names

-- an object of so many words does not fit on the space's current page, and the space has no free page
pub record HasNoRoom {R : Type 0} (t : TxnState R) (size : ℕ) : Type 0 where
  pub current : has_room_for (current_image t.held.space) size ≡ false
  pub free : FreeIs t.held.space (λ free. (p : ℕ) → set.contains free p ≡ false)

-- A new object with this name is on a page of the space, at an address where there was none. Nothing changed but what is held.
pub record HasNewObject {R : Type 0} (old new : TxnState R) (type tail name a : ℕ) : Type 0 where
  pub rest : new ≡ record old { held = new.held }
  pub pages : new.held.pages ≡ old.held.pages
  pub space : is_some new.held.space ≡ true
  pub known : KnowsHere (told_in new) (view_in new) new.held a
  pub own : is_own_page new.held (page_in BASE a) ≡ true
  pub none : (st : State) → Opens BASE (told_in old).pages (told_in old).opening st → get (left_book (state_seen (told_in old) (view_in old) st) old.held) a ≡ None
  pub named : (st : State) → Opens BASE (told_in new).pages (told_in new).opening st → name_here (told_in new) (view_in new) new.held st a ≡ name
  pub goes_on : Advances old new (λ st ops. ops ++ (operation.New name type tail, 0) ∷ [])

-- An object was made, under a name that was drawn for it, and its reference put at place j of the row. The space was taken where it
-- was not held. A page was drawn only where none of the space had room for it.
pub record HasMade {R : Type 0} (old new : TxnState R) (type tail j : ℕ) : Type 0 where
  pub mid : TxnState R
  pub ready : TxnState R
  pub made : TxnState R
  pub name : ℕ
  pub address : ℕ
  pub drawn : ℕ
  pub taken : HasTakenSpace old mid
  pub grown : HasGrownSpace mid ready
  pub drew : Drew mid ready (name ∷ []) drawn
  pub why : (drawn ≡ 0) ⊎ ((drawn ≡ 1) × HasNoRoom mid (size_by (slice_get (told_in old).opening.catalog type) tail))
  pub fresh : HasNoName (told_in mid) mid.held name × ((told_in mid).next_name ≤ name) × (some_has makes (view_in mid).seen name ≡ false)
  pub object : HasNewObject ready made type tail name address
  pub placed : IsPlaced made new j address true
  pub goes_on : Advances old new (λ st ops. ops ++ (operation.New name type tail, 0) ∷ [])

-- Nothing was made, though the space may have been taken, and so many names and a page drawn.
pub record HasNotMade {R : Type 0} (old new : TxnState R) (count : ℕ) : Type 0 where
  pub mid : TxnState R
  pub names : List ℕ
  pub drawn : ℕ
  pub taken : HasTakenSpace old mid
  pub grown : HasGrownSpace mid new
  pub counted : length names ≡ count
  pub drew : Drew mid new names drawn × (drawn ≤ 1)
  pub usable : All (λ n. IsUsableName (told_in new) (view_in new) new.held n) names
  pub goes_on : Advances old new nothing_more

-- Why no object was made: the space was refused; the name counter is at its limit; no page has room, and the page counter is at its
-- limit; or there was no memory. A name may have been used up.
abbrev pub IsMakeRefusal : {R : Type 0} → TxnState R → TxnState R → ℕ → AccessFault → Type 0
IsMakeRefusal old new size (NotAReference index) = ⊥
IsMakeRefusal old new size (Nil index) = ⊥
IsMakeRefusal old new size (Busy unit word) = IsSpaceRefusal old new (Busy unit word)
IsMakeRefusal old new size PageFault = ⊥
IsMakeRefusal old new size (Damaged page word) = ⊥
IsMakeRefusal old new size (NoSuchField ty field) = ⊥
IsMakeRefusal old new size (NoSuchTail ty at) = ⊥
IsMakeRefusal old new size (Full what limit) =
    ((what ≡ Names) × (limit ≡ 2 ^ 62) × HasNotMade old new 0 × ((view_in new).filled ≡ 1 ∷ (view_in old).filled))
    ⊎ ((what ≡ Pages) × (limit ≡ (told_in old).pages) × HasNotMade old new 1 × HasNoRoom new size × ((view_in new).filled ≡ 0 ∷ (view_in old).filled))
IsMakeRefusal old new size Memory = IsSpaceRefusal old new Memory ⊎ HasNotMade old new 1
