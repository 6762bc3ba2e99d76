-- Why an access was refused, and what stands after it.
use Rattle.std.specs.Prelude.{ℕ, ◌≡◌, ◌≢◌, ◌⊎◌, true, false, slice_index_or, Err}
use Rattle.pm3_core.specs.declared.naming.TheConstants.{BASE}
use Rattle.pm3_disk.specs.Content.{IfTold}
use Rattle.pm3_disk.specs.Faults.{Rose}
use Rattle.pm3_pagefile.specs.Loading.{read_of}
use Rattle.pm3_pagefile.specs.PageBytes.{page_at}
use Rattle.pm3_pagefile.specs.declared.faults.LoadFault.{LoadFault}
use Rattle.pm3_pagefile.specs.declared.faults.LoadFault.TheVariants as load
use Rattle.pm3_table.specs.declared.unit.Unit.TheVariants.{Page}
use Rattle.pm3_txn.specs.declared.faults.AccessFault.{AccessFault}
use Rattle.pm3_txn.specs.declared.faults.AccessFault.TheVariants.{NotAReference, Nil, Busy, PageFault, Damaged, NoSuchField, NoSuchTail, Full, Memory}
use Rattle.pm3_table.specs.Deeds.{word_of}
use Rattle.pm3_types.specs.Layout.{page_in, word_in}
use Rattle.pm3_access.specs.Access.{is_object_held}
use Rattle.pm3_txn.specs.Owners.{KnowsHere}
use Rattle.pm3_txn.specs.Puts.{read_own}
use Rattle.pm3_txn.specs.States.{TxnState, told_in, view_in}
use Rattle.pm3_txn.specs.Touching.{HasTouched, IsTurnedAway, IsGivenBack, nothing_more}

abbrev pub fault_of : LoadFault → AccessFault
fault_of load.PageFault = PageFault
fault_of (load.Damaged page word) = Damaged page word
fault_of load.Memory = Memory

-- the transaction once it has read a word of its row
abbrev pub with_read : {R : Type 0} → TxnState R → ℕ → TxnState R
with_read t i = record t { mutator = read_own t.mutator i }

-- the word at a place of the row, and the page of that address
abbrev pub word_at : {R : Type 0} → TxnState R → ℕ → ℕ
word_at t i = word_of (view_in t).log i

abbrev pub page_at_place : {R : Type 0} → TxnState R → ℕ → ℕ
page_at_place t i = page_in BASE (word_at t i)

-- the place is a nil reference, or another reference
abbrev pub IsNilPlace : {R : Type 0} → TxnState R → ℕ → Type 0
IsNilPlace t i = (slice_index_or t.mutator.refs i false ≡ true) × (word_at t i ≡ 0)

abbrev pub IsReferencePlace : {R : Type 0} → TxnState R → ℕ → Type 0
IsReferencePlace t i = (slice_index_or t.mutator.refs i false ≡ true) × (word_at t i ≢ 0)

-- The place leads to an object, whose page is held.
pub record HasObject {R : Type 0} (old new : TxnState R) (i a : ℕ) : Type 0 where
  pub place : IsReferencePlace old i
  pub word : a ≡ word_at old i
  pub known : KnowsHere (told_in new) (view_in new) new.held a
  pub touched : HasTouched old new (page_in BASE a) nothing_more
  pub object : is_object_held BASE new.held a ≡ true

-- its page is held, but no object begins at the address
pub record IsMissing {R : Type 0} (old new : TxnState R) (i page word : ℕ) : Type 0 where
  pub touched : HasTouched old new (page_at_place old i) nothing_more
  pub none : is_object_held BASE new.held (word_at old i) ≡ false
  pub page_is : page ≡ page_at_place old i
  pub word_is : word ≡ word_in BASE (word_at old i)

-- A page was refused: its word showed another holder, its reader failed, its bytes have no image at that word, or there was no
-- memory. `faults` counts those of a reader.
abbrev pub IsTouchRefusal : {R : Type 0} → (R → ℕ) → TxnState R → TxnState R → ℕ → AccessFault → Type 0
IsTouchRefusal faults old new page (NotAReference index) = ⊥
IsTouchRefusal faults old new page (Nil index) = ⊥
IsTouchRefusal faults old new page (Busy unit word) = (unit ≡ Page page) × IsTurnedAway old new page word
IsTouchRefusal faults old new page PageFault = Rose (faults old.mutator.reader) (faults new.mutator.reader) × IsGivenBack old new page
IsTouchRefusal faults old new page (Damaged p word) =
    IfTold (told_in old).opening.file (λ bytes. (p ≡ page) × (read_of (told_in old).opening.catalog BASE (told_in old).frontier page (page_at page bytes) ≡ Err word))
    × IsGivenBack old new page
IsTouchRefusal faults old new page (NoSuchField ty field) = ⊥
IsTouchRefusal faults old new page (NoSuchTail ty at) = ⊥
IsTouchRefusal faults old new page (Full what limit) = ⊥
IsTouchRefusal faults old new page Memory = IsGivenBack old new page

-- Why the object to which a place of the row leads was refused, in this order: the place holds a number, or nil; its page was
-- refused; or no object begins at the address on its page.
abbrev pub IsObjectRefusal : {R : Type 0} → (R → ℕ) → TxnState R → TxnState R → ℕ → AccessFault → Type 0
IsObjectRefusal faults old new i (NotAReference index) = (index ≡ i) × (slice_index_or old.mutator.refs i false ≡ false) × (new ≡ old)
IsObjectRefusal faults old new i (Nil index) = (index ≡ i) × IsNilPlace old i × (new ≡ with_read old i)
IsObjectRefusal faults old new i (Busy unit word) = IsReferencePlace old i × IsTouchRefusal faults old new (page_at_place old i) (Busy unit word)
IsObjectRefusal faults old new i PageFault = IsReferencePlace old i × IsTouchRefusal faults old new (page_at_place old i) PageFault
IsObjectRefusal faults old new i (Damaged page word) =
    IsReferencePlace old i × (IsTouchRefusal faults old new (page_at_place old i) (Damaged page word) ⊎ IsMissing old new i page word)
IsObjectRefusal faults old new i (NoSuchField ty field) = ⊥
IsObjectRefusal faults old new i (NoSuchTail ty at) = ⊥
IsObjectRefusal faults old new i (Full what limit) = ⊥
IsObjectRefusal faults old new i Memory = IsReferencePlace old i × IsTouchRefusal faults old new (page_at_place old i) Memory
