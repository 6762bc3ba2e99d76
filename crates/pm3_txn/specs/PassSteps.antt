-- What a commit with a pass does before the pass is carried out.
use Rattle.std.specs.Prelude.{ℕ, ◌≡◌, ◌↔◌, ◌+◌, ◌<◌, ◌≤◌, ◌==◌, ◌||◌, Bool, true, false, List, [], ◌∷◌, Option, Some, None, is_some, slice_index_or}
use Rattle.std.specs.FinMap as map
use Rattle.std.specs.FinSet as set
use Rattle.atomic_table.specs.Seated.{TableId}
use Rattle.pm3_core.specs.declared.naming.TheConstants.{BASE}
use Rattle.pm3_core.specs.Naming.{Names}
use Rattle.pm3_page.specs.PageMap.{Images}
use Rattle.pm3_copy.specs.Fresh.{AreBlank}
use Rattle.pm3_copy.specs.Planning.{PlanState, IsPlan}
use Rattle.pm3_copy.specs.Spreading.{before_of}
use Rattle.pm3_access.specs.declared.parted.Parted.{Parted}
use Rattle.pm3_access.specs.FreeList.{Numbers}
use Rattle.pm3_access.specs.Holding.{Holding}
use Rattle.pm3_access.specs.Parting.{CanRejoin, joined}
use Rattle.pm3_access.specs.Parts.{SpaceRest, HasRoomFor}
use Rattle.pm3_journal.specs.JournalState.{HasRoom}
use Rattle.pm3_journal.specs.Pages.{PageList}
use Rattle.pm3_table.specs.declared.unit.Limit.TheVariants.{Pages}
use Rattle.pm3_table.specs.declared.view.Deed.{Deed}
use Rattle.pm3_table.specs.declared.view.Told.{Told}
use Rattle.pm3_table.specs.Deeds.{marks_of, stands_of, word_of}
use Rattle.pm3_table.specs.Holds.{holds_of}
use Rattle.pm3_table.specs.Ops.{gave}
use Rattle.pm3_table.specs.Words.{turn_unit}
use Rattle.pm3_txn.specs.declared.commit_fault.CommitRefusal.{CommitRefusal}
use Rattle.pm3_txn.specs.declared.commit_fault.CommitRefusal.TheVariants.{Busy, Full, Memory, Later}
use Rattle.pm3_txn.specs.declared.prepared.Prepared.{Prepared}
use Rattle.pm3_txn.specs.Pinning.{HasScanned}
use Rattle.pm3_txn.specs.States.{MutatorState}
use Rattle.pm3_txn.specs.Takes.{with_view}
use Rattle.pm3_txn.specs.Underway.{IsUnderway}

-- the mutator as it is once it has given the turn back, with another log
abbrev pub set_aside : {R : Type 0} → Told → MutatorState R → List Deed → MutatorState R
set_aside told m log = with_view m (record (gave m.pass.1 (turn_unit told.pages)) { log = log })

-- The mutator has the turn, and its transaction holds this besides, with its space. Without the turn and its marks it would be between
-- two of its calls.
pub record IsPassing {R : Type 0} (content : R → Option (List ℕ)) (heap : TableId × Told) (m : MutatorState R) (h : Holding) : Type 0 where
  pub log : List Deed
  pub words : (q : ℕ) → word_of log q ≡ word_of m.pass.1.log q
  pub stands : (q : ℕ) → stands_of log q ≡ stands_of m.pass.1.log q
  pub underway : IsUnderway content (record { heap = heap; mutator = set_aside heap.1 m log; held = h; tag = 0 })
  pub turn : holds_of m.pass.1.holds (turn_unit heap.1.pages) ≡ true
  pub space : is_some h.space ≡ true

-- Nothing of the mutator is another but its marks, what it read, and the pages that it drew into its space.
pub record HasKeptRow {R : Type 0} (old new : MutatorState R) : Type 0 where
  pub rest : new ≡ with_view old (record old.pass.1 {
    log = new.pass.1.log;
    spans = new.pass.1.spans;
    pages = new.pass.1.pages;
    drawing = new.pass.1.drawing;
    filled = new.pass.1.filled;
    drew_pages = new.pass.1.drew_pages;
  })
  pub words : (q : ℕ) → word_of new.pass.1.log q ≡ word_of old.pass.1.log q
  pub stands : (q : ℕ) → stands_of new.pass.1.log q ≡ stands_of old.pass.1.log q

-- it drew so many pages into its space, and did nothing else
pub record HasDrawn {R : Type 0} (old new : MutatorState R) (pages : ℕ) : Type 0 where
  pub kept : HasKeptRow old new
  pub log : new.pass.1.log ≡ old.pass.1.log
  pub drew : new.pass.1.drew_pages ≡ old.pass.1.drew_pages + pages

-- the page is a free one of the space
abbrev pub is_free : Option SpaceRest → ℕ → Bool
is_free None page = false
is_free (Some s) page = set.contains s.free page

-- the space is the same, but for its free pages and the room for more, and each free page is free still
abbrev pub IsSameButFree : Option SpaceRest → Option SpaceRest → Type 0
IsSameButFree None None = Unit {0}
IsSameButFree None (Some t) = ⊥
IsSameButFree (Some s) None = ⊥
IsSameButFree (Some s) (Some t) = (t ≡ record s { free = t.free; room = t.room }) × ((p : ℕ) → set.contains s.free p ≡ true → set.contains t.free p ≡ true)

-- the page is a free one that was none
pub record IsNewFree (old new : Option SpaceRest) (page : ℕ) : Type 0 where
  pub none : is_free old page ≡ false
  pub free : (q : ℕ) → is_free new q ≡ ((q == page) || is_free old q)

-- All images are as they were. There may be more free pages, and more room.
pub record HasMoreRoom (old new : Parted) : Type 0 where
  pub volatile : new.volatile.images ≡ old.volatile.images
  pub written : new.written.images ≡ old.written.images
  pub pages : new.rest.pages ≡ old.rest.pages
  pub found : new.rest.found ≡ old.rest.found
  pub space : IsSameButFree old.rest.space new.rest.space
  pub rejoin : CanRejoin old → CanRejoin new

-- blank images of free pages, the least ones
pub record AreFresh (s : Option SpaceRest) (fresh : Images) : Type 0 where
  pub blank : AreBlank fresh
  pub free : (q : ℕ) → map.contains_key fresh q ≡ true → is_free s q ≡ true
  pub least : (p q : ℕ) → map.contains_key fresh q ≡ true → is_free s p ≡ true → p < q → map.contains_key fresh p ≡ true

-- each free page has one
abbrev pub AreAllFresh : Option SpaceRest → Images → Type 0
AreAllFresh s fresh = (q : ℕ) → is_free s q ≡ true → map.contains_key fresh q ≡ true

-- the counter of pages was at its limit, and the space had no more free pages than these
abbrev pub IsOutOfFresh : {R : Type 0} → Told → MutatorState R → MutatorState R → CommitRefusal → Type 0
IsOutOfFresh told old new (Busy unit word) = ⊥
IsOutOfFresh told old new (Full what limit) = (what ≡ Pages) × (limit ≡ told.pages) × (new.pass.1.filled ≡ 0 ∷ old.pass.1.filled)
IsOutOfFresh told old new Memory = new.pass.1.filled ≡ old.pass.1.filled
IsOutOfFresh told old new Later = ⊥

-- the room for further free pages
abbrev pub space_room : Option SpaceRest → ℕ
space_room None = 0
space_room (Some s) = s.room

-- the pages of the space that a place of the row names which is tagged as a reference
abbrev pub AreNamed : {R : Type 0} → ℕ → MutatorState R → (ℕ → Bool) → Numbers → Type 0
AreNamed pages m has named = (p : ℕ) → (set.contains named p ≡ true)
    ↔ ((has p ≡ true) × ((q : ℕ) × (slice_index_or m.refs q false ≡ true) × Names pages (word_of m.pass.1.log q) p))

-- how many pages a pass writes at most: those written before, its fresh persistent pages, and those that turn persistent
abbrev pub most_written : Parted → PlanState → ℕ
most_written p plan = map.len p.written.images + (plan.persistent + set.len plan.turned)

-- There is room for what a pass with this plan leaves: in the parts, in the journal, and in the list for its record.
pub record IsRoomy (p : Parted) (journal : Option ℕ) (plan : PlanState) (pages : PageList) : Type 0 where
  pub written : plan.persistent + set.len plan.turned ≤ p.written.spare
  pub volatile : plan.volatile ≤ p.volatile.spare
  pub freed : HasRoomFor p.rest.space (set.len plan.freed)
  pub record_room : HasRoom journal (most_written p plan)
  pub none : pages.items ≡ []
  pub list : most_written p plan ≤ pages.room

-- A pass is prepared: the rows were read, the plan is made for the pages that they pin, there are fresh pages and room for it. Each page
-- of the space to which a reference of the row leads turns persistent.
pub record IsPlanned {R : Type 0} (told : Told) (m : MutatorState R) (p : Parted) (journal : Option ℕ) (x : Prepared) : Type 0 where
  pub words : List ℕ
  pub scanned : HasScanned told.pages m.pass.1.log (map.contains_key p.volatile.images) words x.pins
  pub plan : IsPlan told.opening.catalog BASE (before_of p.volatile.images p.written.images x.pins) x.plan
  pub fresh : AreFresh p.rest.space x.fresh.images
  pub count : map.len x.fresh.images ≡ x.plan.persistent + x.plan.volatile
  pub roomy : IsRoomy p journal x.plan x.pages
  pub turns : (q page : ℕ) → slice_index_or m.refs q false ≡ true → map.contains_key p.volatile.images page ≡ true → Names told.pages (word_of m.pass.1.log q) page
      → set.contains x.plan.turned page ≡ true

pub record IsPrepared {R : Type 0} (content : R → Option (List ℕ)) (heap : TableId × Told) (old new : MutatorState R) (before after : Parted) (journal : Option ℕ) (x : Prepared) : Type 0 where
  pub ready : IsPassing content heap new (joined after)
  pub kept : HasKeptRow old new
  pub parts : HasMoreRoom before after
  pub few : new.pass.1.drew_pages ≤ old.pass.1.drew_pages + (x.plan.persistent + x.plan.volatile)
  pub planned : IsPlanned heap.1 new after journal x

-- Why it was not: the counter of pages was at its limit; there was no memory; or a reference of the row leads to a page of the space
-- that would stay in it.
abbrev pub IsPassRefusal : {R : Type 0} → Told → MutatorState R → MutatorState R → (ℕ → Bool) → CommitRefusal → Type 0
IsPassRefusal told old new has (Busy unit word) = ⊥
IsPassRefusal told old new has (Full what limit) = (what ≡ Pages) × (limit ≡ told.pages) × (new.pass.1.filled ≡ 0 ∷ old.pass.1.filled)
IsPassRefusal told old new has Memory = new.pass.1.filled ≡ old.pass.1.filled
IsPassRefusal told old new has Later = (new.pass.1.filled ≡ old.pass.1.filled)
    × ((q : ℕ) × (page : ℕ) × (slice_index_or old.refs q false ≡ true) × (has page ≡ true) × Names told.pages (word_of old.pass.1.log q) page)

-- The transaction goes on as it was, but for pages that were drawn into its space.
pub record IsUnprepared {R : Type 0} (content : R → Option (List ℕ)) (heap : TableId × Told) (old new : MutatorState R) (before after : Parted) (cause : CommitRefusal) : Type 0 where
  pub ready : IsPassing content heap new (joined after)
  pub bare : (p : ℕ) → marks_of new.pass.1.log p ≡ false
  pub kept : HasKeptRow old new
  pub parts : HasMoreRoom before after
  pub why : IsPassRefusal heap.1 old new (map.contains_key before.volatile.images) cause
