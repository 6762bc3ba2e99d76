-- What holds of a mutator, and of a transaction between two of its calls.
use Rattle.std.specs.Prelude.{ℕ, ◌≡◌, ◌<◌, true, false, List, Option, is_some, length, Some, None}
use Rattle.std.specs.FinMap as map
use Rattle.atomic_table.specs.Seated.{TableId}
use Rattle.pm3_core.specs.declared.naming.TheConstants.{BASE}
use Rattle.pm3_types.specs.Layout.{PageImage}
use Rattle.pm3_graph.specs.declared.operations.Op.{Op}
use Rattle.pm3_access.specs.Access.{HaveForm}
use Rattle.pm3_access.specs.Acts.{AreInPlace}
use Rattle.pm3_access.specs.Holding.{Holding, image_in}
use Rattle.pm3_history.specs.Opens.{Opens}
use Rattle.pm3_history.specs.State.{State}
use Rattle.pm3_table.specs.declared.view.Told.{Told}
use Rattle.pm3_table.specs.declared.view.View.{View}
use Rattle.pm3_table.specs.Deeds.{marks_of}
use Rattle.pm3_table.specs.Holds.{holds_of}
use Rattle.pm3_table.specs.Telling.{Lawful}
use Rattle.pm3_txn.specs.Knowing.{Remembers, is_in_use}
use Rattle.pm3_txn.specs.Loads.{IsPersistent}
use Rattle.pm3_txn.specs.Owners.{HasNamesBelow, IsHolding, RemembersHere}
use Rattle.pm3_txn.specs.Runs.{RunsAfter}
use Rattle.pm3_txn.specs.States.{MutatorState, TxnState, told_in, view_in}
use Rattle.pm3_txn.specs.Values.{IsPageOf}

-- A mutator of this heap, outside of a transaction or in one: it marks no page, has seen a lawful history, and its reader tells what
-- the page file told. `content` is what a reader tells.
pub record IsMutatorOf {R : Type 0} (content : R → Option (List ℕ)) (heap : TableId × Told) (m : MutatorState R) : Type 0 where
  pub of : m.pass.0 ≡ heap.0
  pub unmarked : (p : ℕ) → marks_of m.pass.1.log p ≡ false
  pub lawful : Lawful heap.1 m.pass.1.seen
  pub reads : content m.reader ≡ heap.1.opening.file
  pub tags : (length m.refs ≡ 512) × (length m.wrote ≡ 512)
  pub space : m.space < 32

-- between two of its calls outside of a transaction it remembers what is tagged as a reference
pub record Belongs {R : Type 0} (content : R → Option (List ℕ)) (heap : TableId × Told) (m : MutatorState R) : Type 0 where
  pub mutator : IsMutatorOf content heap m
  pub known : Remembers heap.1 m.pass.1 m.refs

-- the mutator holds nothing
abbrev pub HoldsNothing : {R : Type 0} → MutatorState R → Type 0
HoldsNothing m = (u : ℕ) → holds_of m.pass.1.holds u ≡ false

-- what a view knows of what its transaction holds
pub record IsUnder (told : Told) (v : View) (h : Holding) : Type 0 where
  pub alone : h.space ≡ None
  pub places : AreInPlace h
  pub units : (q : ℕ) → is_some (image_in h q) ≡ true → (holds_of v.holds q ≡ true) × (q < told.pages)
  pub only : (u : ℕ) → holds_of v.holds u ≡ true → is_some (image_in h u) ≡ true
  pub persistent : (q : ℕ) → is_some (image_in h q) ≡ true → IsPersistent told v.seen q
  pub kept : (q : ℕ) → is_some (image_in h q) ≡ true → is_some (map.get h.pages.found q) ≡ true
  pub found : (q : ℕ) (image : PageImage) → map.get h.pages.found q ≡ Some image → IsPageOf told v.seen q image
  pub form : HaveForm told.opening.catalog (is_in_use told v.seen) h
  pub runs : (st : State) → Opens BASE told.pages told.opening st → (ops : List (Op × ℕ)) × RunsAfter told v h st ops

-- a transaction between two of its calls
pub record IsUnderway {R : Type 0} (content : R → Option (List ℕ)) (t : TxnState R) : Type 0 where
  pub mutator : IsMutatorOf content t.heap t.mutator
  pub known : RemembersHere (told_in t) (view_in t) t.held t.mutator.refs t.mutator.wrote
  pub holding : IsHolding (told_in t) (view_in t) t.mutator.space t.held
  pub named : HasNamesBelow t.mutator.next_name t.held
