-- What a transaction knows of the whole graph, whatever others commit before it does.
use Rattle.std.specs.Prelude.{ℕ, ◌≡◌, ◌≢◌, ◌⊎◌, ◌<◌, ◌≤◌, true, false, cond, List, [], length, Option, None, Some, unwrap_or, slice_get, slice_index, slice_index_or, slice_set}
use Rattle.std.specs.FinMap.{get}
use Rattle.pm3_core.specs.declared.naming.TheConstants.{BASE}
use Rattle.pm3_types.specs.declared.places.Place.{Place}
use Rattle.pm3_types.specs.Fields.{Fields}
use Rattle.pm3_types.specs.Graph.{Part, PartOf}
use Rattle.pm3_types.specs.Layout.{address, has_tail_by}
use Rattle.pm3_types.specs.Places.{is_place}
use Rattle.pm3_types.specs.Record.{Record, blank}
use Rattle.pm3_types.specs.Shown.{name_by}
use Rattle.pm3_graph.specs.declared.operations.Op.{Op}
use Rattle.pm3_graph.specs.Operation.{IsRun}
use Rattle.pm3_history.specs.Opens.{Opens}
use Rattle.pm3_history.specs.State.{State}
use Rattle.oo7_schema.specs.Lookup.{Look, put}
use Rattle.oo7_schema.specs.Schema.{schema}
use Rattle.pm3_txn.specs.Knowing.{state_seen}
use Rattle.pm3_txn.specs.Owners.{found_here}
use Rattle.pm3_txn.specs.Refusals.{word_at}
use Rattle.pm3_txn.specs.States.{TxnState, told_in, view_in}
use Rattle.pm3_txn.specs.Works.{Works, left_book}

-- The files opened to st. The graph g may stand just before the commit of the transaction, and w is the one after it: what was found is
-- part of g, and what was done, with the answers that there were, leads from g to w.
pub record IsWhole {R : Type 0} (t : TxnState R) (st : State) (g w : Part) : Type 0 where
  pub opens : Opens BASE (told_in t).pages (told_in t).opening st
  pub found : PartOf (found_here (told_in t) (view_in t) t.held st) g
  pub runs : (ops : List (Op × ℕ)) → Works (told_in t).opening.catalog (told_in t).pages (state_seen (told_in t) (view_in t) st) t.held ops
      → IsRun (told_in t).opening.catalog ops g w

-- this holds of each whole
pub record Knows {R : Type 0} (t : TxnState R) (P : State → Part → Type 0) : Type 0 where
  pub of : (st : State) (g w : Part) → IsWhole t st g w → P st w

-- nothing was written from a to b: each whole of b is one of a
pub record Kept {R : Type 0} (a b : TxnState R) : Type 0 where
  pub heap : b.heap ≡ a.heap
  pub was : (st : State) (g w : Part) → IsWhole b st g w → IsWhole a st g w

-- each whole of b was made of one of a like this
pub record Made {R : Type 0} (a b : TxnState R) (P : State → Part → Part → Type 0) : Type 0 where
  pub heap : b.heap ≡ a.heap
  pub from : (st : State) (g w : Part) → IsWhole b st g w → (v : Part) × IsWhole a st g v × P st v w

-- the name of the object to which a place of the row leads, and 0 where it is nil or a number
abbrev pub name_at : {R : Type 0} → TxnState R → State → ℕ → ℕ
name_at t st k =
    cond (slice_index_or t.mutator.refs k false) (name_by (left_book (state_seen (told_in t) (view_in t) st) t.held) (word_at t k)) 0

-- the name of the object that begins at a word of a page, and 0 where none does
abbrev pub name_on : {R : Type 0} → TxnState R → State → ℕ → ℕ → ℕ
name_on t st page word = name_by (left_book (state_seen (told_in t) (view_in t) st) t.held) (address BASE page word)

-- a place is tagged as a reference
abbrev pub IsReference : {R : Type 0} → TxnState R → ℕ → Type 0
IsReference t k = slice_index_or t.mutator.refs k false ≡ true

-- All places but those from one on and before another lead where they led, and each object lies where it lay.
pub record KeepsRow {R : Type 0} (a b : TxnState R) (from end : ℕ) : Type 0 where
  pub tags : (k : ℕ) → (k < from) ⊎ (end ≤ k) → slice_index_or b.mutator.refs k false ≡ slice_index_or a.mutator.refs k false
  pub names : (st : State) → Opens BASE (told_in a).pages (told_in a).opening st → (k : ℕ) → (k < from) ⊎ (end ≤ k) → name_at b st k ≡ name_at a st k
  pub spots : (st : State) → Opens BASE (told_in a).pages (told_in a).opening st → (page word : ℕ) → name_on a st page word ≢ 0 → name_on b st page word ≡ name_on a st page word

-- the store's catalog is that of designs
abbrev pub HasClasses : {R : Type 0} → TxnState R → Type 0
HasClasses t = (told_in t).opening.catalog ≡ schema

-- the objects of a graph by their names
abbrev pub look_of : Part → Look
look_of w = get w.records

-- there is an object with this name, and it has the place
pub record HasPlace (w : Part) (n : ℕ) (place : Place) : Type 0 where
  pub object : Record
  pub is : get w.records n ≡ Some object
  pub there : is_place schema object place ≡ true

-- the same objects, name by name, and the same roots
pub record IsLike (w : Part) (look : Look) (v : Part) : Type 0 where
  pub objects : (n : ℕ) → look_of w n ≡ look n
  pub roots : w.roots ≡ v.roots

-- there is an object with this name; it is of the class, and has the fields of that
pub record IsOfClass (w : Part) (n class : ℕ) : Type 0 where
  pub object : Record
  pub is : get w.records n ≡ Some object
  pub of : object.ty ≡ class
  pub map : Fields
  pub map_is : slice_get schema class ≡ Some map
  pub fields : length object.fields ≡ map.count

-- the name in a root slot
abbrev pub root_at : Part → ℕ → ℕ
root_at w slot = slice_index (unwrap_or w.roots []) slot

-- the same objects, and this name in a root slot
pub record IsRooted (w : Part) (slot n : ℕ) (v : Part) : Type 0 where
  pub objects : (m : ℕ) → look_of w m ≡ look_of v m
  pub roots : w.roots ≡ Some (slice_set (unwrap_or v.roots []) slot n)

-- a new object of a class: zeros in all places
abbrev pub blank_by : Option Fields → ℕ → ℕ → Record
blank_by None ty tail = record { ty = ty; fields = []; tail = [] }
blank_by (Some map) ty tail = blank map ty tail

abbrev pub new_object : ℕ → ℕ → Record
new_object ty tail = blank_by (slice_get schema ty) ty tail

-- a name that was nobody's has this object
pub record HasNew (w : Part) (n : ℕ) (object : Record) (v : Part) : Type 0 where
  pub some : n ≢ 0
  pub new : look_of v n ≡ None
  pub like : IsLike w (put (look_of v) n object) v

-- there is an object with this name, and its tail, where its class has one, has so many items
pub record HasTail (w : Part) (n len : ℕ) : Type 0 where
  pub object : Record
  pub is : get w.records n ≡ Some object
  pub map : Fields
  pub map_is : slice_get schema object.ty ≡ Some map
  pub long : has_tail_by map.tail ≡ true → length object.tail ≡ len
