-- Each access to a place of an object is one operation more of its transaction.
use Rattle.std.proofs.Common.{◌≡◌, ◌∙◌, ℕ, Bool, true, List, Option, refl, sym, subst}
use Rattle.atomic_table.specs.Seated.{TableId}
use Rattle.pm3_core.specs.declared.naming.TheConstants.{BASE}
use Rattle.pm3_access.specs.declared.places.Place.{Place}
use Rattle.pm3_access.specs.Access.{is_object_held}
use Rattle.pm3_access.specs.Holding.{Holding}
use Rattle.pm3_access.specs.Spots.{IsValueFor, has_names}
use Rattle.pm3_table.specs.declared.unit.Busy.{Busy}
use Rattle.pm3_table.specs.declared.view.Told.{Told}
use Rattle.pm3_txn.specs.declared.faults.AccessFault.{AccessFault}
use Rattle.pm3_txn.specs.ObjectValues.{HasValue, HasNewValue, Lacks}
use Rattle.pm3_txn.specs.PlaceAccess.{HasRead, HasReadInto, HasStored, HasWritten, IsReadMarked, IsLacking, lack_of}
use Rattle.pm3_txn.specs.Placing.{IsPlaced, IsRefusedPlace, busy_fault}
use Rattle.pm3_txn.specs.Refusals.{HasObject, with_read, word_at}
use Rattle.pm3_txn.specs.States.{MutatorState, TxnState, told_in, view_in}
use Rattle.pm3_txn.specs.Touching.{nothing_more}
use Rattle.pm3_txn.specs.Owners.{WorksOn, IsHolding, KnowsHere, KnowsWordHere, own_use, reads_here, writes_here}
use Rattle.pm3_txn.specs.Underway.{IsUnderway}
use Rattle.pm3_txn.proofs.Advancing.{moment, advances_both}
use Rattle.pm3_txn.proofs.Keeping.{Keeps, keeps_same, row_kept}
use Rattle.pm3_txn.proofs.KeepingWrites.{keeps_written}
use Rattle.pm3_txn.proofs.NamesBelow.{names_written}
use Rattle.pm3_txn.proofs.OwnerAnswers.{holdings_read, holdings_write}

module _ {R : Type 0} (content : R → Option (List ℕ)) where
  -- a value that stands at a place of an object whose page was touched
  module _ (old new : TxnState R) (i a : ℕ) (place : Place) (is_ref : Bool) (x : ℕ) (underway : IsUnderway content new) (object : HasObject old new i a)
      (has : HasValue (told_in new) new.held a place is_ref x) where
    step : WorksOn (told_in new) (view_in new) new.held (view_in new) new.held (reads_here (told_in new) (view_in new) new.held a has.map place x)
        × (has_names has.map place ≡ true → KnowsWordHere (told_in new) (view_in new) new.held x)
    step = holdings_read (told_in new) (view_in new) new.mutator.space new.held a x has.map place underway.holding object.known object.object has.map_is has.value

    pub read_here : HasRead old new i place is_ref x
    read_here = record {
      address = a;
      object = object;
      value = has;
      goes_on = advances_both old new new nothing_more _ object.touched.same.heap object.touched.goes_on (record { works = step.0; keeps = (keeps_same (told_in new) (view_in new) (view_in new) new.held refl).objects });
    }

    -- is known where it is a reference
    pub word_read : is_ref ≡ true → KnowsWordHere (told_in new) (view_in new) new.held x
    word_read is = step.1 (has.kind ∙ is)

  -- a value that was written there
  module _ (heap : TableId × Told) (m : MutatorState R) (h now : Holding) (tag a : ℕ) (place : Place) (is_ref : Bool) (x : ℕ) (was : IsUnderway content (moment heap tag m h))
      (object : is_object_held BASE h a ≡ true) (known : KnowsHere heap.1 m.pass.1 h a) (value : IsValueFor place x) (word : is_ref ≡ true → KnowsWordHere heap.1 m.pass.1 h x)
      (has : HasNewValue heap.1 h now a place is_ref x) where
    word_for : has_names has.map place ≡ true → KnowsWordHere heap.1 m.pass.1 h x
    word_for names = word (sym has.kind ∙ names)

    step_on : WorksOn heap.1 m.pass.1 h m.pass.1 now (writes_here heap.1 m.pass.1 h a has.map place x) × IsHolding heap.1 m.pass.1 m.space now
    step_on = holdings_write heap.1 m.pass.1 m.space h now a x has.map place was.holding was.mutator.lawful known object has.map_is value word_for has.written

    keeps_on : Keeps heap.1 m.pass.1 h m.pass.1 now
    keeps_on = keeps_written heap.1 m.pass.1 m.space h now a x has.map place was.holding was.mutator.lawful known object has.map_is value word_for has.written

    pub store_underway : IsUnderway content (moment heap tag m now)
    store_underway = record {
      mutator = was.mutator;
      known = row_kept heap.1 m.pass.1 m.pass.1 h now keeps_on m.refs m.wrote (λ q. refl) was.known;
      holding = step_on.1;
      named = names_written m.next_name h now heap.1.opening.catalog (own_use heap.1 m.pass.1 h) a x place was.holding.places step_on.1.places was.holding.form object has.written was.named;
    }

    pub stored_here : HasStored (moment heap tag m h) (moment heap tag m now) a place is_ref x
    stored_here = record { rest = refl; value = has; goes_on = record { works = step_on.0; keeps = keeps_on.objects } }

module _ {R : Type 0} where
  -- a reference that was read and then put, or refused
  pub read_placed : (old mid new : TxnState R) (i : ℕ) (place : Place) (j x : ℕ) → HasRead old mid i place true x → IsPlaced mid new j x true → HasReadInto old new i place j
  read_placed old mid new i place j x read placed = record {
    mid = mid;
    word = x;
    read = read;
    placed = placed;
    goes_on = advances_both old mid new _ nothing_more read.object.touched.same.heap read.goes_on placed.goes_on;
  }

  pub read_marked : (old mid new : TxnState R) (i : ℕ) (place : Place) (j x : ℕ) (busy : Busy) (fault : AccessFault) → HasRead old mid i place true x → IsRefusedPlace mid new j x busy
      → fault ≡ busy_fault busy → IsReadMarked old new i place j fault
  read_marked old mid new i place j x busy fault read refused is = record {
    mid = mid;
    word = x;
    read = read;
    busy = busy;
    refused = refused;
    fault_is = is;
    goes_on = advances_both old mid new nothing_more nothing_more read.object.touched.same.heap read.object.touched.goes_on refused.goes_on;
  }

  -- a value that was written once the object's page was held
  pub object_stored : (old mid new : TxnState R) (i a : ℕ) (place : Place) (is_ref : Bool) (x : ℕ) → HasObject old mid i a → HasStored mid new a place is_ref x → HasWritten old new i place is_ref x
  object_stored old mid new i a place is_ref x object stored = record {
    mid = mid;
    address = a;
    object = object;
    stored = stored;
    goes_on = advances_both old mid new nothing_more _ object.touched.same.heap object.touched.goes_on stored.goes_on;
  }

  -- a word of the row that was read then
  pub object_read : (old mid : TxnState R) (i a k : ℕ) → HasObject old mid i a → HasObject old (with_read mid k) i a
  object_read old mid i a k object =
      let t = object.touched in
      let s = object.touched.same in record {
        place = object.place;
        word = object.word;
        known = record { usable = object.known.usable; object = object.known.object };
        touched = record {
          same = record { heap = s.heap; tag = s.tag; table = s.table; space = s.space; refs = s.refs; wrote = s.wrote; words = s.words; stands = s.stands; marks = s.marks; row = s.row; mine = s.mine; faults = s.faults };
          drew = t.drew;
          refusals = t.refusals;
          holds = t.holds;
          held = t.held;
          others = t.others;
          goes_on = record { works = t.goes_on.works; keeps = record { usable = t.goes_on.keeps.usable; objects = t.goes_on.keeps.objects; found = t.goes_on.keeps.found } };
        };
        object = object.object;
      }

  pub object_stored_from : (old mid next new : TxnState R) (i a k : ℕ) (place : Place) (x : ℕ) → HasObject old mid i a → next ≡ with_read mid k → x ≡ word_at mid k
      → HasStored next new a place true x → HasWritten old new i place true (word_at old k)
  object_stored_from old mid next new i a k place x object read word stored =
      subst (HasWritten old new i place true) (word ∙ object.touched.same.words k)
      (object_stored old next new i a place true x (subst (λ t. HasObject old t i a) (sym read) (object_read old mid i a k object)) stored)

  -- a place that the object lacks
  pub lacking_from : (old mid next new : TxnState R) (i a k : ℕ) (place : Place) (type : ℕ) (fault : AccessFault) → HasObject old mid i a → next ≡ with_read mid k → new ≡ next
      → Lacks (told_in next) next.held a place true type → fault ≡ lack_of type place → IsLacking old new i place true fault
  lacking_from old mid next new i a k place type fault object read same lacks is = record {
    type = type;
    address = a;
    object = subst (λ t. HasObject old t i a) (sym (same ∙ read)) (object_read old mid i a k object);
    lacks = subst (λ t. Lacks (told_in t) t.held a place true type) (sym same) lacks;
    fault_is = is;
  }
