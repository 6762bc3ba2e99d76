-- Each access to a root slot is one operation more of its transaction.
use Rattle.std.proofs.Common.{◌≡◌, ◌<◌, ◌∙◌, ℕ, true, List, Option, Some, refl, sym, subst}
use Rattle.atomic_table.specs.Seated.{TableId}
use Rattle.pm3_access.specs.Holding.{Holding}
use Rattle.pm3_access.specs.Roots.{root_held, root_written, images_rooted}
use Rattle.pm3_table.specs.declared.unit.Busy.{Busy}
use Rattle.pm3_table.specs.declared.view.Told.{Told}
use Rattle.pm3_txn.specs.declared.faults.AccessFault.{AccessFault}
use Rattle.pm3_txn.specs.Placing.{IsPlaced, IsRefusedPlace, busy_fault}
use Rattle.pm3_txn.specs.Refusals.{with_read, word_at}
use Rattle.pm3_txn.specs.RootAccess.{HasRootRead, HasRootReadInto, HasRootStored, HasRootWritten, IsRootMarked}
use Rattle.pm3_txn.specs.States.{MutatorState, TxnState, told_in, view_in}
use Rattle.pm3_txn.specs.Touching.{HasTouched, nothing_more}
use Rattle.pm3_txn.specs.Owners.{WorksOn, IsHolding, KnowsWordHere, root_reads_here, root_writes_here}
use Rattle.pm3_txn.specs.Underway.{IsUnderway}
use Rattle.pm3_txn.proofs.Advancing.{moment, advances_both}
use Rattle.pm3_txn.proofs.Keeping.{keeps_same, row_kept}
use Rattle.pm3_txn.proofs.OwnerAnswers.{holdings_read_root, holdings_write_root}
use Rattle.pm3_txn.proofs.KeepingWrites.{keeps_rooted, same_space}
use Rattle.pm3_txn.proofs.NamesBelow.{names_same}

module _ {R : Type 0} (content : R → Option (List ℕ)) where
  -- an address that stands in a slot of the page that was touched
  module _ (old new : TxnState R) (slot x : ℕ) (low : slot < 16) (underway : IsUnderway content new) (touched : HasTouched old new 2 nothing_more) (is : root_held new.held slot ≡ Some x) where
    step : WorksOn (told_in new) (view_in new) new.held (view_in new) new.held (root_reads_here (told_in new) (view_in new) new.held slot x) × KnowsWordHere (told_in new) (view_in new) new.held x
    step = holdings_read_root (told_in new) (view_in new) new.mutator.space new.held slot x low underway.holding is

    pub root_here : HasRootRead old new slot x
    root_here = record {
      touched = touched;
      value = is;
      goes_on = advances_both old new new nothing_more _ touched.same.heap touched.goes_on (record { works = step.0; keeps = (keeps_same (told_in new) (view_in new) (view_in new) new.held refl).objects });
    }

    pub root_word_here : KnowsWordHere (told_in new) (view_in new) new.held x
    root_word_here = step.1

  -- an address that was written there
  module _ (heap : TableId × Told) (m : MutatorState R) (h now : Holding) (tag slot x : ℕ) (low : slot < 16) (was : IsUnderway content (moment heap tag m h))
      (word : KnowsWordHere heap.1 m.pass.1 h x) (is : root_written h slot x ≡ Some now) where
    step_on : WorksOn heap.1 m.pass.1 h m.pass.1 now (root_writes_here heap.1 m.pass.1 h slot x) × IsHolding heap.1 m.pass.1 m.space now
    step_on = holdings_write_root heap.1 m.pass.1 m.space h now slot x low was.holding was.mutator.lawful word is

    pub root_store_underway : IsUnderway content (moment heap tag m now)
    root_store_underway = record {
      mutator = was.mutator;
      known = row_kept heap.1 m.pass.1 m.pass.1 h now (keeps_rooted heap.1 m.pass.1 h now slot x is) m.refs m.wrote (λ q. refl) was.known;
      holding = step_on.1;
      named = names_same m.next_name h now (same_space h now (images_rooted h.pages slot x) is) was.named;
    }

    pub root_stored_here : HasRootStored (moment heap tag m h) (moment heap tag m now) slot x
    root_stored_here = record { rest = refl; written = is; goes_on = record { works = step_on.0; keeps = (keeps_rooted heap.1 m.pass.1 h now slot x is).objects } }

module _ {R : Type 0} where
  pub root_placed : (old mid new : TxnState R) (slot j x : ℕ) → HasRootRead old mid slot x → IsPlaced mid new j x true → HasRootReadInto old new slot j
  root_placed old mid new slot j x read placed = record {
    mid = mid;
    word = x;
    read = read;
    placed = placed;
    goes_on = advances_both old mid new _ nothing_more read.touched.same.heap read.goes_on placed.goes_on;
  }

  pub root_marked : (old mid new : TxnState R) (slot j x : ℕ) (busy : Busy) (fault : AccessFault) → HasRootRead old mid slot x → IsRefusedPlace mid new j x busy → fault ≡ busy_fault busy
      → IsRootMarked old new slot j fault
  root_marked old mid new slot j x busy fault read refused is = record {
    mid = mid;
    word = x;
    read = read;
    busy = busy;
    refused = refused;
    fault_is = is;
    goes_on = advances_both old mid new nothing_more nothing_more read.touched.same.heap read.touched.goes_on refused.goes_on;
  }

  -- a word of the row that was read once page 2 was held
  touched_read : (old mid : TxnState R) (k : ℕ) → HasTouched old mid 2 nothing_more → HasTouched old (with_read mid k) 2 nothing_more
  touched_read old mid k t = (let s = t.same in record {
    same = record { heap = s.heap; tag = s.tag; table = s.table; space = s.space; refs = s.refs; wrote = s.wrote; words = s.words; stands = s.stands; marks = s.marks; row = s.row; mine = s.mine; faults = s.faults };
    drew = t.drew;
    refusals = t.refusals;
    holds = t.holds;
    held = t.held;
    others = t.others;
    goes_on = record { works = t.goes_on.works; keeps = record { usable = t.goes_on.keeps.usable; objects = t.goes_on.keeps.objects; found = t.goes_on.keeps.found } };
  })

  pub root_stored_from : (old mid next new : TxnState R) (slot k x : ℕ) → HasTouched old mid 2 nothing_more → next ≡ with_read mid k → x ≡ word_at mid k → HasRootStored next new slot x
      → HasRootWritten old new slot (word_at old k)
  root_stored_from old mid next new slot k x touched read word stored =
      let then : HasTouched old next 2 nothing_more = subst (λ t. HasTouched old t 2 nothing_more) (sym read) (touched_read old mid k touched) in
      subst (HasRootWritten old new slot) (word ∙ touched.same.words k) (record {
        mid = next;
        touched = then;
        stored = stored;
        goes_on = advances_both old next new nothing_more _ then.same.heap then.goes_on stored.goes_on;
      })
