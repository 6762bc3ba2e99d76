-- A transaction that goes on call after call.
use Rattle.std.proofs.Common.{◌≡◌, ◌<◌, ◌∙◌, ℕ, Bool, true, List, Option, length, refl, sym, ap, subst, arith}
use Rattle.atomic_table.specs.Seated.{TableId}
use Rattle.pm3_core.specs.declared.naming.TheConstants.{BASE}
use Rattle.pm3_graph.specs.declared.operations.Op.{Op}
use Rattle.pm3_access.specs.Holding.{Holding}
use Rattle.pm3_history.specs.Entry.{Done}
use Rattle.pm3_history.specs.State.{State, now}
use Rattle.pm3_table.specs.declared.unit.Busy.{Busy}
use Rattle.pm3_table.specs.declared.view.Told.{Told}
use Rattle.pm3_table.specs.declared.view.View.{View}
use Rattle.pm3_table.specs.Deeds.{word_of}
use Rattle.pm3_table.specs.Holds.{is_in}
use Rattle.pm3_txn.specs.DrawnLaws.{IsAlike}
use Rattle.pm3_txn.specs.Owners.{AdvancesOn, HasNamesBelow, IsHolding, KnowsWordHere, RemembersHere}
use Rattle.pm3_txn.specs.Placing.{IsPlaced, IsRefusedPlace, IsCleared}
use Rattle.pm3_txn.specs.Puts.{HasPut, IsPinned, IsMarked}
use Rattle.pm3_txn.specs.States.{MutatorState, TxnState, told_in, view_in}
use Rattle.pm3_txn.specs.Touching.{Advances, nothing_more}
use Rattle.pm3_txn.specs.Underway.{IsMutatorOf, IsUnderway}
use Rattle.pm3_txn.specs.Works.{Works}
use Rattle.pm3_txn.proofs.Keeping.{keeps_same, objects_both, row_kept, row_written}
use Rattle.pm3_txn.proofs.OwnerDraws.{holdings_draw}

-- one call after another
pub advances_both : {R : Type 0} (old mid new : TxnState R) (first second : State → List (Op × ℕ) → List (Op × ℕ)) → mid.heap ≡ old.heap
    → Advances old mid first → Advances mid new second → Advances old new (λ st done. second st (first st done))
advances_both old mid new first second same before after =
    let then : AdvancesOn (told_in old) (view_in mid) mid.held (view_in new) new.held second =
    subst (λ (heap : TableId × Told). AdvancesOn heap.1 (view_in mid) mid.held (view_in new) new.held second) same after in
    record {
      works = λ st opens done works. then.works st opens (first st done) (before.works st opens done works);
      keeps = objects_both (told_in old) (view_in old) (view_in mid) (view_in new) old.held mid.held new.held before.keeps then.keeps;
    }

-- a view that has seen nothing more
pub goes_still : (told : Told) (v w : View) (h : Holding) → w.seen ≡ v.seen → AdvancesOn told v h w h nothing_more
goes_still told v w h seen = record {
  works = λ st opens done works. subst (λ (l : List Done). Works told.opening.catalog told.pages (now told.opening.catalog BASE st l) h done) (sym seen) works;
  keeps = (keeps_same told v w h seen).objects;
}

-- which did something with its row alone, or was refused
pub alike_by : (v w : View) → w ≡ record v { log = w.log; refusals = w.refusals } → IsAlike v w
alike_by v w is = record {
  seen = ap (λ (x : View). x.seen) is;
  holds = ap (λ (x : View). x.holds) is;
  steady = ap (λ (x : View). x.steady) is;
  names = λ n has. ap (λ (x : View). is_in n x.names) is ∙ has;
}

pub holding_by : (told : Told) (v w : View) (number : ℕ) (h : Holding) → w ≡ record v { log = w.log; refusals = w.refusals } → IsHolding told v number h → IsHolding told w number h
holding_by told v w number h is holding = (holdings_draw told v w number h (alike_by v w is) (ap (λ (x : View). x.spans) is) holding).1

-- a transaction over the heap, at the moment of this mutator and what is held
abbrev pub moment : {R : Type 0} → TableId × Told → ℕ → MutatorState R → Holding → TxnState R
moment heap tag m h = record { heap = heap; mutator = m; held = h; tag = tag }

module _ {R : Type 0} (content : R → Option (List ℕ)) (heap : TableId × Told) (m n : MutatorState R) (h : Holding) (tag : ℕ) where
  -- with the words of its row as they were
  pub still_underway : n.pass.1 ≡ record m.pass.1 { log = n.pass.1.log; refusals = n.pass.1.refusals } → ((q : ℕ) → word_of n.pass.1.log q ≡ word_of m.pass.1.log q)
      → n.refs ≡ m.refs → n.wrote ≡ m.wrote → n.space ≡ m.space → n.next_name ≡ m.next_name → IsUnderway content (moment heap tag m h) → IsMutatorOf content heap n → IsUnderway content (moment heap tag n h)
  still_underway view words refs wrote space next was kept = record {
    mutator = kept;
    known = subst (λ (l : List Bool × List Bool). RemembersHere heap.1 n.pass.1 h l.0 l.1) (λ i. (sym refs i, sym wrote i))
        (row_kept heap.1 m.pass.1 n.pass.1 h h (keeps_same heap.1 m.pass.1 n.pass.1 h (ap (λ (x : View). x.seen) view)) m.refs m.wrote words was.known);
    holding = subst (λ (k : ℕ). IsHolding heap.1 n.pass.1 k h) (sym space) (holding_by heap.1 m.pass.1 n.pass.1 m.space h view was.holding);
    named = subst (λ (k : ℕ). HasNamesBelow k h) (sym next) was.named;
  }

  -- a word was put at a place of the row
  module _ (j word : ℕ) (is_ref : Bool) (put : HasPut m n j word is_ref) where
    same_seen : n.pass.1.seen ≡ m.pass.1.seen
    same_seen = ap (λ (v : View). v.seen) put.view.1

    pub put_underway : j < 512 → (is_ref ≡ true → KnowsWordHere heap.1 m.pass.1 h word) → IsUnderway content (moment heap tag m h) → IsMutatorOf content heap n → IsUnderway content (moment heap tag n h)
    put_underway low knows was kept = record {
      mutator = kept;
      known = subst (λ (l : List Bool × List Bool). RemembersHere heap.1 n.pass.1 h l.0 l.1) (λ i. (sym put.refs i, sym put.wrote i))
          (row_written heap.1 m.pass.1 n.pass.1 h h (keeps_same heap.1 m.pass.1 n.pass.1 h same_seen) m.refs m.wrote j word is_ref
          (let long : length m.refs ≡ 512 = was.mutator.tags.0 in omega (arith, long, low)) (let long : length m.wrote ≡ 512 = was.mutator.tags.1 in omega (arith, long, low)) put.words knows was.known);
      holding = subst (λ (k : ℕ). IsHolding heap.1 n.pass.1 k h) (sym put.space) (holding_by heap.1 m.pass.1 n.pass.1 m.space h put.view.1 was.holding);
      named = subst (λ (k : ℕ). HasNamesBelow k h) (sym put.next_name) was.named;
    }

    pub put_placed : IsPinned heap.1.pages n j → n.pass.1.refusals ≡ m.pass.1.refusals → IsPlaced (moment heap tag m h) (moment heap tag n h) j word is_ref
    put_placed pinned calm = record { rest = refl; put = put; pinned = pinned; calm = calm; goes_on = goes_still heap.1 m.pass.1 n.pass.1 h same_seen }

  pub put_marked : (j word : ℕ) (busy : Busy) → HasPut m n j 0 true → IsMarked heap.1.pages word m n busy → IsRefusedPlace (moment heap tag m h) (moment heap tag n h) j word busy
  put_marked j word busy put marked = record { rest = refl; put = put; marked = marked; goes_on = goes_still heap.1 m.pass.1 n.pass.1 h (ap (λ (v : View). v.seen) put.view.1) }

  pub put_cleared : (j : ℕ) → HasPut m n j 0 true → n.pass.1.refusals ≡ m.pass.1.refusals → IsCleared (moment heap tag m h) (moment heap tag n h) j
  put_cleared j put calm = record { rest = refl; put = put; calm = calm; goes_on = goes_still heap.1 m.pass.1 n.pass.1 h (ap (λ (v : View). v.seen) put.view.1) }
