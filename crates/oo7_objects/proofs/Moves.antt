-- From one moment of a transaction to another: each whole of the later one is one of the earlier, or was made of one.
use Rattle.std.proofs.Common.{◌≡◌, ◌∙◌, ◌++◌, ℕ, List, [], ◌∷◌, Option, refl, sym, subst}
use Rattle.atomic_table.specs.Seated.{TableId}
use Rattle.pm3_core.specs.declared.naming.TheConstants.{BASE}
use Rattle.pm3_types.specs.Graph.{Part, PartOf, with_part}
use Rattle.pm3_types.proofs.Parts.{part_of_part}
use Rattle.pm3_graph.specs.declared.operations.Op.{Op}
use Rattle.pm3_graph.specs.Frame.{FrameOfRuns}
use Rattle.pm3_graph.specs.Operation.{IsRun, IsStep}
use Rattle.pm3_access.specs.Acts.{left_part}
use Rattle.pm3_access.specs.Holding.{Holding}
use Rattle.pm3_history.specs.Opens.{Opens}
use Rattle.pm3_history.specs.State.{State}
use Rattle.pm3_table.specs.declared.view.Told.{Told}
use Rattle.pm3_txn.specs.Knowing.{state_seen}
use Rattle.pm3_txn.specs.Owners.{KeepsObjects, found_here}
use Rattle.pm3_txn.specs.States.{MutatorState, TxnState, told_in, view_in}
use Rattle.pm3_txn.specs.Touching.{Advances, nothing_more}
use Rattle.pm3_txn.specs.Underway.{IsUnderway}
use Rattle.pm3_txn.specs.Works.{Works, left_book}
use Rattle.pm3_txn.proofs.Advancing.{moment}
use Rattle.oo7_objects.specs.Wholes.{IsWhole, Kept, Made}
use Rattle.oo7_objects.proofs.Runs.{run_split, whole_is}

-- what holds of each moment over a heap holds of each transaction with that heap
pub over_heap : {R : Type 0} (heap : TableId × Told) (P : TxnState R → Type 0) → ((tag : ℕ) (m : MutatorState R) (h : Holding) → P (moment heap tag m h))
    → (t : TxnState R) → t.heap ≡ heap → P t
over_heap heap P each t same = subst (λ (x : TableId × Told). P (moment x t.tag t.mutator t.held)) (sym same) (each t.tag t.mutator t.held)

-- one operation more, and its answer, as they are whatever the files opened to
abbrev pub DoesMore : {R : Type 0} → TxnState R → TxnState R → (State → Op) → (State → ℕ) → Type 0
DoesMore a b op answer =
    (st : State) → Opens BASE (told_in a).pages (told_in a).opening st → (ops : List (Op × ℕ))
    → Works (told_in a).opening.catalog (told_in a).pages (state_seen (told_in a) (view_in a) st) a.held ops
    → Works (told_in a).opening.catalog (told_in a).pages (state_seen (told_in a) (view_in b) st) b.held (ops ++ (op st, answer st) ∷ [])

-- a transaction has done something
abbrev pub HasDone : {R : Type 0} → TxnState R → Type 0
HasDone t = (st : State) → Opens BASE (told_in t).pages (told_in t).opening st
    → (ops : List (Op × ℕ)) × Works (told_in t).opening.catalog (told_in t).pages (state_seen (told_in t) (view_in t) st) t.held ops

pub has_done : {R : Type 0} (content : R → Option (List ℕ)) (t : TxnState R) → IsUnderway content t → HasDone t
has_done content t underway = underway.holding.works

module _ {R : Type 0} where
  -- a whole is what was left, over the graph before it
  pub whole_left : FrameOfRuns → (t : TxnState R) (st : State) (g w : Part) (ops : List (Op × ℕ))
      → Works (told_in t).opening.catalog (told_in t).pages (state_seen (told_in t) (view_in t) st) t.held ops
      → PartOf (found_here (told_in t) (view_in t) t.held st) g → IsRun (told_in t).opening.catalog ops g w
      → w ≡ with_part g (left_part (told_in t).opening.catalog BASE (left_book (state_seen (told_in t) (view_in t) st) t.held) t.held)
  whole_left frame t st g w ops works found run =
      whole_is frame (told_in t).opening.catalog ops (found_here (told_in t) (view_in t) t.held st)
      (left_part (told_in t).opening.catalog BASE (left_book (state_seen (told_in t) (view_in t) st) t.held) t.held) g w works.run found run

  module _ (heap : TableId × Told) (tag late : ℕ) (m n : MutatorState R) (h k : Holding) where
    abbrev early : TxnState R
    early = moment heap tag m h

    abbrev later : TxnState R
    later = moment heap late n k

    still_whole : Advances early later nothing_more → (st : State) (g w : Part) → IsWhole later st g w → IsWhole early st g w
    still_whole goes st g w whole = record {
      opens = whole.opens;
      found = part_of_part (found_here heap.1 m.pass.1 h st) (found_here heap.1 n.pass.1 k st) g (goes.keeps.found st whole.opens) whole.found;
      runs = λ ops works. whole.runs ops (goes.works st whole.opens ops works);
    }

    stepped : FrameOfRuns → HasDone early → KeepsObjects heap.1 m.pass.1 h n.pass.1 k → (op : State → Op) (answer : State → ℕ) → DoesMore early later op answer
        → (st : State) (g w : Part) → IsWhole later st g w → (v : Part) × IsWhole early st g v × IsStep heap.1.opening.catalog (op st) v (answer st) w
    stepped frame done keeps op answer more st g w whole =
        let was = done st whole.opens in
        let split = run_split heap.1.opening.catalog was.0 (op st) (answer st) g w (whole.runs (was.0 ++ (op st, answer st) ∷ []) (more st whole.opens was.0 was.1)) in
        let found : PartOf (found_here heap.1 m.pass.1 h st) g =
        part_of_part (found_here heap.1 m.pass.1 h st) (found_here heap.1 n.pass.1 k st) g (keeps.found st whole.opens) whole.found in
        let is = whole_left frame early st g split.0 was.0 was.1 found split.1 in (
          split.0,
          record { opens = whole.opens; found = found; runs = λ ops works. again ops works found split.0 is },
          split.2,
        )
      where
        again : (ops : List (Op × ℕ)) → Works heap.1.opening.catalog heap.1.pages (state_seen heap.1 m.pass.1 st) h ops → PartOf (found_here heap.1 m.pass.1 h st) g
            → (v : Part) → v ≡ with_part g (left_part heap.1.opening.catalog BASE (left_book (state_seen heap.1 m.pass.1 st) h) h) → IsRun heap.1.opening.catalog ops g v
        again ops works found v is =
            let split = run_split heap.1.opening.catalog ops (op st) (answer st) g w (whole.runs (ops ++ (op st, answer st) ∷ []) (more st whole.opens ops works)) in
            subst (IsRun heap.1.opening.catalog ops g) (whole_left frame early st g split.0 ops works found split.1 ∙ sym is) split.1

  -- where nothing was done, nothing was written
  pub kept_by : (a b : TxnState R) → b.heap ≡ a.heap → Advances a b nothing_more → Kept a b
  kept_by a b same = over_heap a.heap (λ (t : TxnState R). Advances a t nothing_more → Kept a t)
      (λ tag m h goes. record { heap = refl; was = still_whole a.heap a.tag tag a.mutator m a.held h goes }) b same

  -- one operation more is one on the whole
  pub step_by : FrameOfRuns → (a b : TxnState R) → b.heap ≡ a.heap → HasDone a → KeepsObjects (told_in a) (view_in a) a.held (view_in b) b.held
      → (op : State → Op) (answer : State → ℕ) → DoesMore a b op answer → Made a b (λ st v w. IsStep (told_in a).opening.catalog (op st) v (answer st) w)
  step_by frame a b same done keeps op answer more =
      over_heap a.heap (λ (t : TxnState R). KeepsObjects (told_in a) (view_in a) a.held (view_in t) t.held → DoesMore a t op answer
      → Made a t (λ st v w. IsStep (told_in a).opening.catalog (op st) v (answer st) w))
      (λ tag m h keeps more. record { heap = refl; from = stepped a.heap a.tag tag a.mutator m a.held h frame done keeps op answer more }) b same keeps more
