-- Root slots of the whole.
use Rattle.std.proofs.Common.{◌≡◌, ◌<◌, ◌+◌, ◌++◌, ◌∙◌, inl, inr, ℕ, true, false, List, [], ◌∷◌, length, Option, Some, None, unwrap_or, slice_index_or, sym, ap, subst, arith}
use Rattle.std.specs.Prelude.{Ok, slice_index, slice_set}
use Rattle.std.proofs.lemmas.Bool.{false≢true}
use Rattle.std.specs.FinMap.{get}
use Rattle.pm3_types.specs.Graph.{Part, Records}
use Rattle.pm3_types.specs.Shown.{name_by}
use Rattle.pm3_graph.specs.declared.operations.Op.TheVariants as operation
use Rattle.pm3_graph.specs.Frame.{FrameOfRuns}
use Rattle.pm3_graph.specs.Operation.{IsStep, root_of, set_root_of}
use Rattle.pm3_txn.specs.declared.faults.AccessFault.{AccessFault}
use Rattle.pm3_txn.specs.declared.faults.AccessFault.TheVariants.{NotAReference, Nil, Busy, PageFault, Damaged, NoSuchField, NoSuchTail, Full, Memory}
use Rattle.pm3_txn.specs.Refusals.{IsTouchRefusal, word_at}
use Rattle.pm3_txn.specs.RootAccess.{HasRootReadInto, HasRootWritten, IsRootRefusal, IsRootStoreRefusal}
use Rattle.pm3_txn.specs.States.{TxnState, told_in, view_in}
use Rattle.pm3_txn.specs.Underway.{IsUnderway}
use Rattle.pm3_txn.specs.Works.{Works}
use Rattle.pm3_txn.specs.Knowing.{state_seen}
use Rattle.oo7_objects.specs.Refusing.{IsOfRun, IsRefusal}
use Rattle.oo7_objects.specs.Wholes.{IsReference, IsRooted, Kept, KeepsRow, Knows, Made, name_at, root_at}
use Rattle.oo7_objects.proofs.Knowing.{kept_then, known_later, known_so, made_so, made_still, made_tells}
use Rattle.oo7_objects.proofs.Moves.{DoesMore, has_done, kept_by, step_by}
use Rattle.oo7_objects.proofs.Rows.{IsStillRow, book_at, placed_name, placed_row, placed_tag, refused_row, row_still, row_then, words_later}
use Rattle.oo7_objects.proofs.Runs.{answer_in, is_made, part_in}
use Rattle.oo7_objects.proofs.Stays.{still_of, stayed_kept, stayed_row, touch_stayed}

root_facts : (v w : Part) (slot answer : ℕ) (o : Option (List ℕ)) → root_of v slot o ≡ Ok (answer, w) → (w ≡ v) × (slice_index (unwrap_or o []) slot ≡ answer)
root_facts v w slot answer None is = absurd (false≢true (ap is_made is))
root_facts v w slot answer (Some names) is = (sym (ap (part_in v) is), ap (answer_in (slice_index names slot)) is)

set_facts : (v w : Part) (slot n answer : ℕ) (o : Option (List ℕ)) → set_root_of v slot n o ≡ Ok (answer, w) → (w.records ≡ v.records) × (w.roots ≡ Some (slice_set (unwrap_or o []) slot n))
set_facts v w slot n answer None is = absurd (false≢true (ap is_made is))
set_facts v w slot n answer (Some names) is = (sym (ap (λ o. (part_in v o).records) is), sym (ap (λ o. (part_in v o).roots) is))

module _ {R : Type 0} (content : R → Option (List ℕ)) (old : TxnState R) (underway : IsUnderway content old) (frame : FrameOfRuns) where
  pub record TellsRoot (new : TxnState R) (slot j : ℕ) : Type 0 where
    pub kept : Kept old new
    pub told : Knows new (λ st w. root_at w slot ≡ name_at new st j)
    pub tag : IsReference new j
    pub row : KeepsRow old new j (j + 1)

  pub root_told : (new : TxnState R) (slot j : ℕ) → j < 512 → HasRootReadInto old new slot j → TellsRoot new slot j
  root_told new slot j low read = record {
    kept = kept_then kept after;
    told = known_later (known_so tells (λ st w is. is ∙ sym (placed_name read.mid new j read.word within read.placed st))) after;
    tag = placed_tag read.mid new j read.word within read.placed;
    row = row_then old read.mid new j (j + 1) same (row_still content old read.mid same underway read.read.goes_on.keeps (still_of old read.mid read.read.touched.same) j (j + 1))
        (placed_row read.mid new j read.word true read.placed);
  }
    where
      same : read.mid.heap ≡ old.heap
      same = read.read.touched.same.heap

      made : Made old read.mid (λ st v w. IsStep (told_in old).opening.catalog (operation.Root slot) v (name_by (book_at read.mid st) read.word) w)
      made = step_by frame old read.mid same (has_done content old underway) read.read.goes_on.keeps (λ st. operation.Root slot) (λ st. name_by (book_at read.mid st) read.word)
          (λ st opens ops works. read.read.goes_on.works st opens ops works)

      kept : Kept old read.mid
      kept = made_still made (λ st v w step. (root_facts v w slot (name_by (book_at read.mid st) read.word) v.roots step).0)

      tells : Knows read.mid (λ st w. root_at w slot ≡ name_by (book_at read.mid st) read.word)
      tells = made_tells made (λ st v w step. (let is = root_facts v w slot (name_by (book_at read.mid st) read.word) v.roots step in ap (λ (x : Part). root_at x slot) is.0 ∙ is.1))

      after : Kept read.mid new
      after = kept_by read.mid new (ap (λ (t : TxnState R). t.heap) read.placed.rest) read.placed.goes_on

      within : j < length read.mid.mutator.refs
      within =
          let long : length read.mid.mutator.refs ≡ 512 = ap length read.read.touched.same.refs ∙ underway.mutator.tags.0 in
          omega (arith, long, low)

  -- a root slot of the whole was changed
  pub record Roots (new : TxnState R) (slot i : ℕ) : Type 0 where
    pub made : Made old new (λ st v w. IsRooted w slot (name_at old st i) v)
    pub row : KeepsRow old new 0 0

  pub root_sets : (new : TxnState R) → new.heap ≡ old.heap → (slot i : ℕ) → IsReference old i → HasRootWritten old new slot (word_at old i) → Roots new slot i
  root_sets new same slot i tagged written = record {
    made = made_so (step_by frame old new same (has_done content old underway) written.goes_on.keeps (λ st. operation.SetRoot slot (name_at old st i)) (λ st. 0) more)
        (λ st v w step. (let is = set_facts v w slot (name_at old st i) 0 v.roots step in
        record { objects = λ m. ap (λ (x : Records). get x m) is.0; roots = is.1 }));
    row = row_still content old new same underway written.goes_on.keeps still 0 0;
  }
    where
      more : DoesMore old new (λ st. operation.SetRoot slot (name_at old st i)) (λ st. 0)
      more st opens ops works =
          let named : name_by (book_at written.mid st) (word_at old i) ≡ name_at old st i = words_later content old written.mid written.touched.same.heap underway written.touched.goes_on.keeps st opens i tagged in
          subst (λ (n : ℕ). Works (told_in old).opening.catalog (told_in old).pages (state_seen (told_in old) (view_in new) st) new.held (ops ++ (operation.SetRoot slot n, 0) ∷ [])) named
          (written.goes_on.works st opens ops works)

      touched : IsStillRow old written.mid
      touched = still_of old written.mid written.touched.same

      still : IsStillRow old new
      still = record {
        tags = λ k. ap (λ (t : TxnState R). slice_index_or t.mutator.refs k false) written.stored.rest ∙ touched.tags k;
        words = λ k. ap (λ (t : TxnState R). word_at t k) written.stored.rest ∙ touched.words k;
      }

touch_of_run : {R : Type 0} (faults : R → ℕ) (old new : TxnState R) (page : ℕ) (fault : AccessFault) → IsTouchRefusal faults old new page fault → IsOfRun fault
touch_of_run faults old new page (NotAReference index) x = absurd x
touch_of_run faults old new page (Nil index) x = absurd x
touch_of_run faults old new page (Busy unit word) x = tt
touch_of_run faults old new page PageFault x = tt
touch_of_run faults old new page (Damaged p word) x = tt
touch_of_run faults old new page (NoSuchField ty field) x = absurd x
touch_of_run faults old new page (NoSuchTail ty at) x = absurd x
touch_of_run faults old new page (Full what limit) x = absurd x
touch_of_run faults old new page Memory x = tt

module _ {R : Type 0} (content : R → Option (List ℕ)) (faults : R → ℕ) (old new : TxnState R) (same : new.heap ≡ old.heap) (underway : IsUnderway content old) where
  -- what stands after a refusal
  pub record RootRefused (from end : ℕ) (fault : AccessFault) : Type 0 where
    pub kept : Kept old new
    pub row : KeepsRow old new from end
    pub refused : IsRefusal old fault

  pub root_refused : (slot j : ℕ) (fault : AccessFault) → IsRootRefusal faults old new slot j fault → RootRefused j (j + 1) fault
  root_refused slot j fault (inl touch) = (let stayed = touch_stayed faults old new 2 fault touch in record {
    kept = stayed_kept old new same stayed;
    row = stayed_row content old new same underway stayed j (j + 1);
    refused = λ st opens. touch_of_run faults old new 2 fault touch;
  })
  root_refused slot j fault (inr marked) = record {
    kept = kept_by old new same marked.goes_on;
    row = row_then old marked.mid new j (j + 1) marked.read.touched.same.heap
        (row_still content old marked.mid marked.read.touched.same.heap underway marked.read.goes_on.keeps (still_of old marked.mid marked.read.touched.same) j (j + 1))
        (refused_row marked.mid new j marked.word marked.busy marked.refused);
    refused = λ st opens. subst IsOfRun (sym marked.fault_is) tt;
  }

  pub root_store_refused : (i : ℕ) (fault : AccessFault) → IsReference old i → IsRootStoreRefusal faults old new i fault → RootRefused 0 0 fault
  root_store_refused i fault tagged (inl number) = absurd (false≢true (sym number.number ∙ tagged))
  root_store_refused i fault tagged (inr refused) = (let stayed = touch_stayed faults old new 2 fault refused.1 in record {
    kept = stayed_kept old new same stayed;
    row = stayed_row content old new same underway stayed 0 0;
    refused = λ st opens. touch_of_run faults old new 2 fault refused.1;
  })
