-- A write is one operation more, and changes one place of the whole.
use Rattle.std.proofs.Common.{◌≡◌, ◌++◌, ◌∙◌, ℕ, Bool, true, false, cond, List, [], ◌∷◌, Option, slice_index_or, refl, sym, ap, subst}
use Rattle.std.specs.Prelude.{Ok}
use Rattle.std.specs.FinMap.{get}
use Rattle.pm3_core.specs.declared.naming.TheConstants.{BASE}
use Rattle.pm3_types.specs.declared.places.Place as places_of
use Rattle.pm3_types.specs.declared.places.Place.TheVariants as places
use Rattle.pm3_types.specs.Fields.{Fields}
use Rattle.pm3_types.specs.Graph.{Part}
use Rattle.pm3_types.specs.Shown.{name_by}
use Rattle.pm3_graph.specs.declared.operations.Op.{Op}
use Rattle.pm3_graph.specs.declared.operations.Op.TheVariants as operation
use Rattle.pm3_graph.specs.Frame.{FrameOfRuns}
use Rattle.pm3_graph.specs.Operation.{IsStep, write_of}
use Rattle.pm3_access.specs.declared.places.Place.{Place}
use Rattle.pm3_access.specs.declared.places.Place.TheVariants.{Field, Tail}
use Rattle.pm3_access.specs.Acts.{answer_of, write_op, write_with}
use Rattle.pm3_access.specs.Spots.{has_names}
use Rattle.pm3_history.specs.Opens.{Opens}
use Rattle.pm3_history.specs.State.{State}
use Rattle.pm3_txn.specs.Knowing.{state_seen}
use Rattle.pm3_txn.specs.Owners.{name_here}
use Rattle.pm3_txn.specs.PlaceAccess.{HasWritten}
use Rattle.pm3_txn.specs.Refusals.{HasObject, word_at}
use Rattle.pm3_txn.specs.States.{TxnState, told_in, view_in}
use Rattle.pm3_txn.specs.Underway.{IsUnderway}
use Rattle.pm3_txn.specs.Works.{Works}
use Rattle.oo7_schema.specs.Lookup.{set}
use Rattle.oo7_objects.specs.Wholes.{HasClasses, IsLike, IsReference, KeepsRow, Made, look_of, name_at}
use Rattle.oo7_objects.proofs.Knowing.{made_so}
use Rattle.oo7_objects.proofs.Moves.{DoesMore, has_done, over_heap, step_by}
use Rattle.oo7_objects.proofs.Reading.{told_by}
use Rattle.oo7_objects.proofs.Rows.{IsStillRow, book_at, object_named_at, place_known, reference_named, row_still, word_named}
use Rattle.oo7_objects.proofs.Stays.{still_of}
use Rattle.oo7_objects.proofs.Steps.{write_made}

answer_by : {R : Type 0} (t : TxnState R) (is_ref : Bool) (x : ℕ) (names : Bool) → names ≡ is_ref → (st : State) → cond names (name_by (book_at t st) x) x ≡ told_by is_ref t x st
answer_by t true x names is st = ap (λ (b : Bool). cond b (name_by (book_at t st) x) x) is
answer_by t false x names is st = ap (λ (b : Bool). cond b (name_by (book_at t st) x) x) is

module _ {R : Type 0} (content : R → Option (List ℕ)) (old : TxnState R) (underway : IsUnderway content old) where
  -- what is known of the moment at which the object's page was held
  pub record IsTouchedAt (mid : TxnState R) (i address : ℕ) : Type 0 where
    pub named : (st : State) → Opens BASE (told_in old).pages (told_in old).opening st → name_here (told_in mid) (view_in mid) mid.held st address ≡ name_at old st i
    pub words : (st : State) → Opens BASE (told_in old).pages (told_in old).opening st → (k : ℕ) → IsReference old k → name_by (book_at mid st) (word_at old k) ≡ name_at old st k

  pub touched_at : (mid : TxnState R) → mid.heap ≡ old.heap → (i address : ℕ) → HasObject old mid i address → IsTouchedAt mid i address
  touched_at mid same i address object = over_heap old.heap (λ (t : TxnState R). HasObject old t i address → IsTouchedAt t i address)
      (λ tag n g object. record {
        named = object_named_at content old underway tag n g i address object.touched.goes_on.keeps object;
        words = λ st opens k tagged. word_named (told_in old) (view_in old) n.pass.1 old.held g object.touched.goes_on.keeps (word_at old k) (place_known content old underway k tagged) st opens
            ∙ sym (reference_named content old st k tagged);
      }) mid same object

  -- the operation that was done
  write_more : (new : TxnState R) → (i : ℕ) (place : Place) (is_ref : Bool) (x : ℕ) (written : HasWritten old new i place is_ref x) → (value : State → ℕ)
      → ((st : State) → Opens BASE (told_in old).pages (told_in old).opening st → told_by is_ref written.mid x st ≡ value st)
      → (op : ℕ → ℕ → Op) → ((map : Fields) → has_names map place ≡ is_ref → (m y : ℕ) → write_with map m place y ≡ op m y)
      → DoesMore old new (λ st. op (name_at old st i) (value st)) (λ st. 0)
  write_more new i place is_ref x written value value_is op op_is st opens ops works =
      let map = written.stored.value.map in
      let at = touched_at written.mid written.object.touched.same.heap i written.address written.object in
      let first : write_op (book_at written.mid st) map (name_here (told_in written.mid) (view_in written.mid) written.mid.held st written.address) place x ≡ op (name_at old st i) (value st) =
      op_is map written.stored.value.kind (name_here (told_in written.mid) (view_in written.mid) written.mid.held st written.address) (answer_of (book_at written.mid st) map place x)
      ∙ (λ k. op (at.named st opens k) ((answer_by written.mid is_ref x (has_names map place) written.stored.value.kind st ∙ value_is st opens) k)) in
      subst (λ (o : Op). Works (told_in old).opening.catalog (told_in old).pages (state_seen (told_in old) (view_in new) st) new.held (ops ++ (o, 0) ∷ [])) first
      (written.goes_on.works st opens ops works)

  word_op : (f : ℕ) (map : Fields) → has_names map (Field f) ≡ false → (m y : ℕ) → write_with map m (Field f) y ≡ operation.SetWord m f y
  word_op f map kind m y = ap (λ (b : Bool). cond b (operation.SetReference m f y) (operation.SetWord m f y)) kind

  reference_op : (f : ℕ) (map : Fields) → has_names map (Field f) ≡ true → (m y : ℕ) → write_with map m (Field f) y ≡ operation.SetReference m f y
  reference_op f map kind m y = ap (λ (b : Bool). cond b (operation.SetReference m f y) (operation.SetWord m f y)) kind

  module _ (frame : FrameOfRuns) (classes : HasClasses old) where
    -- one place of the whole was changed, and the row is as it was
    pub record Sets (new : TxnState R) (i : ℕ) (place : places_of.Place) (value : State → ℕ) : Type 0 where
      pub made : Made old new (λ st v w. IsLike w (set (look_of v) (name_at old st i) place (value st)) v)
      pub row : (from end : ℕ) → KeepsRow old new from end

    sets : (new : TxnState R) → new.heap ≡ old.heap → (i : ℕ) (place : Place) (is_ref : Bool) (x : ℕ) (written : HasWritten old new i place is_ref x) → (value : State → ℕ)
        → ((st : State) → Opens BASE (told_in old).pages (told_in old).opening st → told_by is_ref written.mid x st ≡ value st)
        → (op : ℕ → ℕ → Op) → ((map : Fields) → has_names map place ≡ is_ref → (m y : ℕ) → write_with map m place y ≡ op m y)
        → (p : places_of.Place) → ((n y : ℕ) (v w : Part) → IsStep (told_in old).opening.catalog (op n y) v 0 w → write_of (told_in old).opening.catalog v n p y (get v.records n) ≡ Ok (0, w))
        → Sets new i p value
    sets new same i place is_ref x written value value_is op op_is p step_is = record {
      made = made_so (step_by frame old new same (has_done content old underway) written.goes_on.keeps (λ st. op (name_at old st i) (value st)) (λ st. 0)
          (write_more new i place is_ref x written value value_is op op_is))
          (λ st v w step. write_made (told_in old).opening.catalog v w (name_at old st i) (value st) 0 p classes (step_is (name_at old st i) (value st) v w step));
      row = λ from end. row_still content old new same underway written.goes_on.keeps still from end;
    }
      where
        touched : IsStillRow old written.mid
        touched = still_of old written.mid written.object.touched.same

        still : IsStillRow old new
        still = record {
          tags = λ k. ap (λ (t : TxnState R). slice_index_or t.mutator.refs k false) written.stored.rest ∙ touched.tags k;
          words = λ k. ap (λ (t : TxnState R). word_at t k) written.stored.rest ∙ touched.words k;
        }

    pub word_sets : (new : TxnState R) → new.heap ≡ old.heap → (i f x : ℕ) → HasWritten old new i (Field f) false x → Sets new i (places.Word f) (λ st. x)
    word_sets new same i f x written = sets new same i (Field f) false x written (λ st. x) (λ st opens. refl) (λ m y. operation.SetWord m f y) (word_op f) (places.Word f) (λ n y v w step. step)

    pub field_sets : (new : TxnState R) → new.heap ≡ old.heap → (i f k : ℕ) → IsReference old k → HasWritten old new i (Field f) true (word_at old k)
        → Sets new i (places.Reference f) (λ st. name_at old st k)
    field_sets new same i f k tagged written = sets new same i (Field f) true (word_at old k) written (λ st. name_at old st k)
        (λ st opens. (touched_at written.mid written.object.touched.same.heap i written.address written.object).words st opens k tagged)
        (λ m y. operation.SetReference m f y) (reference_op f) (places.Reference f) (λ n y v w step. step)

    pub item_sets : (new : TxnState R) → new.heap ≡ old.heap → (i at k : ℕ) → IsReference old k → HasWritten old new i (Tail at) true (word_at old k)
        → Sets new i (places.TailRef at) (λ st. name_at old st k)
    item_sets new same i at k tagged written = sets new same i (Tail at) true (word_at old k) written (λ st. name_at old st k)
        (λ st opens. (touched_at written.mid written.object.touched.same.heap i written.address written.object).words st opens k tagged)
        (λ m y. operation.SetTailRef m at y) (λ map kind m y. refl) (places.TailRef at) (λ n y v w step. step)
