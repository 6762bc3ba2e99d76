-- A read is one operation more, and tells of the whole.
use Rattle.std.proofs.Common.{◌≡◌, ◌<◌, ◌+◌, ◌++◌, ◌∙◌, ℕ, Bool, true, false, cond, List, [], ◌∷◌, length, Option, refl, sym, ap, subst, arith}
use Rattle.std.specs.Prelude.{Ok}
use Rattle.std.specs.FinMap.{get}
use Rattle.pm3_types.specs.declared.places.Place as places_of
use Rattle.pm3_types.specs.declared.places.Place.TheVariants as places
use Rattle.pm3_types.specs.Fields.{Fields}
use Rattle.pm3_types.specs.Graph.{Part}
use Rattle.pm3_types.specs.Shown.{name_by}
use Rattle.pm3_graph.specs.declared.operations.Op.{Op}
use Rattle.pm3_graph.specs.declared.operations.Op.TheVariants as operation
use Rattle.pm3_graph.specs.Frame.{FrameOfRuns}
use Rattle.pm3_graph.specs.Operation.{IsStep, read_of}
use Rattle.pm3_access.specs.declared.places.Place.{Place}
use Rattle.pm3_access.specs.declared.places.Place.TheVariants.{Field, Tail}
use Rattle.pm3_access.specs.Acts.{answer_of, read_op}
use Rattle.pm3_access.specs.Holding.{Holding}
use Rattle.pm3_access.specs.Spots.{has_names}
use Rattle.pm3_history.specs.State.{State}
use Rattle.pm3_txn.specs.Knowing.{state_seen}
use Rattle.pm3_txn.specs.Owners.{name_here}
use Rattle.pm3_txn.specs.PlaceAccess.{HasRead, HasReadInto}
use Rattle.pm3_txn.specs.Placing.{IsPlaced}
use Rattle.pm3_txn.specs.States.{MutatorState, TxnState, told_in}
use Rattle.pm3_txn.specs.Underway.{IsUnderway}
use Rattle.pm3_txn.specs.Works.{Works}
use Rattle.pm3_txn.proofs.Advancing.{moment}
use Rattle.oo7_schema.specs.Lookup.{value_in}
use Rattle.oo7_objects.specs.Wholes.{HasClasses, IsReference, Kept, KeepsRow, Knows, Made, look_of, name_at}
use Rattle.oo7_objects.proofs.Knowing.{kept_then, known_later, known_so, made_still, made_tells}
use Rattle.oo7_objects.proofs.Moves.{DoesMore, has_done, kept_by, over_heap, step_by}
use Rattle.oo7_objects.proofs.Rows.{book_at, object_named_at, placed_name, placed_row, placed_tag, row_still, row_then}
use Rattle.oo7_objects.proofs.Stays.{still_of}
use Rattle.oo7_objects.proofs.Steps.{read_told}

-- what the answer to a read is in the graph: the word itself, or the name for which it stands
abbrev pub told_by : {R : Type 0} → Bool → TxnState R → ℕ → State → ℕ
told_by true t x st = name_by (book_at t st) x
told_by false t x st = x

answer_by : {R : Type 0} (t : TxnState R) (map : Fields) (place : Place) (is_ref : Bool) (x : ℕ) (names : Bool) → names ≡ is_ref → (st : State)
    → cond names (name_by (book_at t st) x) x ≡ told_by is_ref t x st
answer_by t map place true x names is st = ap (λ (b : Bool). cond b (name_by (book_at t st) x) x) is
answer_by t map place false x names is st = ap (λ (b : Bool). cond b (name_by (book_at t st) x) x) is

module _ {R : Type 0} (content : R → Option (List ℕ)) (old : TxnState R) (underway : IsUnderway content old) where
  read_more_at : (tag : ℕ) (n : MutatorState R) (g : Holding) (i : ℕ) (place : Place) (is_ref : Bool) (x : ℕ) (read : HasRead old (moment old.heap tag n g) i place is_ref x)
      → (op : ℕ → Op) → ((m : ℕ) → read_op read.value.map m place ≡ op m) → DoesMore old (moment old.heap tag n g) (λ st. op (name_at old st i)) (told_by is_ref (moment old.heap tag n g) x)
  read_more_at tag n g i place is_ref x read op op_is st opens ops works =
      let named : name_here (told_in old) n.pass.1 g st read.address ≡ name_at old st i = object_named_at content old underway tag n g i read.address read.goes_on.keeps read.object st opens in
      let first : read_op read.value.map (name_here (told_in old) n.pass.1 g st read.address) place ≡ op (name_at old st i) = op_is (name_here (told_in old) n.pass.1 g st read.address) ∙ ap op named in
      let second : answer_of (book_at (moment old.heap tag n g) st) read.value.map place x ≡ told_by is_ref (moment old.heap tag n g) x st =
      answer_by (moment old.heap tag n g) read.value.map place is_ref x _ read.value.kind st in
      subst (λ (e : Op × ℕ). Works (told_in old).opening.catalog (told_in old).pages (state_seen (told_in old) n.pass.1 st) g (ops ++ e ∷ [])) (λ k. (first k, second k))
      (read.goes_on.works st opens ops works)

  pub read_more : (mid : TxnState R) → mid.heap ≡ old.heap → (i : ℕ) (place : Place) (is_ref : Bool) (x : ℕ) → HasRead old mid i place is_ref x
      → (op : ℕ → Op) → ((map : Fields) → has_names map place ≡ is_ref → (m : ℕ) → read_op map m place ≡ op m) → DoesMore old mid (λ st. op (name_at old st i)) (told_by is_ref mid x)
  read_more mid same i place is_ref x read op op_is =
      over_heap old.heap (λ (t : TxnState R). HasRead old t i place is_ref x → DoesMore old t (λ st. op (name_at old st i)) (told_by is_ref t x))
      (λ tag n g read. read_more_at tag n g i place is_ref x read op (op_is read.value.map read.value.kind)) mid same read

  -- the operations that read words and references
  word_op : (f : ℕ) (map : Fields) → has_names map (Field f) ≡ false → (m : ℕ) → read_op map m (Field f) ≡ operation.Word m f
  word_op f map kind m = ap (λ (b : Bool). cond b (operation.Reference m f) (operation.Word m f)) kind

  reference_op : (f : ℕ) (map : Fields) → has_names map (Field f) ≡ true → (m : ℕ) → read_op map m (Field f) ≡ operation.Reference m f
  reference_op f map kind m = ap (λ (b : Bool). cond b (operation.Reference m f) (operation.Word m f)) kind

  module _ (frame : FrameOfRuns) (classes : HasClasses old) where
    -- a word that was read
    pub record TellsWord (new : TxnState R) (i f x : ℕ) : Type 0 where
      pub kept : Kept old new
      pub told : Knows new (λ st w. value_in (look_of w (name_at old st i)) (places.Word f) ≡ x)

    word_read : (new : TxnState R) → new.heap ≡ old.heap → (i f x : ℕ) → HasRead old new i (Field f) false x → Made old new (λ st v w. IsStep (told_in old).opening.catalog (operation.Word (name_at old st i) f) v x w)
    word_read new same i f x read = step_by frame old new same (has_done content old underway) read.goes_on.keeps (λ st. operation.Word (name_at old st i) f) (λ st. x)
        (read_more new same i (Field f) false x read (λ m. operation.Word m f) (word_op f))

    pub word_told : (new : TxnState R) → new.heap ≡ old.heap → (i f x : ℕ) → HasRead old new i (Field f) false x → TellsWord new i f x
    word_told new same i f x read =
        let made = word_read new same i f x read in record {
          kept = made_still made (λ st v w step. (read_told (told_in old).opening.catalog v w (name_at old st i) x (places.Word f) classes step).0);
          told = made_tells made (λ st v w step. (read_told (told_in old).opening.catalog v w (name_at old st i) x (places.Word f) classes step).1);
        }

    pub read_row : (new : TxnState R) → new.heap ≡ old.heap → (i : ℕ) (place : Place) (is_ref : Bool) (x : ℕ) → HasRead old new i place is_ref x → (from end : ℕ) → KeepsRow old new from end
    read_row new same i place is_ref x read = row_still content old new same underway read.goes_on.keeps (still_of old new read.object.touched.same)

    -- a reference that was read so, and put at place j
    pub record TellsReference (new : TxnState R) (i j : ℕ) (place : places_of.Place) : Type 0 where
      pub kept : Kept old new
      pub told : Knows new (λ st w. value_in (look_of w (name_at old st i)) place ≡ name_at new st j)
      pub tag : IsReference new j
      pub row : KeepsRow old new j (j + 1)

    reference_told : (mid new : TxnState R) → mid.heap ≡ old.heap → (i j word : ℕ) (place : Place) → j < 512 → HasRead old mid i place true word → IsPlaced mid new j word true
        → (op : ℕ → Op) → ((map : Fields) → has_names map place ≡ true → (m : ℕ) → read_op map m place ≡ op m)
        → (p : places_of.Place) → ((n answer : ℕ) (v w : Part) → IsStep (told_in old).opening.catalog (op n) v answer w → read_of (told_in old).opening.catalog v n p (get v.records n) ≡ Ok (answer, w))
        → TellsReference new i j p
    reference_told mid new same i j word place low read placed op op_is p step_is = record {
      kept = kept_then kept after;
      told = known_later (known_so tells (λ st w is. is ∙ sym (placed_name mid new j word within placed st))) after;
      tag = placed_tag mid new j word within placed;
      row = row_then old mid new j (j + 1) same (read_row mid same i place true word read j (j + 1)) (placed_row mid new j word true placed);
    }
      where
        made : Made old mid (λ st v w. IsStep (told_in old).opening.catalog (op (name_at old st i)) v (name_by (book_at mid st) word) w)
        made = step_by frame old mid same (has_done content old underway) read.goes_on.keeps (λ st. op (name_at old st i)) (λ st. name_by (book_at mid st) word)
            (read_more mid same i place true word read op op_is)

        kept : Kept old mid
        kept = made_still made (λ st v w step. (read_told (told_in old).opening.catalog v w (name_at old st i) (name_by (book_at mid st) word) p classes (step_is (name_at old st i) (name_by (book_at mid st) word) v w step)).0)

        tells : Knows mid (λ st w. value_in (look_of w (name_at old st i)) p ≡ name_by (book_at mid st) word)
        tells = made_tells made (λ st v w step. (read_told (told_in old).opening.catalog v w (name_at old st i) (name_by (book_at mid st) word) p classes (step_is (name_at old st i) (name_by (book_at mid st) word) v w step)).1)

        after : Kept mid new
        after = kept_by mid new (ap (λ (t : TxnState R). t.heap) placed.rest) placed.goes_on

        within : j < length mid.mutator.refs
        within =
            let long : length mid.mutator.refs ≡ 512 = ap length read.object.touched.same.refs ∙ underway.mutator.tags.0 in
            omega (arith, long, low)

    pub field_told : (new : TxnState R) (i f j : ℕ) → j < 512 → HasReadInto old new i (Field f) j → TellsReference new i j (places.Reference f)
    field_told new i f j low read =
        reference_told read.mid new read.read.object.touched.same.heap i j read.word (Field f) low read.read read.placed (λ m. operation.Reference m f) (reference_op f)
        (places.Reference f) (λ n answer v w step. step)

    pub item_told : (new : TxnState R) (i k j : ℕ) → j < 512 → HasReadInto old new i (Tail k) j → TellsReference new i j (places.TailRef k)
    item_told new i k j low read =
        reference_told read.mid new read.read.object.touched.same.heap i j read.word (Tail k) low read.read read.placed (λ m. operation.TailRef m k) (λ map kind m. refl)
        (places.TailRef k) (λ n answer v w step. step)
