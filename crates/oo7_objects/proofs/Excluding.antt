-- Where an object is known to have a place, no call is refused for want of it.
use Rattle.std.proofs.Common.{◌≡◌, ◌≢◌, ◌+◌, ◌∙◌, inl, inr, ℕ, Bool, true, false, not, cond, nat_lt, List, length, Option, Some, unwrap_or, refl, sym, ap, subst}
use Rattle.std.specs.Prelude.{Ok, slice_index_or}
use Rattle.std.proofs.lemmas.Bool.{and_parts, false≢true}
use Rattle.std.specs.FinMap.{get}
use Rattle.atomic_table.specs.Seated.{TableId}
use Rattle.pm3_table.specs.declared.view.Told.{Told}
use Rattle.pm3_core.specs.declared.naming.TheConstants.{BASE}
use Rattle.pm3_types.specs.declared.places.Place as places_of
use Rattle.pm3_types.specs.declared.places.Place.TheVariants as places
use Rattle.pm3_types.specs.Fields.{Fields, is_reference, has_refs}
use Rattle.pm3_types.specs.Graph.{Part, with_part}
use Rattle.pm3_types.specs.Layout.{page_in, word_in}
use Rattle.pm3_types.specs.Places.{is_place, is_place_by, is_place_of, value_at}
use Rattle.pm3_types.specs.Record.{Record}
use Rattle.pm3_types.specs.Shown.{name_by, record_at}
use Rattle.pm3_types.proofs.Parts.{part_of_with}
use Rattle.pm3_graph.specs.declared.operations.Op.TheVariants as operation
use Rattle.pm3_graph.specs.declared.operations.PlainFault.TheVariants.{NoPlace}
use Rattle.pm3_graph.specs.Frame.{FrameOfRuns}
use Rattle.pm3_graph.specs.Operation.{outcome, read_of, step_if}
use Rattle.pm3_access.specs.declared.places.Place.{Place}
use Rattle.pm3_access.specs.declared.places.Place.TheVariants.{Field, Tail}
use Rattle.pm3_access.specs.Acts.{read_op}
use Rattle.pm3_access.specs.Holding.{image_in}
use Rattle.pm3_access.specs.Spots.{has_names}
use Rattle.pm3_access.proofs.ReadSteps.{no_read_step}
use Rattle.pm3_history.specs.Opens.{Opens}
use Rattle.pm3_history.specs.State.{State}
use Rattle.pm3_history.proofs.Laying.{some_of, one_value}
use Rattle.pm3_txn.specs.declared.faults.AccessFault.{AccessFault}
use Rattle.pm3_txn.specs.declared.faults.AccessFault.TheVariants.{NotAReference, Nil, Busy, PageFault, Damaged, NoSuchField, NoSuchTail, Full, Memory}
use Rattle.pm3_txn.specs.PlaceAccess.{IsLacking, IsPlaceRefusal, IsReadRefusal, IsStoreRefusal}
use Rattle.pm3_txn.specs.Refusals.{IsObjectRefusal, word_at}
use Rattle.pm3_txn.specs.States.{TxnState, told_in}
use Rattle.pm3_txn.specs.Underway.{IsUnderway}
use Rattle.oo7_schema.specs.Schema.{schema}
use Rattle.oo7_objects.specs.Refusing.{IsOfRun, IsRefusal}
use Rattle.oo7_objects.specs.Wholes.{HasClasses, HasPlace, IsReference, Kept, KeepsRow, Knows, name_at}
use Rattle.oo7_objects.proofs.Moves.{kept_by}
use Rattle.oo7_objects.proofs.Here.{IsShown, both_ways, graph_at, left_at, map_refers, shown_here, some_name, whole_here}
use Rattle.oo7_objects.proofs.Rows.{book_at, either_nil, refused_row, row_still, row_then}
use Rattle.oo7_objects.proofs.Stays.{HasStayed, number_stayed, place_stayed, stayed_kept, stayed_row, still_of}
use Rattle.oo7_objects.proofs.Runs.{not_made}
use Rattle.oo7_objects.proofs.Writing.{touched_at}

-- how a place of objects on pages is one of records, and read as such
pub record IsSpot (place : Place) (is_ref : Bool) (p : places_of.Place) : Type 0 where
  pub agrees : (map : Fields) (r : Record) → is_place_of map r p ≡ true → has_names map place ≡ is_ref
  pub reads : (catalog : List Fields) (map : Fields) → has_names map place ≡ is_ref → (n : ℕ) (g : Part) → outcome catalog (read_op map n place) g ≡ read_of catalog g n p (get g.records n)

not_true : (b : Bool) → not b ≡ true → b ≡ false
not_true true is = absurd (false≢true is)
not_true false is = refl

pub word_spot : (f : ℕ) → IsSpot (Field f) false (places.Word f)
word_spot f = record {
  agrees = λ map r is. not_true (is_reference map f) (and_parts (nat_lt f (length r.fields)) (not (is_reference map f)) is).1;
  reads = λ catalog map kind n g. ap (λ (b : Bool). outcome catalog (cond b (operation.Reference n f) (operation.Word n f)) g) kind;
}

pub reference_spot : (f : ℕ) → IsSpot (Field f) true (places.Reference f)
reference_spot f = record {
  agrees = λ map r is. (and_parts (nat_lt f (length r.fields)) (is_reference map f) is).1;
  reads = λ catalog map kind n g. ap (λ (b : Bool). outcome catalog (cond b (operation.Reference n f) (operation.Word n f)) g) kind;
}

pub item_spot : (k : ℕ) → IsSpot (Tail k) true (places.TailRef k)
item_spot k = record {
  agrees = λ map r is. (and_parts (has_refs map.tail) (nat_lt k (length r.tail)) is).0;
  reads = λ catalog map kind n g. refl;
}

read_there : (catalog : List Fields) (g : Part) (n : ℕ) (p : places_of.Place) (r : Record) → get g.records n ≡ Some r → is_place catalog r p ≡ true
    → read_of catalog g n p (get g.records n) ≡ Ok (value_at r p, g)
read_there catalog g n p r on there = ap (read_of catalog g n p) on ∙ ap (λ (b : Bool). step_if b (value_at r p) g) there

module _ {R : Type 0} (frame : FrameOfRuns) (content : R → Option (List ℕ)) (old new : TxnState R) (same : new.heap ≡ old.heap) (was : IsUnderway content old) (underway : IsUnderway content new)
    (classes : HasClasses old) where
  -- an object that has the place does not lack it
  lacking_never : (i : ℕ) (place : Place) (is_ref : Bool) (p : places_of.Place) (fault : AccessFault) → IsSpot place is_ref p → IsLacking old new i place is_ref fault
      → Knows old (λ st w. HasPlace w (name_at old st i) p) → (st : State) → Opens BASE (told_in old).pages (told_in old).opening st → ⊥
  lacking_never i place is_ref p fault spot lacking known st opens = elim lacking.lacks.none [
    | inl none ↦ not_made NoPlace (value_at shown_as p, left_at new st)
        (sym (no_read_step (told_in new).opening.catalog BASE (book_at new st) new.held lacking.address has.0 is.map place is.held none)
        ∙ spot.reads (told_in new).opening.catalog is.map kind has.0 (left_at new st) ∙ read_there (told_in new).opening.catalog (left_at new st) has.0 p shown_as is.shown there)
    | inr other ↦ both_ways is_ref (sym kind ∙ sym (map_refers (told_in new).opening.catalog (image_in new.held (page_in BASE lacking.address)) (word_in BASE lacking.address) place is.map is.map_is) ∙ other)
  ]
    where
      classes_now : (told_in new).opening.catalog ≡ schema
      classes_now = ap (λ (x : TableId × Told). x.1.opening.catalog) same ∙ classes

      opens_now : Opens BASE (told_in new).pages (told_in new).opening st
      opens_now = subst (λ (x : TableId × Told). Opens BASE x.1.pages x.1.opening st) (sym same) opens

      has : (m : ℕ) × (get (book_at new st) lacking.address ≡ Some m)
      has = some_of (get (book_at new st) lacking.address) (lacking.object.known.object st opens_now)

      named : name_at old st i ≡ has.0
      named = sym ((touched_at content old was new same i lacking.address lacking.object).named st opens) ∙ ap (λ (o : Option ℕ). unwrap_or o 0) has.1

      is : IsShown new st lacking.address has.0
      is = shown_here content new underway st opens_now lacking.address has.0 has.1 lacking.object.object

      shown_as : Record
      shown_as = record_at (book_at new st) (told_in new).opening.catalog is.sheet.words (word_in BASE lacking.address)

      place_now : HasPlace (with_part (graph_at new st) (left_at new st)) (name_at old st i) p
      place_now = known.of st (graph_at new st) (with_part (graph_at new st) (left_at new st))
          ((kept_by old new same lacking.object.touched.goes_on).was st (graph_at new st) (with_part (graph_at new st) (left_at new st)) (whole_here frame content new underway st opens_now))

      object_is : place_now.object ≡ shown_as
      object_is = one_value (get (with_part (graph_at new st) (left_at new st)).records has.0) place_now.object shown_as
          (ap (get (with_part (graph_at new st) (left_at new st)).records) (sym named) ∙ place_now.is)
          ((part_of_with (graph_at new st) (left_at new st)).records has.0 shown_as is.shown)

      in_schema : is_place schema shown_as p ≡ true
      in_schema = ap (λ (r : Record). is_place schema r p) (sym object_is) ∙ place_now.there

      there : is_place (told_in new).opening.catalog shown_as p ≡ true
      there = ap (λ (c : List Fields). is_place c shown_as p) classes_now ∙ in_schema

      kind : has_names is.map place ≡ is_ref
      kind = spot.agrees is.map shown_as (ap (λ (o : Option Fields). is_place_by o shown_as p) (sym is.typed) ∙ there)

  -- why an object that has a place was refused
  object_refusal : (faults : R → ℕ) (i : ℕ) (fault : AccessFault) → IsObjectRefusal faults old new i fault
      → (st : State) → Opens BASE (told_in old).pages (told_in old).opening st → name_at old st i ≢ 0 → IsOfRun fault
  object_refusal faults i (NotAReference index) x st opens some = absurd (some (ap (λ (b : Bool). cond b (name_by (book_at old st) (word_at old i)) 0) x.1))
  object_refusal faults i (Nil index) x st opens some = absurd (some (ap (λ (a : ℕ). cond (slice_index_or old.mutator.refs i false) (name_by (book_at old st) a) 0) x.1.1 ∙ either_nil (slice_index_or old.mutator.refs i false)))
  object_refusal faults i (Busy unit word) x st opens some = tt
  object_refusal faults i PageFault x st opens some = tt
  object_refusal faults i (Damaged page word) x st opens some = tt
  object_refusal faults i (NoSuchField ty field) x st opens some = absurd x
  object_refusal faults i (NoSuchTail ty at) x st opens some = absurd x
  object_refusal faults i (Full what limit) x st opens some = absurd x
  object_refusal faults i Memory x st opens some = tt

  pub place_refusal : (faults : R → ℕ) (i : ℕ) (place : Place) (is_ref : Bool) (p : places_of.Place) (fault : AccessFault) → IsSpot place is_ref p
      → Knows old (λ st w. HasPlace w (name_at old st i) p) → IsPlaceRefusal faults old new i place is_ref fault → IsRefusal old fault
  place_refusal faults i place is_ref p fault spot known (inl object) st opens = object_refusal faults i fault object st opens (some_name frame content old was st opens i p known)
  place_refusal faults i place is_ref p fault spot known (inr lacking) st opens = absurd (lacking_never i place is_ref p fault spot lacking known st opens)

  store_refusal : (faults : R → ℕ) (i k : ℕ) (place : Place) (p : places_of.Place) (fault : AccessFault) → IsSpot place true p
      → Knows old (λ st w. HasPlace w (name_at old st i) p) → IsReference old k → IsStoreRefusal faults old new i k place fault → IsRefusal old fault
  store_refusal faults i k place p fault spot known tagged (inl number) st opens =
      absurd (some_name frame content old was st opens i p known (ap (λ (b : Bool). cond b (name_by (book_at old st) (word_at old i)) 0) number.number))
  store_refusal faults i k place p fault spot known tagged (inr (first, inl number)) st opens = absurd (false≢true (sym number.number ∙ tagged))
  store_refusal faults i k place p fault spot known tagged (inr (first, inr (second, refused))) st opens = place_refusal faults i place true p fault spot known refused st opens

  -- an object that is known not to be nil
  pub described_refusal : (faults : R → ℕ) (i : ℕ) (fault : AccessFault) → Knows old (λ st w. name_at old st i ≢ 0) → IsObjectRefusal faults old new i fault → IsRefusal old fault
  described_refusal faults i fault known object st opens = object_refusal faults i fault object st opens
      (known.of st (graph_at old st) (with_part (graph_at old st) (left_at old st)) (whole_here frame content old was st opens))

  -- what stands after a refusal
  pub record Refused (from end : ℕ) (fault : AccessFault) : Type 0 where
    pub kept : Kept old new
    pub row : KeepsRow old new from end
    pub refused : IsRefusal old fault

  refused_by : (from end : ℕ) (fault : AccessFault) → HasStayed old new → IsRefusal old fault → Refused from end fault
  refused_by from end fault stayed refusal = record {
    kept = stayed_kept old new same stayed;
    row = stayed_row content old new same was stayed from end;
    refused = refusal;
  }

  pub read_refused : (faults : R → ℕ) (i j : ℕ) (place : Place) (p : places_of.Place) (fault : AccessFault) → IsSpot place true p
      → Knows old (λ st w. HasPlace w (name_at old st i) p) → IsReadRefusal faults old new i place j fault → Refused j (j + 1) fault
  read_refused faults i j place p fault spot known (inl refused) =
      refused_by j (j + 1) fault (place_stayed faults old new i place true fault refused) (place_refusal faults i place true p fault spot known refused)
  read_refused faults i j place p fault spot known (inr marked) =
      let touched = marked.read.object.touched in record {
        kept = kept_by old new same marked.goes_on;
        row = row_then old marked.mid new j (j + 1) touched.same.heap
            (row_still content old marked.mid touched.same.heap was marked.read.goes_on.keeps (still_of old marked.mid touched.same) j (j + 1))
            (refused_row marked.mid new j marked.word marked.busy marked.refused);
        refused = λ st opens. subst IsOfRun (sym marked.fault_is) tt;
      }

  pub store_refused : (faults : R → ℕ) (i k : ℕ) (place : Place) (p : places_of.Place) (fault : AccessFault) → IsSpot place true p
      → Knows old (λ st w. HasPlace w (name_at old st i) p) → IsReference old k → IsStoreRefusal faults old new i k place fault → Refused 0 0 fault
  store_refused faults i k place p fault spot known tagged refused =
      refused_by 0 0 fault (store_stayed refused) (store_refusal faults i k place p fault spot known tagged refused)
    where
      store_stayed : IsStoreRefusal faults old new i k place fault → HasStayed old new
      store_stayed (inl number) = number_stayed old new i fault number
      store_stayed (inr (first, inl number)) = number_stayed old new k fault number
      store_stayed (inr (first, inr (second, place_refused))) = place_stayed faults old new i place true fault place_refused
