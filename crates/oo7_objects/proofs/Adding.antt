-- A new object is new to the whole, and all else is as it was.
use Rattle.std.proofs.Common.{◌≡◌, ◌≢◌, ◌<◌, ◌+◌, ◌++◌, ◌||◌, ◌==◌, ◌∙◌, inl, inr, ℕ, true, false, Bool, cond, List, [], ◌∷◌, length, Option, Some, None, is_some, unwrap_or, slice_index_or, refl, sym, ap, subst, arith}
use Rattle.std.specs.Prelude.{Ok, slice_get}
use Rattle.std.specs.Option.{option_or}
use Rattle.std.proofs.lemmas.Bool.{eqb-false, false≢true, ne_eqb, or_parts}
use Rattle.std.specs.FinMap.{get}
use Rattle.atomic_table.specs.Seated.{TableId}
use Rattle.pm3_table.specs.declared.view.Told.{Told}
use Rattle.pm3_core.specs.declared.naming.TheConstants.{BASE}
use Rattle.pm3_types.specs.Fields.{Fields}
use Rattle.pm3_types.specs.Graph.{Part}
use Rattle.pm3_types.specs.Layout.{PageImage, is_address, page_in}
use Rattle.pm3_types.specs.Record.{blank}
use Rattle.pm3_graph.specs.declared.operations.Op.TheVariants as operation
use Rattle.pm3_graph.specs.Frame.{FrameOfRuns}
use Rattle.pm3_graph.specs.Operation.{IsStep, new_of, unless_taken, with_record}
use Rattle.pm3_page.specs.PageSheets.{sheet_in}
use Rattle.pm3_access.specs.Acts.{left_images}
use Rattle.pm3_access.specs.Holding.{space_now}
use Rattle.pm3_access.proofs.HeldSheets.{get-left_images}
use Rattle.pm3_history.specs.Opens.{Opens}
use Rattle.pm3_history.specs.State.{State}
use Rattle.pm3_history.proofs.Laying.{some_of}
use Rattle.pm3_txn.specs.Knowing.{state_seen}
use Rattle.pm3_txn.specs.declared.faults.AccessFault.{AccessFault}
use Rattle.pm3_txn.specs.declared.faults.AccessFault.TheVariants.{NotAReference, Nil, Busy, PageFault, Damaged, NoSuchField, NoSuchTail, Full, Memory}
use Rattle.pm3_txn.specs.Making.{HasMade, HasNotMade, IsMakeRefusal, IsSpaceRefusal}
use Rattle.pm3_txn.specs.States.{TxnState, told_in, view_in}
use Rattle.pm3_txn.specs.Underway.{IsUnderway}
use Rattle.pm3_txn.specs.Works.{Works, left_book}
use Rattle.pm3_txn.specs.Refusals.{word_at}
use Rattle.pm3_txn.specs.Touching.{Advances, nothing_more}
use Rattle.pm3_txn.proofs.Advancing.{advances_both}
use Rattle.oo7_schema.specs.Schema.{schema}
use Rattle.oo7_objects.specs.Refusing.{IsOfRun, IsRefusal}
use Rattle.oo7_objects.specs.Wholes.{HasClasses, HasNew, IsReference, Kept, KeepsRow, Made, blank_by, name_at, new_object}
use Rattle.oo7_objects.proofs.Knowing.{made_so}
use Rattle.oo7_objects.proofs.Moves.{DoesMore, has_done, step_by}
use Rattle.oo7_objects.proofs.Rows.{IsStillRow, book_at, placed_name, placed_row, placed_tag, row_still, row_then}
use Rattle.oo7_objects.proofs.Runs.{is_made, none_of, part_in}
use Rattle.oo7_objects.proofs.Stays.{HasStayed, stayed_by, stayed_kept, stayed_row, still_of}
use Rattle.oo7_objects.proofs.Steps.{get_now}

-- what a step that makes an object tells
record HasMadeStep (catalog : List Fields) (v : Part) (n ty tail : ℕ) (w : Part) : Type 0 where
  pub map : Fields
  pub map_is : slice_get catalog ty ≡ Some map
  pub some : n ≢ 0
  pub new : get v.records n ≡ None
  pub now : w ≡ with_record v n (blank map ty tail)

made_facts : (catalog : List Fields) (v w : Part) (n ty tail answer : ℕ) → IsStep catalog (operation.New n ty tail) v answer w → HasMadeStep catalog v n ty tail w
made_facts catalog v w n ty tail answer is = of (n == 0 || is_some (get v.records n)) refl is
  where
    by : (o : Option Fields) → slice_get catalog ty ≡ o → (n == 0 || is_some (get v.records n)) ≡ false → new_of v n ty tail o ≡ Ok (answer, w) → HasMadeStep catalog v n ty tail w
    by None none fresh e = absurd (false≢true (ap is_made e))
    by (Some map) on fresh e =
        let parts = or_parts (n == 0) (is_some (get v.records n)) fresh in record {
          map = map;
          map_is = on;
          some = eqb-false n 0 parts.0;
          new = none_of (get v.records n) parts.1;
          now = sym (ap (part_in v) e);
        }

    of : (taken : Bool) → (n == 0 || is_some (get v.records n)) ≡ taken → unless_taken taken n (new_of v n ty tail (slice_get catalog ty)) ≡ Ok (answer, w) → HasMadeStep catalog v n ty tail w
    of true is e = absurd (false≢true (ap is_made e))
    of false is e = by (slice_get catalog ty) refl is e

object_added : (catalog : List Fields) (v w : Part) (n ty tail : ℕ) → catalog ≡ schema → HasMadeStep catalog v n ty tail w → HasNew w n (new_object ty tail) v
object_added catalog v w n ty tail classes has = record {
  some = has.some;
  new = has.new;
  like = record {
    objects = λ m. ap (λ (x : Part). get x.records m) has.now ∙ get_now v n m (blank has.map ty tail)
        ∙ ap (λ (o : Option Fields). cond (m == n) (Some (blank_by o ty tail)) (get v.records m)) (sym has.map_is ∙ ap (λ (c : List Fields). slice_get c ty) classes);
    roots = ap (λ (x : Part). x.roots) has.now;
  };
}

-- an address on a page that is held is not nil
no_address : is_address BASE 0 ≡ false
unfolding is_address
no_address = refl

module _ {R : Type 0} (content : R → Option (List ℕ)) (old : TxnState R) (underway : IsUnderway content old) (frame : FrameOfRuns) (classes : HasClasses old) where
  pub record Makes (new : TxnState R) (ty tail j : ℕ) : Type 0 where
    pub made : Made old new (λ st v w. HasNew w (name_at new st j) (new_object ty tail) v)
    pub tag : IsReference new j
    pub row : KeepsRow old new j (j + 1)

  module _ (new : TxnState R) (same : new.heap ≡ old.heap) (ty tail j : ℕ) (low : j < 512) (made : HasMade old new ty tail j) where
    to_ready : Advances old made.ready nothing_more
    to_ready = advances_both old made.mid made.ready nothing_more nothing_more made.taken.same.heap made.taken.goes_on made.grown.goes_on

    ready_heap : made.ready.heap ≡ old.heap
    ready_heap = made.grown.same.heap ∙ made.taken.same.heap

    made_heap : made.made.heap ≡ old.heap
    made_heap = ap (λ (t : TxnState R). t.heap) made.object.rest ∙ ready_heap

    to_made : Advances old made.made (λ st ops. ops ++ (operation.New made.name ty tail, 0) ∷ [])
    to_made = advances_both old made.ready made.made nothing_more (λ st ops. ops ++ (operation.New made.name ty tail, 0) ∷ []) ready_heap to_ready made.object.goes_on

    still : IsStillRow old made.made
    still =
        let first = still_of old made.mid made.taken.same in
        let second = still_of made.mid made.ready made.grown.same in record {
          tags = λ k. ap (λ (t : TxnState R). slice_index_or t.mutator.refs k false) made.object.rest ∙ second.tags k ∙ first.tags k;
          words = λ k. ap (λ (t : TxnState R). word_at t k) made.object.rest ∙ second.words k ∙ first.words k;
        }

    within : j < length made.made.mutator.refs
    within =
        let long : length made.made.mutator.refs ≡ 512 =
        ap (λ (t : TxnState R). length t.mutator.refs) made.object.rest ∙ ap length made.grown.same.refs ∙ ap length made.taken.same.refs ∙ underway.mutator.tags.0 in
        omega (arith, long, low)

    -- the new object's address is not nil
    some_address : (st : State) → Opens BASE (told_in old).pages (told_in old).opening st → made.address ≢ 0
    some_address st opens nil =
        let opens_made : Opens BASE (told_in made.made).pages (told_in made.made).opening st = subst (λ (x : TableId × Told). Opens BASE x.1.pages x.1.opening st) (sym made_heap) opens in
        let was = has_done content old underway st opens in
        let works = to_made.works st opens was.0 was.1 in
        let has = some_of (get (book_at made.made st) made.address) (made.object.known.object st opens_made) in
        let held : is_some (get (left_images made.made.held) (page_in BASE made.address)) ≡ true =
        ap is_some (get-left_images made.made.held (page_in BASE made.address)) ∙ either (get made.made.held.pages.left (page_in BASE made.address)) (space_now made.made.held.space (page_in BASE made.address)) made.object.own in
        let on = some_of (get (left_images made.made.held) (page_in BASE made.address)) held in
        false≢true (sym no_address ∙ sym (ap (is_address BASE) nil)
        ∙ (works.fits.objects made.address has.0 on.0 (sym (λ i. get (left_book (state_seen (made_heap i).1 (view_in made.made) st) made.made.held) made.address) ∙ has.1) on.1).0)
      where
        either : (o u : Option PageImage) → is_some u ≡ true → is_some (sheet_in (option_or o u)) ≡ true
        either None None is = is
        either None (Some y) is = refl
        either (Some x) u is = refl

    named : (st : State) → Opens BASE (told_in old).pages (told_in old).opening st → made.name ≡ name_at new st j
    named st opens =
        let opens_made : Opens BASE (told_in made.made).pages (told_in made.made).opening st = subst (λ (x : TableId × Told). Opens BASE x.1.pages x.1.opening st) (sym made_heap) opens in
        sym (placed_name made.made new j made.address within made.placed st
        ∙ ap (λ (b : Bool). cond b 0 (unwrap_or (get (book_at made.made st) made.address) 0)) (ne_eqb made.address 0 (some_address st opens))
        ∙ made.object.named st opens_made)

    more : DoesMore old new (λ st. operation.New (name_at new st j) ty tail) (λ st. 0)
    more st opens ops works =
        subst (λ (n : ℕ). Works (told_in old).opening.catalog (told_in old).pages (state_seen (told_in old) (view_in new) st) new.held (ops ++ (operation.New n ty tail, 0) ∷ [])) (named st opens)
        (made.goes_on.works st opens ops works)

    pub object_made : Makes new ty tail j
    object_made = record {
      made = made_so (step_by frame old new same (has_done content old underway) made.goes_on.keeps (λ st. operation.New (name_at new st j) ty tail) (λ st. 0) more)
          (λ st v w step. object_added (told_in old).opening.catalog v w (name_at new st j) ty tail classes (made_facts (told_in old).opening.catalog v w (name_at new st j) ty tail 0 step));
      tag = placed_tag made.made new j made.address within made.placed;
      row = row_then old made.made new j (j + 1) made_heap (row_still content old made.made made_heap underway to_made.keeps still j (j + 1)) (placed_row made.made new j made.address true made.placed);
    }

-- why an object was not made, and what stands after it
module _ {R : Type 0} (content : R → Option (List ℕ)) (old new : TxnState R) (same : new.heap ≡ old.heap) (underway : IsUnderway content old) where
  space_stayed : (fault : AccessFault) → IsSpaceRefusal old new fault → HasStayed old new
  space_stayed (NotAReference index) x = absurd x
  space_stayed (Nil index) x = absurd x
  space_stayed (Busy unit word) x = stayed_by old new x.1.same x.1.goes_on
  space_stayed PageFault x = absurd x
  space_stayed (Damaged page word) x = absurd x
  space_stayed (NoSuchField ty field) x = absurd x
  space_stayed (NoSuchTail ty at) x = absurd x
  space_stayed (Full what limit) x = absurd x
  space_stayed Memory x = stayed_by old new x.same x.goes_on

  unmade_stayed : (names : ℕ) → HasNotMade old new names → HasStayed old new
  unmade_stayed names x =
      let first = still_of old x.mid x.taken.same in
      let second = still_of x.mid new x.grown.same in
      record { goes = x.goes_on; still = record { tags = λ k. second.tags k ∙ first.tags k; words = λ k. second.words k ∙ first.words k } }

  make_stayed : (size : ℕ) (fault : AccessFault) → IsMakeRefusal old new size fault → HasStayed old new × IsOfRun fault
  make_stayed size (NotAReference index) x = absurd x
  make_stayed size (Nil index) x = absurd x
  make_stayed size (Busy unit word) x = (space_stayed (Busy unit word) x, tt)
  make_stayed size PageFault x = absurd x
  make_stayed size (Damaged page word) x = absurd x
  make_stayed size (NoSuchField ty field) x = absurd x
  make_stayed size (NoSuchTail ty at) x = absurd x
  make_stayed size (Full what limit) x = elim x [ inl names ↦ (unmade_stayed 0 names.2, tt) | inr pages ↦ (unmade_stayed 1 pages.2, tt) ]
  make_stayed size Memory x = elim x [ inl space ↦ (space_stayed Memory space, tt) | inr unmade ↦ (unmade_stayed 1 unmade, tt) ]

  pub record MakeRefused (j : ℕ) (fault : AccessFault) : Type 0 where
    pub kept : Kept old new
    pub row : KeepsRow old new j (j + 1)
    pub refused : IsRefusal old fault

  pub make_refused : (j size : ℕ) (fault : AccessFault) → IsMakeRefusal old new size fault → MakeRefused j fault
  make_refused j size fault x = (let stayed = make_stayed size fault x in record {
    kept = stayed_kept old new same stayed.0;
    row = stayed_row content old new same underway stayed.0 j (j + 1);
    refused = λ st opens. stayed.1;
  })
