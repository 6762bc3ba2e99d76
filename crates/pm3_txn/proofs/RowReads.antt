-- The object to which a place of the row leads.
use Rattle.std.proofs.Common.{◌≡◌, ◌≢◌, ◌⊎◌, ◌<◌, ◌≤◌, ◌&&◌, ◌||◌, ◌==◌, ◌∙◌, inl, inr, ℕ, Bool, true, false, leb, ltb, nat_lt, List, Option, Some, None, slice_index_or, refl, sym, ap, subst, arith}
use Rattle.std.proofs.lemmas.Bool.{and_parts, eqb-true, leb-true, ltb-true}
use Rattle.std.specs.Option.{option_or}
use Rattle.std.specs.FinMap.{get}
use Rattle.atomic_table.specs.Seated.{TableId}
use Rattle.pm3_core.specs.declared.naming.TheConstants.{BASE}
use Rattle.pm3_types.specs.Layout.{PageImage, is_address, page_in, word_in}
use Rattle.pm3_types.specs.PageForm.{is_memory_reference}
use Rattle.pm3_access.specs.Access.{is_object_held}
use Rattle.pm3_access.specs.Holding.{Holding, image_in, space_now}
use Rattle.pm3_history.specs.Persistent.{persistent_book}
use Rattle.pm3_history.proofs.Laying.{some_of, some_none}
use Rattle.pm3_table.specs.declared.view.Told.{Told}
use Rattle.pm3_table.specs.declared.view.View.{View}
use Rattle.pm3_table.specs.Deeds.{word_of}
use Rattle.pm3_table.specs.Entries.{writes}
use Rattle.pm3_table.specs.Histories.{some_has}
use Rattle.pm3_txn.specs.declared.faults.AccessFault.{AccessFault}
use Rattle.pm3_txn.specs.declared.faults.AccessFault.TheVariants.{NotAReference, Nil, Busy, PageFault, Damaged, NoSuchField, NoSuchTail, Full, Memory}
use Rattle.pm3_txn.specs.Knowing.{KnowsHome, KnowsReference, state_seen}
use Rattle.pm3_txn.specs.Loads.{IsPersistent}
use Rattle.pm3_txn.specs.Puts.{read_own}
use Rattle.pm3_txn.specs.Refusals.{IsTouchRefusal, IsObjectRefusal, HasObject, IsMissing, IsReferencePlace, with_read, word_at, page_at_place}
use Rattle.pm3_txn.specs.States.{MutatorState, TxnState, told_in, view_in}
use Rattle.pm3_txn.specs.Touching.{Advances, IsSameButHeld, HasTouched, IsTurnedAway, IsGivenBack, nothing_more}
use Rattle.pm3_txn.specs.Owners.{KnowsHere, KnowsWordHere}
use Rattle.pm3_txn.specs.Underway.{IsMutatorOf, IsUnderway}
use Rattle.pm3_txn.proofs.Advancing.{moment, still_underway}
use Rattle.pm3_txn.proofs.Keeping.{place_here, off_known}
use Rattle.pm3_txn.proofs.OwnerAnswers.{own_form}
use Rattle.pm3_txn.proofs.Seeing.{use_form}

-- a transaction that has read a word of its row
pub read_underway : {R : Type 0} (content : R → Option (List ℕ)) (heap : TableId × Told) (m n : MutatorState R) (h : Holding) (tag i : ℕ) → n ≡ read_own m i
    → IsUnderway content (moment heap tag m h) → IsMutatorOf content heap n → IsUnderway content (moment heap tag n h)
read_underway {R} content heap m n h tag i is was kept =
    still_underway content heap m n h tag (subst (λ (x : MutatorState R). x.pass.1 ≡ record m.pass.1 { log = x.pass.1.log; refusals = x.pass.1.refusals }) (sym is) refl)
    (λ q. ap (λ (x : MutatorState R). word_of x.pass.1.log q) is) (ap (λ (x : MutatorState R). x.refs) is) (ap (λ (x : MutatorState R). x.wrote) is) (ap (λ (x : MutatorState R). x.space) is)
    (ap (λ (x : MutatorState R). x.next_name) is) was kept

module _ {R : Type 0} (t new : TxnState R) (i : ℕ) where
  same_from : IsSameButHeld (with_read t i) new → IsSameButHeld t new
  same_from s = record { heap = s.heap; tag = s.tag; table = s.table; space = s.space; refs = s.refs; wrote = s.wrote; words = s.words; stands = s.stands; marks = s.marks; row = s.row; mine = s.mine; faults = s.faults }

  from : Advances (with_read t i) new nothing_more → Advances t new nothing_more
  from x = record { works = x.works; keeps = record { usable = x.keeps.usable; objects = x.keeps.objects; found = x.keeps.found } }

  -- what touched a page behind that read touched it from before it
  pub touched_from : (page : ℕ) → HasTouched (with_read t i) new page nothing_more → HasTouched t new page nothing_more
  touched_from page x = record { same = same_from x.same; drew = x.drew; refusals = x.refusals; holds = x.holds; held = x.held; others = x.others; goes_on = from x.goes_on }

  back_from : (page : ℕ) → IsGivenBack (with_read t i) new page → IsGivenBack t new page
  back_from page x = record { same = same_from x.same; drew = x.drew; refusals = x.refusals; holds = x.holds; held = x.held; absent = x.absent; goes_on = from x.goes_on }

  away_from : (page word : ℕ) → IsTurnedAway (with_read t i) new page word → IsTurnedAway t new page word
  away_from page word x = record { same = same_from x.same; drew = x.drew; seen = x.seen; refusals = x.refusals; holds = x.holds; held = x.held; absent = x.absent; goes_on = from x.goes_on }

  -- so it is of a refusal
  pub refusal_from : (faults : R → ℕ) (fault : AccessFault) → IsReferencePlace t i → IsTouchRefusal faults (with_read t i) new (page_at_place t i) fault → IsObjectRefusal faults t new i fault
  refusal_from faults (NotAReference index) place x = absurd x
  refusal_from faults (Nil index) place x = absurd x
  refusal_from faults (Busy unit word) place x = (place, (x.0, away_from (page_at_place t i) word x.1))
  refusal_from faults PageFault place x = (place, (x.0, back_from (page_at_place t i) x.1))
  refusal_from faults (Damaged page word) place x = (place, inl (x.0, back_from (page_at_place t i) x.1))
  refusal_from faults (NoSuchField ty field) place x = absurd x
  refusal_from faults (NoSuchTail ty at) place x = absurd x
  refusal_from faults (Full what limit) place x = absurd x
  refusal_from faults Memory place x = (place, back_from (page_at_place t i) x)

-- a reference that is not nil lies behind the first two words of a page from 3 on
pub record IsBehind (pages a : ℕ) : Type 0 where
  pub above : BASE ≤ a
  pub from : 3 ≤ page_in BASE a
  pub low : page_in BASE a < pages

pub behind : (pages a : ℕ) → a ≢ 0 → is_memory_reference BASE pages a ≡ true → IsBehind pages a
unfolding is_memory_reference is_address
behind pages a other is = of (a == 0) refl is
  where
    of : (b : Bool) → (a == 0) ≡ b → (b || (is_address BASE a && ((leb 3 (page_in BASE a) && ltb (page_in BASE a) pages) && leb 2 (word_in BASE a)))) ≡ true → IsBehind pages a
    of true e h = absurd (other (eqb-true a 0 e))
    of false e h =
        let outer = and_parts (is_address BASE a) ((leb 3 (page_in BASE a) && ltb (page_in BASE a) pages) && leb 2 (word_in BASE a)) h in
        let inner = and_parts (leb 3 (page_in BASE a) && ltb (page_in BASE a) pages) (leb 2 (word_in BASE a)) outer.1 in
        let page = and_parts (leb 3 (page_in BASE a)) (ltb (page_in BASE a) pages) inner.0 in
        let at = and_parts (leb BASE a) _ outer.0 in
        record { above = leb-true BASE a at.0; from = leb-true 3 (page_in BASE a) page.0; low = ltb-true (page_in BASE a) pages page.1 }

-- what a mutator knows of a reference tells of its page
pub page_known : (told : Told) (v : View) (a : ℕ) → a ≢ 0 → KnowsReference told v a → IsPersistent told v.seen (page_in BASE a)
page_known told v a other known =
    let place = behind told.pages a other (use_form told v.seen a known.usable) in
    let from = place.from in
    let parts = and_parts (is_memory_reference BASE told.pages a) ((a == 0) || (nat_lt (page_in BASE a) told.frontier || some_has writes v.seen (page_in BASE a))) known.usable in
    record { low = (omega (arith, from), place.low); used = of (a == 0) (nat_lt (page_in BASE a) told.frontier) refl refl parts.1 }
  where
    of : (nil low : Bool) → (a == 0) ≡ nil → nat_lt (page_in BASE a) told.frontier ≡ low → (nil || (low || some_has writes v.seen (page_in BASE a))) ≡ true
        → (page_in BASE a < told.frontier) ⊎ (some_has writes v.seen (page_in BASE a) ≡ true)
    of true low e f h = absurd (other (eqb-true a 0 e))
    of false true e f h = inl (ltb-true (page_in BASE a) told.frontier f)
    of false false e f h = inr h

pub home_known : (told : Told) (v : View) (a : ℕ) → KnowsReference told v a → KnowsHome told v (page_in BASE a)
home_known told v a known st opens = (let has = some_of (get (persistent_book BASE (state_seen told v st)) a) (known.object st opens) in inr (a, has.0, refl, has.1))

-- a place of the row that is a reference and not nil leads to an object of the transaction's book
module _ {R : Type 0} (content : R → Option (List ℕ)) where
  remembered : (t : TxnState R) (i a : ℕ) → IsUnderway content t → slice_index_or t.mutator.refs i false ≡ true → word_of (view_in t).log i ≡ a → KnowsWordHere (told_in t) (view_in t) t.held a
  remembered t i a underway tagged same = subst (KnowsWordHere (told_in t) (view_in t) t.held) same
      (place_here (told_in t) (view_in t) t.mutator.space t.held (slice_index_or t.mutator.wrote i false) (word_of (view_in t).log i) underway.holding (underway.known i tagged))

  pub leads : (t : TxnState R) (i a : ℕ) → IsUnderway content t → slice_index_or t.mutator.refs i false ≡ true → word_of (view_in t).log i ≡ a → a ≢ 0 → KnowsHere (told_in t) (view_in t) t.held a
  leads t i a underway tagged same other = of (remembered t i a underway tagged same)
    where
      of : KnowsWordHere (told_in t) (view_in t) t.held a → KnowsHere (told_in t) (view_in t) t.held a
      of (inl nil) = absurd (other nil)
      of (inr known) = known

  -- a reference that was read is nil or such an object
  pub word_known : (t mid : TxnState R) (i a : ℕ) → mid ≡ with_read t i → IsUnderway content mid → slice_index_or t.mutator.refs i false ≡ true → a ≡ word_at t i
      → KnowsWordHere (told_in mid) (view_in mid) mid.held a
  word_known t mid i a is underway tagged word =
      remembered mid i a underway (ap (λ (x : TxnState R). slice_index_or x.mutator.refs i false) is ∙ tagged) (ap (λ (x : TxnState R). word_of (view_in x).log i) is ∙ sym word)

  module _ (t mid : TxnState R) (i : ℕ) (is : mid ≡ with_read t i) (underway : IsUnderway content mid) (place : IsReferencePlace t i) where
    place_known : KnowsHere (told_in mid) (view_in mid) mid.held (word_at t i)
    place_known = leads mid i (word_at t i) underway (ap (λ (x : TxnState R). slice_index_or x.mutator.refs i false) is ∙ place.0) (ap (λ (x : TxnState R). word_of (view_in x).log i) is) place.1

    module _ (a : ℕ) (word : a ≡ word_at t i) where
      pub place_form : is_memory_reference BASE (told_in mid).pages a ≡ true
      place_form = ap (is_memory_reference BASE (told_in mid).pages) word ∙ own_form (told_in mid) (view_in mid) mid.held (word_at t i) place_known.usable

      pub place_above : BASE ≤ a
      place_above = (behind (told_in mid).pages a (λ e. place.1 (sym word ∙ e)) place_form).above

      -- it is a persistent one where its page is not held
      module _ (page : ℕ) (at : page ≡ page_in BASE a) (absent : image_in mid.held page ≡ None) where
        off : space_now mid.held.space (page_in BASE (word_at t i)) ≡ None
        off = ap (space_now mid.held.space) (sym (at ∙ ap (page_in BASE) word)) ∙ second (get mid.held.pages.left page) (space_now mid.held.space page) absent
          where
            second : (o u : Option PageImage) → option_or o u ≡ None → u ≡ None
            second None u e = e
            second (Some x) u e = absurd (some_none (Some x) x refl e)

        reference : KnowsReference (told_in mid) (view_in mid) (word_at t i)
        reference = off_known (told_in mid) (view_in mid) mid.held (word_at t i) off place_known

        pub place_page : IsPersistent (told_in mid) (view_in mid).seen page
        place_page = subst (IsPersistent (told_in mid) (view_in mid).seen) (sym (at ∙ ap (page_in BASE) word)) (page_known (told_in mid) (view_in mid) (word_at t i) place.1 reference)

        pub place_home : KnowsHome (told_in mid) (view_in mid) page
        place_home = subst (KnowsHome (told_in mid) (view_in mid)) (sym (at ∙ ap (page_in BASE) word)) (home_known (told_in mid) (view_in mid) (word_at t i) reference)

-- the page was refused, or is held with the object
pub place_refused : {R : Type 0} (faults : R → ℕ) (t mid new : TxnState R) (i a page : ℕ) (fault : AccessFault) → mid ≡ with_read t i → IsReferencePlace t i
    → a ≡ word_at t i → page ≡ page_in BASE a → IsTouchRefusal faults mid new page fault → IsObjectRefusal faults t new i fault
place_refused faults t mid new i a page fault is place word at refused =
    refusal_from t new i faults fault place
    (subst (λ (p : ℕ). IsTouchRefusal faults (with_read t i) new p fault) (at ∙ ap (page_in BASE) word) (subst (λ m. IsTouchRefusal faults m new page fault) is refused))

pub place_touched : {R : Type 0} (t mid new : TxnState R) (i a page : ℕ) → mid ≡ with_read t i → page ≡ page_in BASE a → HasTouched mid new page nothing_more
    → HasTouched t new (page_in BASE a) nothing_more
place_touched t mid new i a page is at touched =
    touched_from t new i (page_in BASE a) (subst (λ (p : ℕ). HasTouched (with_read t i) new p nothing_more) at (subst (λ m. HasTouched m new page nothing_more) is touched))

-- no object begins there
pub place_missing : {R : Type 0} (t mid new : TxnState R) (i a page word : ℕ) → mid ≡ with_read t i → a ≡ word_at t i → page ≡ page_in BASE a
    → HasTouched mid new page nothing_more → is_object_held BASE new.held a ≡ false → word ≡ word_in BASE a → IsMissing t new i page word
place_missing t mid new i a page word is same at touched none behind_it = record {
  touched = subst (λ (x : ℕ). HasTouched t new (page_in BASE x) nothing_more) same (place_touched t mid new i a page is at touched);
  none = ap (is_object_held BASE new.held) (sym same) ∙ none;
  page_is = at ∙ ap (page_in BASE) same;
  word_is = behind_it ∙ ap (word_in BASE) same;
}

pub place_held : {R : Type 0} (content : R → Option (List ℕ)) (t mid new : TxnState R) (i a page : ℕ) → mid ≡ with_read t i → IsUnderway content new → IsReferencePlace t i
    → a ≡ word_at t i → page ≡ page_in BASE a → HasTouched mid new page nothing_more → is_object_held BASE new.held a ≡ true → HasObject t new i a
place_held content t mid new i a page is underway place word at touched object =
    let here = place_touched t mid new i a page is at touched in record {
      place = place;
      word = word;
      known = leads content new i a underway (ap (λ (refs : List Bool). slice_index_or refs i false) here.same.refs ∙ place.0) (here.same.words i ∙ sym word) (λ e. place.1 (sym word ∙ e));
      touched = here;
      object = object;
    }
