-- To what the places of a row lead from one moment to another.
use Rattle.std.proofs.Common.{◌≡◌, ◌≢◌, ◌<◌, ◌≤◌, ◌+◌, ◌==◌, ◌∙◌, ◌⊎◌, inl, inr, ℕ, Bool, true, false, cond, List, length, Option, Some, None, get_or-set_same, get_or-set_other, slice_index_or, unwrap_or, refl, sym, ap, subst, arith}
use Rattle.std.proofs.lemmas.Bool.{ne_eqb}
use Rattle.std.specs.FinMap.{get}
use Rattle.atomic_table.specs.Seated.{TableId}
use Rattle.pm3_core.specs.declared.naming.TheConstants.{BASE}
use Rattle.pm3_types.specs.Layout.{address}
use Rattle.pm3_types.specs.Shown.{Book, name_by}
use Rattle.pm3_access.specs.Holding.{Holding}
use Rattle.pm3_history.specs.Opens.{Opens}
use Rattle.pm3_history.specs.State.{State, now}
use Rattle.pm3_table.specs.declared.unit.Busy.{Busy}
use Rattle.pm3_table.specs.declared.view.Told.{Told}
use Rattle.pm3_table.specs.declared.view.View.{View}
use Rattle.pm3_table.specs.Deeds.{word_of}
use Rattle.pm3_table.proofs.Put.{put_at, put_else}
use Rattle.pm3_txn.specs.declared.faults.AccessFault.{AccessFault}
use Rattle.pm3_txn.specs.Knowing.{state_seen}
use Rattle.pm3_txn.specs.Owners.{KeepsObjects, KnowsHere, KnowsWordHere, name_here}
use Rattle.pm3_txn.specs.Placing.{IsCleared, IsPlaced, IsRefusedPlace}
use Rattle.pm3_txn.specs.Puts.{HasPut}
use Rattle.pm3_txn.specs.Refusals.{HasObject, word_at}
use Rattle.pm3_txn.specs.States.{MutatorState, TxnState, told_in, view_in}
use Rattle.pm3_txn.specs.Underway.{IsUnderway}
use Rattle.pm3_txn.specs.Works.{left_book}
use Rattle.pm3_txn.proofs.Advancing.{moment}
use Rattle.pm3_txn.proofs.Keeping.{name_on, place_here}
use Rattle.oo7_objects.specs.Refusing.{IsRefusal}
use Rattle.oo7_objects.specs.Wholes.{IsReference, Kept, KeepsRow, name_at}
use Rattle.oo7_objects.proofs.Moves.{over_heap}

pub either_nil : (b : Bool) → cond {A = ℕ} b 0 0 ≡ 0
either_nil true = refl
either_nil false = refl

-- the book that a transaction has, whatever the files opened to
abbrev pub book_at : {R : Type 0} → TxnState R → State → Book
book_at t st = left_book (state_seen (told_in t) (view_in t) st) t.held

-- a known word has the same name later
pub word_named : (told : Told) (v w : View) (h g : Holding) → KeepsObjects told v h w g → (a : ℕ) → KnowsWordHere told v h a → (st : State) → Opens BASE told.pages told.opening st
    → name_by (left_book (state_seen told w st) g) a ≡ name_by (left_book (state_seen told v st) h) a
word_named told v w h g keeps a (inl nil) st opens = ap (name_by (left_book (state_seen told w st) g)) nil ∙ sym (ap (name_by (left_book (state_seen told v st) h)) nil)
word_named told v w h g keeps a (inr known) st opens = ap (λ (n : ℕ). cond (a == 0) 0 n) (name_on told v w h g keeps a known st opens)

-- what a place that is a reference leads to is known
pub place_known : {R : Type 0} (content : R → Option (List ℕ)) (t : TxnState R) → IsUnderway content t → (k : ℕ) → IsReference t k → KnowsWordHere (told_in t) (view_in t) t.held (word_at t k)
place_known content t underway k tagged =
    place_here (told_in t) (view_in t) t.mutator.space t.held (slice_index_or t.mutator.wrote k false) (word_at t k) underway.holding (underway.known k tagged)

-- a name that a book has at an address is the one of each book that goes on from it
name_stays : (book more : Book) (a : ℕ) → ((n : ℕ) → get book a ≡ Some n → get more a ≡ Some n) → name_by book a ≢ 0 → name_by more a ≡ name_by book a
name_stays book more a keeps some = of (get book a) refl
  where
    of : (o : Option ℕ) → get book a ≡ o → name_by more a ≡ name_by book a
    of None is = absurd (some (ap (λ (o : Option ℕ). cond (a == 0) 0 (unwrap_or o 0)) is ∙ either_nil (a == 0)))
    of (Some n) is = ap (λ (o : Option ℕ). cond (a == 0) 0 (unwrap_or o 0)) (keeps n is ∙ sym is)

-- from a to b the row stayed as it was
pub record IsStillRow {R : Type 0} (a b : TxnState R) : Type 0 where
  pub tags : (k : ℕ) → slice_index_or b.mutator.refs k false ≡ slice_index_or a.mutator.refs k false
  pub words : (k : ℕ) → word_at b k ≡ word_at a k

module _ {R : Type 0} (content : R → Option (List ℕ)) where
  still_row : (a : TxnState R) → IsUnderway content a → (tag : ℕ) (n : MutatorState R) (g : Holding) → KeepsObjects (told_in a) (view_in a) a.held n.pass.1 g
      → IsStillRow a (moment a.heap tag n g) → (from end : ℕ) → KeepsRow a (moment a.heap tag n g) from end
  still_row a underway tag n g keeps still from end = record {
    tags = λ k out. still.tags k;
    names = λ st opens k out. named st opens k (slice_index_or a.mutator.refs k false) refl;
    spots = λ st opens page word some. name_stays (book_at a st) (book_at (moment a.heap tag n g) st) (address BASE page word) (λ m has. keeps.objects st opens (address BASE page word) m has) some;
  }
    where
      named : (st : State) → Opens BASE (told_in a).pages (told_in a).opening st → (k : ℕ) (b : Bool) → slice_index_or a.mutator.refs k false ≡ b
          → name_at (moment a.heap tag n g) st k ≡ name_at a st k
      named st opens k false is = ap (λ (b : Bool). cond b (name_by (book_at (moment a.heap tag n g) st) (word_at (moment a.heap tag n g) k)) 0) (still.tags k ∙ is)
          ∙ sym (ap (λ (b : Bool). cond b (name_by (book_at a st) (word_at a k)) 0) is)
      named st opens k true is =
          ap (λ (b : Bool). cond b (name_by (book_at (moment a.heap tag n g) st) (word_at (moment a.heap tag n g) k)) 0) (still.tags k ∙ is)
          ∙ ap (name_by (book_at (moment a.heap tag n g) st)) (still.words k)
          ∙ word_named (told_in a) (view_in a) n.pass.1 a.held g keeps (word_at a k) (place_known content a underway k is) st opens
          ∙ sym (ap (λ (b : Bool). cond b (name_by (book_at a st) (word_at a k)) 0) is)

  pub row_still : (a b : TxnState R) → b.heap ≡ a.heap → IsUnderway content a → KeepsObjects (told_in a) (view_in a) a.held (view_in b) b.held → IsStillRow a b → (from end : ℕ) → KeepsRow a b from end
  row_still a b same underway keeps still from end =
      over_heap a.heap (λ (t : TxnState R). KeepsObjects (told_in a) (view_in a) a.held (view_in t) t.held → IsStillRow a t → KeepsRow a t from end)
      (λ tag n g keeps still. still_row a underway tag n g keeps still from end) b same keeps still

  -- the object to which a place leads has the same name later
  pub object_named_at : (a : TxnState R) → IsUnderway content a → (tag : ℕ) (n : MutatorState R) (g : Holding) (i address : ℕ) → KeepsObjects (told_in a) (view_in a) a.held n.pass.1 g
      → HasObject a (moment a.heap tag n g) i address → (st : State) → Opens BASE (told_in a).pages (told_in a).opening st
      → name_here (told_in a) n.pass.1 g st address ≡ name_at a st i
  object_named_at a underway tag n g i address keeps object st opens =
      ap (name_here (told_in a) n.pass.1 g st) object.word
      ∙ name_on (told_in a) (view_in a) n.pass.1 a.held g keeps (word_at a i) (of (place_known content a underway i object.place.0)) st opens
      ∙ sym (ap (λ (b : Bool). cond b (name_by (book_at a st) (word_at a i)) 0) object.place.0
      ∙ ap (λ (b : Bool). cond b 0 (unwrap_or (get (book_at a st) (word_at a i)) 0)) (ne_eqb (word_at a i) 0 object.place.1))
    where
      of : KnowsWordHere (told_in a) (view_in a) a.held (word_at a i) → KnowsHere (told_in a) (view_in a) a.held (word_at a i)
      of (inl nil) = absurd (object.place.1 nil)
      of (inr known) = known

  -- what a place led to has its name later
  words_at : (a : TxnState R) → IsUnderway content a → (tag : ℕ) (n : MutatorState R) (g : Holding) → KeepsObjects (told_in a) (view_in a) a.held n.pass.1 g
      → (st : State) → Opens BASE (told_in a).pages (told_in a).opening st → (k : ℕ) → IsReference a k → name_by (book_at (moment a.heap tag n g) st) (word_at a k) ≡ name_at a st k
  words_at a underway tag n g keeps st opens k tagged = word_named (told_in a) (view_in a) n.pass.1 a.held g keeps (word_at a k) (place_known content a underway k tagged) st opens
      ∙ sym (ap (λ (b : Bool). cond b (name_by (book_at a st) (word_at a k)) 0) tagged)

  pub words_later : (a b : TxnState R) → b.heap ≡ a.heap → IsUnderway content a → KeepsObjects (told_in a) (view_in a) a.held (view_in b) b.held
      → (st : State) → Opens BASE (told_in a).pages (told_in a).opening st → (k : ℕ) → IsReference a k → name_by (book_at b st) (word_at a k) ≡ name_at a st k
  words_later a b same underway keeps st opens k tagged =
      over_heap a.heap (λ (t : TxnState R). KeepsObjects (told_in a) (view_in a) a.held (view_in t) t.held → name_by (book_at t st) (word_at a k) ≡ name_at a st k)
      (λ tag n g keeps. words_at a underway tag n g keeps st opens k tagged) b same keeps

  -- a place that is a reference leads where its word does
  pub reference_named : (a : TxnState R) (st : State) (k : ℕ) → IsReference a k → name_at a st k ≡ name_by (book_at a st) (word_at a k)
  reference_named a st k tagged = ap (λ (b : Bool). cond b (name_by (book_at a st) (word_at a k)) 0) tagged

module _ {R : Type 0} (mid new : TxnState R) (rest : new ≡ record mid { mutator = new.mutator }) (j word : ℕ) (is_ref : Bool) (put : HasPut mid.mutator new.mutator j word is_ref) where
  -- a place was put: the transaction has the same book
  same_book : (st : State) → book_at new st ≡ book_at mid st
  same_book st =
      let heap : new.heap ≡ mid.heap = ap (λ (t : TxnState R). t.heap) rest in
      let held : new.held ≡ mid.held = ap (λ (t : TxnState R). t.held) rest in
      let seen : (view_in new).seen ≡ (view_in mid).seen = ap (λ (v : View). v.seen) put.view.1 in
      λ i. left_book (now (heap i).1.opening.catalog BASE st (seen i)) (held i)

  put_row : KeepsRow mid new j (j + 1)
  put_row = record {
    tags = λ k out. tags k (apart k out);
    names = λ st opens k out. (λ i. cond (tags k (apart k out) i) (name_by (same_book st i) (words k (apart k out) i)) 0);
    spots = λ st opens page at some. ap (λ (book : Book). name_by book (address BASE page at)) (same_book st);
  }
    where
      apart : (k : ℕ) → (k < j) ⊎ (j + 1 ≤ k) → k ≢ j
      apart k (inl low) e = omega (arith, low, e)
      apart k (inr high) e = omega (arith, high, e)

      tags : (k : ℕ) → k ≢ j → slice_index_or new.mutator.refs k false ≡ slice_index_or mid.mutator.refs k false
      tags k other = ap (λ (l : List Bool). slice_index_or l k false) put.refs ∙ get_or-set_other mid.mutator.refs j k is_ref false other

      words : (k : ℕ) → k ≢ j → word_at new k ≡ word_at mid k
      words k other = put.words k ∙ put_else (word_of (view_in mid).log) j word k other

module _ {R : Type 0} where
  -- all places but one lead where they led
  pub placed_row : (mid new : TxnState R) (j word : ℕ) (is_ref : Bool) → IsPlaced mid new j word is_ref → KeepsRow mid new j (j + 1)
  placed_row mid new j word is_ref placed = put_row mid new placed.rest j word is_ref placed.put

  pub refused_row : (mid new : TxnState R) (j word : ℕ) (busy : Busy) → IsRefusedPlace mid new j word busy → KeepsRow mid new j (j + 1)
  refused_row mid new j word busy refused = put_row mid new refused.rest j 0 true refused.put

  pub cleared_row : (mid new : TxnState R) (j : ℕ) → IsCleared mid new j → KeepsRow mid new j (j + 1)
  cleared_row mid new j cleared = put_row mid new cleared.rest j 0 true cleared.put

  -- and this one leads where the word does
  pub placed_name : (mid new : TxnState R) (j word : ℕ) → j < length mid.mutator.refs → IsPlaced mid new j word true → (st : State) → name_at new st j ≡ name_by (book_at mid st) word
  placed_name mid new j word low placed st =
      let tag : slice_index_or new.mutator.refs j false ≡ true = ap (λ (l : List Bool). slice_index_or l j false) placed.put.refs ∙ get_or-set_same mid.mutator.refs j true false low in
      let is : word_at new j ≡ word = placed.put.words j ∙ put_at (word_of (view_in mid).log) j word j refl in
      let book = same_book mid new placed.rest j word true placed.put st in
      λ i. cond (tag i) (name_by (book i) (is i)) 0

  pub placed_tag : (mid new : TxnState R) (j word : ℕ) → j < length mid.mutator.refs → IsPlaced mid new j word true → IsReference new j
  placed_tag mid new j word low placed = ap (λ (l : List Bool). slice_index_or l j false) placed.put.refs ∙ get_or-set_same mid.mutator.refs j true false low

  pub cleared_name : (mid new : TxnState R) (j : ℕ) → IsCleared mid new j → (st : State) → name_at new st j ≡ 0
  cleared_name mid new j cleared st =
      let is : word_at new j ≡ 0 = cleared.put.words j ∙ put_at (word_of (view_in mid).log) j 0 j refl in
      ap (λ (w : ℕ). cond (slice_index_or new.mutator.refs j false) (name_by (book_at new st) w) 0) is ∙ either_nil (slice_index_or new.mutator.refs j false)

  -- one stretch of calls after another
  pub row_then : (a b c : TxnState R) (from end : ℕ) → b.heap ≡ a.heap → KeepsRow a b from end → KeepsRow b c from end → KeepsRow a c from end
  row_then a b c from end same one two = record {
    tags = λ k out. two.tags k out ∙ one.tags k out;
    names = λ st opens k out. two.names st (subst (λ (x : TableId × Told). Opens BASE x.1.pages x.1.opening st) (sym same) opens) k out ∙ one.names st opens k out;
    spots = λ st opens page word some. (let first = one.spots st opens page word some in
        two.spots st (subst (λ (x : TableId × Told). Opens BASE x.1.pages x.1.opening st) (sym same) opens) page word (λ nil. some (sym first ∙ nil)) ∙ first);
  }

  pub row_same : (a : TxnState R) (from end : ℕ) → KeepsRow a a from end
  row_same a from end = record { tags = λ k out. refl; names = λ st opens k out. refl; spots = λ st opens page word some. refl }

  -- a refusal after reads is one of before them
  pub refused_before : {a b : TxnState R} → Kept a b → (fault : AccessFault) → IsRefusal b fault → IsRefusal a fault
  refused_before kept fault refused st opens = refused st (subst (λ (x : TableId × Told). Opens BASE x.1.pages x.1.opening st) (sym kept.heap) opens)

  -- the tags of places that were left
  pub tag_still : {a b : TxnState R} (k from end : ℕ) → KeepsRow a b from end → (k < from) ⊎ (end ≤ k) → IsReference a k → IsReference b k
  tag_still k from end row out tagged = row.tags k out ∙ tagged

  -- what leaves all places leaves these
  pub row_wider : {a b : TxnState R} (from end : ℕ) → KeepsRow a b 0 0 → KeepsRow a b from end
  row_wider from end row = record {
    tags = λ k out. row.tags k (inr (omega arith));
    names = λ st opens k out. row.names st opens k (inr (omega arith));
    spots = row.spots;
  }
