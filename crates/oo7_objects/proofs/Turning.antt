-- Places of the row that are read, copied and cleared.
use Rattle.std.proofs.Common.{◌≡◌, ◌↔◌, ◌<◌, ◌∙◌, inl, inr, ℕ, Bool, true, false, cond, List, length, Option, unwrap_or, get_or-set_same, slice_index_or, refl, sym, ap, subst, arith}
use Rattle.std.specs.FinMap.{get}
use Rattle.std.proofs.lemmas.Bool.{cases_eq, ne_eqb}
use Rattle.pm3_core.specs.declared.naming.TheConstants.{BASE}
use Rattle.pm3_types.specs.Shown.{name_by}
use Rattle.pm3_history.specs.Opens.{Opens}
use Rattle.pm3_history.specs.State.{State}
use Rattle.pm3_history.proofs.Laying.{some_of}
use Rattle.pm3_table.specs.declared.unit.Busy.{Busy}
use Rattle.pm3_txn.specs.Owners.{KnowsWordHere}
use Rattle.pm3_txn.specs.Placing.{IsCleared, IsPlaced, IsRefusedPlace}
use Rattle.pm3_txn.specs.Puts.{HasPut}
use Rattle.pm3_txn.specs.Refusals.{word_at}
use Rattle.pm3_txn.specs.States.{MutatorState, TxnState, told_in, view_in}
use Rattle.pm3_txn.specs.Underway.{IsUnderway}
use Rattle.oo7_objects.specs.Wholes.{IsReference, name_at}
use Rattle.oo7_objects.proofs.Moves.{has_done}
use Rattle.oo7_objects.proofs.Rows.{book_at, place_known, placed_name}

module _ {R : Type 0} (content : R → Option (List ℕ)) (old : TxnState R) (underway : IsUnderway content old) where
  -- a reference is nil exactly where its word is 0
  pub nil_word : (k word : ℕ) → IsReference old k → word ≡ word_at old k → (st : State) → Opens BASE (told_in old).pages (told_in old).opening st → (word ≡ 0) ↔ (name_at old st k ≡ 0)
  nil_word k word tagged is st opens = (to, from (place_known content old underway k tagged))
    where
      named : name_at old st k ≡ name_by (book_at old st) (word_at old k)
      named = ap (λ (b : Bool). cond b (name_by (book_at old st) (word_at old k)) 0) tagged

      to : word ≡ 0 → name_at old st k ≡ 0
      to nil = named ∙ ap (name_by (book_at old st)) (sym is ∙ nil)

      from : KnowsWordHere (told_in old) (view_in old) old.held (word_at old k) → name_at old st k ≡ 0 → word ≡ 0
      from (inl nil) e = is ∙ nil
      from (inr known) e = elim (cases_eq (word_at old k) 0) [
        | inl nil ↦ is ∙ nil
        | inr other ↦ (let has = some_of (get (book_at old st) (word_at old k)) (known.object st opens) in
            let works = (has_done content old underway st opens).1 in
            absurd (works.fits.named (word_at old k) has.0 has.1
            (sym (ap (λ (o : Option ℕ). unwrap_or o 0) has.1) ∙ sym (ap (λ (b : Bool). cond b 0 (unwrap_or (get (book_at old st) (word_at old k)) 0)) (ne_eqb (word_at old k) 0 other)) ∙ sym named ∙ e)))
      ]

  within : (j : ℕ) → j < 512 → j < length old.mutator.refs
  within j low = (let long : length old.mutator.refs ≡ 512 = underway.mutator.tags.0 in omega (arith, long, low))

  -- a place that was copied leads where the other does
  pub copied_name : (new : TxnState R) (i j : ℕ) → j < 512 → IsReference old i → IsPlaced old new j (word_at old i) (slice_index_or old.mutator.refs i false) → (st : State) → name_at new st j ≡ name_at old st i
  copied_name new i j low tagged placed st =
      placed_name old new j (word_at old i) (within j low) (subst (IsPlaced old new j (word_at old i)) tagged placed) st
      ∙ sym (ap (λ (b : Bool). cond b (name_by (book_at old st) (word_at old i)) 0) tagged)

  put_tag : (new : MutatorState R) (j word : ℕ) (is_ref : Bool) → j < 512 → HasPut old.mutator new j word is_ref → is_ref ≡ true → slice_index_or new.refs j false ≡ true
  put_tag new j word is_ref low put is = ap (λ (l : List Bool). slice_index_or l j false) put.refs ∙ get_or-set_same old.mutator.refs j is_ref false (within j low) ∙ is

  pub copied_tag : (new : TxnState R) (i j : ℕ) → j < 512 → IsReference old i → IsPlaced old new j (word_at old i) (slice_index_or old.mutator.refs i false) → IsReference new j
  copied_tag new i j low tagged placed = put_tag new.mutator j (word_at old i) (slice_index_or old.mutator.refs i false) low placed.put tagged

  pub refused_tag : (new : TxnState R) (j word : ℕ) (busy : Busy) → j < 512 → IsRefusedPlace old new j word busy → IsReference new j
  refused_tag new j word busy low refused = put_tag new.mutator j 0 true low refused.put refl

  pub cleared_tag : (new : TxnState R) (j : ℕ) → j < 512 → IsCleared old new j → IsReference new j
  cleared_tag new j low cleared = put_tag new.mutator j 0 true low cleared.put refl
