-- Refusals, from one moment of a transaction to an earlier one, and what places and spots lead to.
use Rattle.std.proofs.Common.{◌≡◌, ◌≢◌, ◌<◌, ◌≤◌, ◌⊎◌, ◌↔◌, ◌∙◌, inr, ℕ, Bool, false, IsTrue, sym, ap, subst, arith}
use Rattle.std.proofs.lemmas.Bool.{false≢true}
use Rattle.atomic_table.specs.Seated.{TableId}
use Rattle.pm3_core.specs.declared.naming.TheConstants.{BASE}
use Rattle.pm3_types.specs.Graph.{Part}
use Rattle.pm3_history.specs.Opens.{Opens}
use Rattle.pm3_history.specs.State.{State}
use Rattle.pm3_table.specs.declared.view.Told.{Told}
use Rattle.pm3_txn.specs.States.{TxnState, told_in}
use Rattle.oo7_objects.specs.Wholes.{HasClasses, Kept, KeepsRow, Knows, name_at, name_on}
use Rattle.oo7_objects.proofs.Rows.{refused_before}
use Rattle.oo7_index.specs.declared.faults.JobFault.{JobFault}
use Rattle.oo7_index.specs.declared.faults.JobFault.TheVariants.{Access, NotADesign}
use Rattle.oo7_index.specs.Faulting.{IsJobFault}

module _ {R : Type 0} where
  -- what is known of the object to which a place led, where it leads there still
  pub known_now : {a b : TxnState R} (P : State → Part → ℕ → Type 0) (k from end : ℕ) → Kept a b → KeepsRow a b from end → (k < from) ⊎ (end ≤ k)
      → Knows b (λ st w. P st w (name_at a st k)) → Knows b (λ st w. P st w (name_at b st k))
  known_now P k from end kept row out known = record {
    of = λ st g w whole. (let was = kept.was st g w whole in subst (P st w) (sym (row.names st was.opens k out)) (known.of st g w whole));
  }

  -- and back
  pub known_before : {a b c : TxnState R} (P : State → Part → ℕ → Type 0) (k from end : ℕ) → Kept a b → KeepsRow a b from end → (k < from) ⊎ (end ≤ k) → Kept b c
      → Knows c (λ st w. P st w (name_at b st k)) → Knows c (λ st w. P st w (name_at a st k))
  known_before P k from end kept row out after known = record {
    of = λ st g w whole. (let was = kept.was st g w (after.was st g w whole) in subst (P st w) (row.names st was.opens k out) (known.of st g w whole));
  }

  -- the catalog is what it was
  pub classes_later : {a b : TxnState R} → Kept a b → HasClasses a → HasClasses b
  classes_later kept classes = ap (λ (x : TableId × Told). x.1.opening.catalog) kept.heap ∙ classes

  -- a place leads where it led
  pub leads_still : {a b : TxnState R} (k : ℕ) → Kept a b → KeepsRow a b 0 0 → Knows b (λ st w. name_at b st k ≡ name_at a st k)
  leads_still k kept row = record { of = λ st g w whole. row.names st ((kept.was st g w whole).opens) k (inr (omega arith)) }

  -- the object at a spot is the one to which the place led
  pub departs_at : {a b c : TxnState R} (P : State → Part → ℕ → Type 0) (k from end page word : ℕ) → Kept a b → KeepsRow a b from end → (k < from) ⊎ (end ≤ k) → Kept b c
      → Knows c (λ st w. name_on c st page word ≡ name_at b st k) → Knows b (λ st w. P st w (name_at a st k)) → Knows c (λ st w. P st w (name_on c st page word))
  departs_at P k from end page word before row out after told known = record {
    of = λ st g w whole. (let mid = after.was st g w whole in
        let was = before.was st g w mid in
        subst (P st w) (sym (told.of st g w whole ∙ row.names st was.opens k out)) (known.of st g w mid));
  }

  -- an object lies where it lay
  pub spot_still : {a b : TxnState R} (X : State → ℕ) (from end page word : ℕ) → Kept a b → KeepsRow a b from end
      → Knows a (λ st w. (name_on a st page word ≡ X st) × (X st ≢ 0)) → Knows b (λ st w. name_on b st page word ≡ X st)
  spot_still X from end page word kept row told = record {
    of = λ st g w whole. (let was = kept.was st g w whole in
        let is = told.of st g w was in row.spots st was.opens page word (λ nil. is.1 (sym is.0 ∙ nil)) ∙ is.0);
  }

  -- a refusal in a caller's words
  pub fault_by : (a b c : TxnState R) (K : State → Part → Type 0) (P Q : State → Part → ℕ → Type 0) → Kept a b → Knows c K
      → ((st : State) (w : Part) (n : ℕ) → K st w → P st w n → Q st w n) → (fault : JobFault) → IsJobFault b c P fault → IsJobFault a c Q fault
  fault_by a b c K P Q kept known so (Access fault) refused = refused_before kept fault refused
  fault_by a b c K P Q kept known so (NotADesign page word) refused = record { of = λ st g w whole. so st w (name_on c st page word) (known.of st g w whole) (refused.of st g w whole) }

  -- where a place was looked at and is not nil
  pub some_there : {a b c : TxnState R} (X : State → Part → ℕ) (k : ℕ) (result : Bool) → Kept a b → KeepsRow a b 0 0 → Kept b c
      → ((st : State) → Opens BASE (told_in a).pages (told_in a).opening st → IsTrue result ↔ (name_at a st k ≡ 0)) → result ≡ false
      → Knows a (λ st w. X st w ≡ name_at a st k) → Knows c (λ st w. (X st w ≡ name_at b st k) × (name_at b st k ≢ 0))
  some_there X k result kept row after test isnt told = record {
    of = λ st g w whole. (let mid = after.was st g w whole in
        let was = kept.was st g w mid in
        let same = row.names st was.opens k (inr (omega arith)) in
        (told.of st g w was ∙ sym same, λ nil. false≢true (sym isnt ∙ (test st was.opens).1 (sym same ∙ nil))));
  }
