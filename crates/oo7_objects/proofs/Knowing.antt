-- The calculus of what is known: it stays known where nothing was written, and what was made is made of a whole before.
use Rattle.std.proofs.Common.{◌≡◌, ◌∙◌, refl, sym, subst, ◌<◌, ◌≤◌, ◌⊎◌, ℕ}
use Rattle.pm3_types.specs.Graph.{Part}
use Rattle.pm3_history.specs.State.{State}
use Rattle.pm3_txn.specs.States.{TxnState}
use Rattle.oo7_objects.specs.Wholes.{IsWhole, Knows, Kept, KeepsRow, Made, name_at}

module _ {R : Type 0} where
  pub kept_same : (a : TxnState R) → Kept a a
  kept_same a = record { heap = refl; was = λ st g w whole. whole }

  pub kept_then : {a b c : TxnState R} → Kept a b → Kept b c → Kept a c
  kept_then one two = record { heap = two.heap ∙ one.heap; was = λ st g w whole. one.was st g w (two.was st g w whole) }

  pub known_later : {a b : TxnState R} {P : State → Part → Type 0} → Knows a P → Kept a b → Knows b P
  known_later known kept = record { of = λ st g w whole. known.of st g w (kept.was st g w whole) }

  pub known_so : {a : TxnState R} {P Q : State → Part → Type 0} → Knows a P → ((st : State) (w : Part) → P st w → Q st w) → Knows a Q
  known_so known so = record { of = λ st g w whole. so st w (known.of st g w whole) }

  pub known_both : {a b : TxnState R} {P Q S : State → Part → Type 0} → Knows a P → Kept a b → Knows b Q → ((st : State) (w : Part) → P st w → Q st w → S st w) → Knows b S
  known_both one kept two so = record { of = λ st g w whole. so st w (one.of st g w (kept.was st g w whole)) (two.of st g w whole) }

  pub known_always : (a : TxnState R) {P : State → Part → Type 0} → ((st : State) (w : Part) → P st w) → Knows a P
  known_always a always = record { of = λ st g w whole. always st w }

  pub made_then : {a b c : TxnState R} {P Q S : State → Part → Part → Type 0} → Made a b P → Made b c Q
      → ((st : State) (u v w : Part) → P st u v → Q st v w → S st u w) → Made a c S
  made_then one two so = record {
    heap = two.heap ∙ one.heap;
    from = λ st g w whole. (let v = two.from st g w whole in let u = one.from st g v.0 v.1 in (u.0, u.1, so st u.0 v.0 w u.2 v.2));
  }

  pub made_after : {a b c : TxnState R} {P : State → Part → Part → Type 0} → Kept a b → Made b c P → Made a c P
  made_after kept made = record {
    heap = made.heap ∙ kept.heap;
    from = λ st g w whole. (let v = made.from st g w whole in (v.0, kept.was st g v.0 v.1, v.2));
  }

  pub made_kept : {a b c : TxnState R} {P : State → Part → Part → Type 0} → Made a b P → Kept b c → Made a c P
  made_kept made kept = record { heap = kept.heap ∙ made.heap; from = λ st g w whole. made.from st g w (kept.was st g w whole) }

  pub made_so : {a b : TxnState R} {P Q : State → Part → Part → Type 0} → Made a b P → ((st : State) (v w : Part) → P st v w → Q st v w) → Made a b Q
  made_so made so = record { heap = made.heap; from = λ st g w whole. (let v = made.from st g w whole in (v.0, v.1, so st v.0 w v.2)) }

  pub made_knowing : {a b c : TxnState R} {P : State → Part → Type 0} {Q S : State → Part → Part → Type 0} → Knows a P → Kept a b → Made b c Q
      → ((st : State) (v w : Part) → P st v → Q st v w → S st v w) → Made a c S
  made_knowing known kept made so = record {
    heap = made.heap ∙ kept.heap;
    from = λ st g w whole. (let v = made.from st g w whole in
        let was = kept.was st g v.0 v.1 in (v.0, was, so st v.0 w (known.of st g v.0 was) v.2));
  }

  -- a step that changed nothing leaves what was known, and tells of the whole
  pub made_still : {a b : TxnState R} {P : State → Part → Part → Type 0} → Made a b P → ((st : State) (v w : Part) → P st v w → w ≡ v) → Kept a b
  made_still {a} {b} {P} made still = record {
    heap = made.heap;
    was = λ st g w whole. (let v = made.from st g w whole in subst (IsWhole a st g) (sym (still st v.0 w v.2)) v.1);
  }

  pub made_tells : {a b : TxnState R} {P : State → Part → Part → Type 0} {Q : State → Part → Type 0} → Made a b P → ((st : State) (v w : Part) → P st v w → Q st w) → Knows b Q
  made_tells made so = record { of = λ st g w whole. (let v = made.from st g w whole in so st v.0 w v.2) }

  -- what is known of the object to which a place leads stays known where the place leads where it led
  pub known_place : {a b : TxnState R} (P : State → Part → ℕ → Type 0) (k from end : ℕ) → Knows a (λ st w. P st w (name_at a st k)) → Kept a b → KeepsRow a b from end
      → (k < from) ⊎ (end ≤ k) → Knows b (λ st w. P st w (name_at b st k))
  known_place P k from end known kept row out = record {
    of = λ st g w whole. (let was = kept.was st g w whole in subst (P st w) (sym (row.names st was.opens k out)) (known.of st g w was));
  }

  -- also where one was written in between
  pub made_place : {a b : TxnState R} {Q : State → Part → Part → Type 0} (P S : State → Part → ℕ → Type 0) (k from end : ℕ) → Knows a (λ st w. P st w (name_at a st k)) → Made a b Q → KeepsRow a b from end
      → (k < from) ⊎ (end ≤ k) → ((st : State) (v w : Part) (n : ℕ) → P st v n → Q st v w → S st w n) → Knows b (λ st w. S st w (name_at b st k))
  made_place P S k from end known made row out so = record {
    of = λ st g w whole. (let v = made.from st g w whole in
        subst (S st w) (sym (row.names st v.1.opens k out)) (so st v.0 w _ (known.of st g v.0 v.1) v.2));
  }
