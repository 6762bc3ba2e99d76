-- A mutator goes on belonging to its heap.
use Rattle.std.proofs.Common.{◌≡◌, ◌≢◌, ℕ, ◌<◌, Bool, true, List, [], ◌∷◌, ◌++◌, Option, Result, Ok, Err, IfOk, IfErr, length, length-set, refl, sym, ap, ◌∙◌, subst, arith}
use Rattle.atomic_table.specs.Seated.{TableId}
use Rattle.pm3_disk.specs.declared.outside.Disk.{Ghosts}
use Rattle.pm3_history.specs.Entry.{Done}
use Rattle.pm3_table.specs.declared.unit.Busy.{Busy}
use Rattle.pm3_table.specs.declared.unit.Unit as table
use Rattle.pm3_table.specs.declared.view.Told.{Told}
use Rattle.pm3_table.specs.declared.view.View.{View}
use Rattle.pm3_table.specs.Deeds.{word_of, marks_of}
use Rattle.pm3_table.specs.Ops.{refused, gave, turned}
use Rattle.pm3_table.specs.Passes.{Becomes}
use Rattle.pm3_table.specs.Plays.{Taken}
use Rattle.pm3_table.specs.Seats.{both_views, beyond}
use Rattle.pm3_table.specs.Telling.{Lawful}
use Rattle.pm3_txn.specs.declared.values.Value.{Value}
use Rattle.pm3_txn.specs.Knowing.{KnowsWord, Remembers}
use Rattle.pm3_txn.specs.Puts.{HasPut, read_own}
use Rattle.pm3_txn.specs.Slots.{stands_for, pages_in, faults_in}
use Rattle.pm3_txn.specs.States.{MutatorState}
use Rattle.pm3_txn.specs.Takes.{HasTaken, with_view}
use Rattle.pm3_txn.specs.Underway.{IsMutatorOf, Belongs}
use Rattle.pm3_txn.proofs.Recalling.{row_past, row_put}

append_nothing : (h : List Done) → h ≡ h ++ []
append_nothing [] = refl
append_nothing (d ∷ ds) = ap (λ (l : List Done). d ∷ l) (append_nothing ds)

module _ {R : Type 0} (content : R → Option (List ℕ)) (heap : TableId × Told) where
  -- once a word was put
  pub mutator_put : (old new : MutatorState R) (place word : ℕ) (is_ref : Bool) → IsMutatorOf content heap old → HasPut old new place word is_ref → IsMutatorOf content heap new
  mutator_put old new place word is_ref is put = record {
    of = put.view.0 ∙ is.of;
    unmarked = λ p. put.marks p ∙ is.unmarked p;
    lawful = subst (λ (h : List Done). Lawful heap.1 h) (sym (ap (λ (v : View). v.seen) put.view.1)) is.lawful;
    reads = ap content put.reader ∙ is.reads;
    tags = (ap (λ (l : List Bool). length l) put.refs ∙ length-set old.refs place is_ref ∙ is.tags.0, ap (λ (l : List Bool). length l) put.wrote ∙ length-set old.wrote place true ∙ is.tags.1);
    space = subst (λ (n : ℕ). n < 32) (sym put.space) is.space;
  }

  pub belongs_put : (old new : MutatorState R) (place word : ℕ) (is_ref : Bool) → place < 512 → Belongs content heap old → HasPut old new place word is_ref
      → (is_ref ≡ true → KnowsWord heap.1 old.pass.1 word) → Belongs content heap new
  belongs_put old new place word is_ref low is put knows = record {
    mutator = mutator_put old new place word is_ref is.mutator put;
    known = subst (λ (refs : List Bool). Remembers heap.1 new.pass.1 refs) (sym put.refs)
        (row_put heap.1 old.pass.1 new.pass.1 old.refs place word is_ref (ap (λ (v : View). v.seen) put.view.1) (let long : length old.refs ≡ 512 = is.mutator.tags.0 in omega (arith, long, low)) put.words knows is.known);
  }

  -- once its view has gone on, with the words and the marks as they were
  pub mutator_past : (old : MutatorState R) (view : View) → Lawful heap.1 view.seen → ((p : ℕ) → marks_of view.log p ≡ marks_of old.pass.1.log p)
      → IsMutatorOf content heap old → IsMutatorOf content heap (with_view old view)
  mutator_past old view lawful marks is = record {
    of = is.of;
    unmarked = λ p. marks p ∙ is.unmarked p;
    lawful = lawful;
    reads = is.reads;
    tags = is.tags;
    space = is.space;
  }

  pub belongs_past : (old : MutatorState R) (view : View) (between : List Done) → view.seen ≡ old.pass.1.seen ++ between → Lawful heap.1 view.seen
      → ((q : ℕ) → word_of view.log q ≡ word_of old.pass.1.log q) → ((p : ℕ) → marks_of view.log p ≡ marks_of old.pass.1.log p)
      → Belongs content heap old → Belongs content heap (with_view old view)
  belongs_past old view between seen lawful words marks is = record {
    mutator = mutator_past old view lawful marks is.mutator;
    known = row_past heap.1 old.pass.1 view between old.refs seen lawful words is.known;
  }

  -- with what it has seen as it was
  pub mutator_still : (old : MutatorState R) (view : View) → view.seen ≡ old.pass.1.seen → ((p : ℕ) → marks_of view.log p ≡ marks_of old.pass.1.log p)
      → IsMutatorOf content heap old → IsMutatorOf content heap (with_view old view)
  mutator_still old view seen marks is = mutator_past old view (subst (λ (h : List Done). Lawful heap.1 h) (sym seen) is.lawful) marks is

  pub belongs_still : (old : MutatorState R) (view : View) → view.seen ≡ old.pass.1.seen
      → ((q : ℕ) → word_of view.log q ≡ word_of old.pass.1.log q) → ((p : ℕ) → marks_of view.log p ≡ marks_of old.pass.1.log p)
      → Belongs content heap old → Belongs content heap (with_view old view)
  belongs_still old view seen words marks is =
      belongs_past old view [] (seen ∙ append_nothing old.pass.1.seen) (subst (λ (h : List Done). Lawful heap.1 h) (sym seen) is.mutator.lawful) words marks is

  pub mutator_read : (old : MutatorState R) (place : ℕ) → IsMutatorOf content heap old → IsMutatorOf content heap (read_own old place)
  mutator_read old place is = mutator_still old (read_own old place).pass.1 refl (λ p. refl) is

  pub belongs_read : (old : MutatorState R) (place : ℕ) → Belongs content heap old → Belongs content heap (read_own old place)
  belongs_read old place is = belongs_still old (read_own old place).pass.1 refl (λ q. refl) (λ p. refl) is

  -- once it has taken a unit
  pub mutator_taken : {D : Type 0} (g : Ghosts D R) (old new : MutatorState R) (unit : ℕ) (slot : Option (Value D R))
      → HasTaken g heap.1 old new unit slot → IsMutatorOf content heap old → IsMutatorOf content heap new
  mutator_taken g old new unit slot has is =
      subst (λ (m : MutatorState R). IsMutatorOf content heap m) (sym has.rest)
      (mutator_past old new.pass.1 has.taken.sound.lawful (λ p. ap (λ (v : View). marks_of v.log p) has.taken.view) is)

  pub belongs_taken : {D : Type 0} (g : Ghosts D R) (old new : MutatorState R) (unit : ℕ) (slot : Option (Value D R))
      → HasTaken g heap.1 old new unit slot → Belongs content heap old → Belongs content heap new
  belongs_taken g old new unit slot has is =
      let was = has.taken.view in
      subst (λ (m : MutatorState R). Belongs content heap m) (sym has.rest)
      (belongs_past old new.pass.1 has.taken.between (ap (λ (v : View). v.seen) was) has.taken.sound.lawful
      (λ q. ap (λ (v : View). word_of v.log q) was) (λ p. ap (λ (v : View). marks_of v.log p) was) is)

  -- or was refused it, or gave it back
  pub mutator_refused : (old : MutatorState R) (unit word : ℕ) → IsMutatorOf content heap old → IsMutatorOf content heap (with_view old (refused old.pass.1 unit word))
  mutator_refused old unit word is = mutator_still old (refused old.pass.1 unit word) refl (λ p. refl) is

  pub belongs_refused : (old : MutatorState R) (unit word : ℕ) → Belongs content heap old → Belongs content heap (with_view old (refused old.pass.1 unit word))
  belongs_refused old unit word is = belongs_still old (refused old.pass.1 unit word) refl (λ q. refl) (λ p. refl) is

  pub mutator_gave : (old : MutatorState R) (unit : ℕ) → IsMutatorOf content heap old → IsMutatorOf content heap (with_view old (gave old.pass.1 unit))
  mutator_gave old unit is = mutator_still old (gave old.pass.1 unit) refl (λ p. refl) is

  pub belongs_gave : (old : MutatorState R) (unit : ℕ) → Belongs content heap old → Belongs content heap (with_view old (gave old.pass.1 unit))
  belongs_gave old unit is = belongs_still old (gave old.pass.1 unit) refl (λ q. refl) (λ p. refl) is

  -- once it tried to take a unit
  module _ {D : Type 0} (g : Ghosts D R) (old : MutatorState R) (pass : TableId × View) (unit : ℕ) (asked : table.Unit) where
    pub mutator_tried : (r : Result (Option (Value D R)) Busy)
        → IfOk r (λ slot. (pass.0 ≡ old.pass.0) × Taken (stands_for g) pages_in (faults_in g) heap.1 old.pass.1 pass.1 unit slot)
        → IfErr r (λ busy. (busy.unit ≡ asked) × (busy.word ≢ 0) × Becomes old.pass pass (refused old.pass.1 unit busy.word))
        → IsMutatorOf content heap old → IsMutatorOf content heap (record old { pass = pass })
    mutator_tried (Ok slot) taken busy is =
        mutator_taken g old (record old { pass = pass }) unit slot (record { rest = λ i. record old { pass = (taken.0 i, pass.1) }; taken = taken.1 }) is
    mutator_tried (Err failed) taken busy is =
        let same : record old { pass = pass } ≡ with_view old (refused old.pass.1 unit failed.word) = λ i. record old { pass = (busy.2.0 i, busy.2.1 i) } in
        subst (λ (m : MutatorState R). IsMutatorOf content heap m) (sym same) (mutator_refused old unit failed.word is)

    pub belongs_tried : (r : Result (Option (Value D R)) Busy)
        → IfOk r (λ slot. (pass.0 ≡ old.pass.0) × Taken (stands_for g) pages_in (faults_in g) heap.1 old.pass.1 pass.1 unit slot)
        → IfErr r (λ busy. (busy.unit ≡ asked) × (busy.word ≢ 0) × Becomes old.pass pass (refused old.pass.1 unit busy.word))
        → Belongs content heap old → Belongs content heap (record old { pass = pass })
    belongs_tried (Ok slot) taken busy is =
        belongs_taken g old (record old { pass = pass }) unit slot (record { rest = λ i. record old { pass = (taken.0 i, pass.1) }; taken = taken.1 }) is
    belongs_tried (Err failed) taken busy is =
        let same : record old { pass = pass } ≡ with_view old (refused old.pass.1 unit failed.word) = λ i. record old { pass = (busy.2.0 i, busy.2.1 i) } in
        subst (λ (m : MutatorState R). Belongs content heap m) (sym same) (belongs_refused old unit failed.word is)

  -- once another was joined into it
  pub belongs_joined : (old : MutatorState R) (pass : TableId × View) (x : View) → Becomes old.pass pass (both_views old.pass.1 x) → Lawful heap.1 pass.1.seen
      → Belongs content heap old → Belongs content heap (record old { pass = pass })
  belongs_joined old pass x is lawful was =
      let same : record old { pass = pass } ≡ with_view old (both_views old.pass.1 x) = λ i. record old { pass = (is.0 i, is.1 i) } in
      subst (λ (m : MutatorState R). Belongs content heap m) (sym same)
      (belongs_past old (both_views old.pass.1 x) (beyond old.pass.1.seen x.seen) refl (subst (λ (v : View). Lawful heap.1 v.seen) is.1 lawful) (λ q. refl) (λ p. refl) was)

  -- once it gave the turn back
  pub belongs_turned : (old : MutatorState R) (pass : TableId × View) (turn : ℕ) (more failed : List Done) (faults : ℕ)
      → Becomes old.pass pass (turned turn old.pass.1 more failed faults) → Lawful heap.1 (old.pass.1.seen ++ more) → Belongs content heap old → Belongs content heap (record old { pass = pass })
  belongs_turned old pass turn more failed faults is lawful was =
      let same : record old { pass = pass } ≡ with_view old (turned turn old.pass.1 more failed faults) = λ i. record old { pass = (is.0 i, is.1 i) } in
      subst (λ (m : MutatorState R). Belongs content heap m) (sym same)
      (belongs_past old (turned turn old.pass.1 more failed faults) more refl lawful (λ q. refl) (λ p. refl) was)
