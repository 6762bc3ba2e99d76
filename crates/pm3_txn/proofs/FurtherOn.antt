-- A transaction once its mutator took a unit, or gave it back.
use Rattle.std.proofs.Common.{◌≡◌, ◌⊎◌, ◌==◌, if◌then◌else◌, ℕ, Bool, true, false, List, Option, refl, sym, ap, ◌∙◌, subst}
use Rattle.atomic_table.specs.Seated.{TableId}
use Rattle.pm3_disk.specs.declared.outside.Disk.{Ghosts}
use Rattle.pm3_access.specs.Holding.{Holding}
use Rattle.pm3_history.specs.Entry.{Done}
use Rattle.pm3_table.specs.declared.view.Told.{Told}
use Rattle.pm3_table.specs.declared.view.View.{View}
use Rattle.pm3_table.specs.Deeds.{word_of, stands_of, marks_of}
use Rattle.pm3_table.specs.Holds.{holds_of, spans_of, is_in}
use Rattle.pm3_table.specs.Ops.{gave, took}
use Rattle.pm3_table.specs.Telling.{IsSound, spans_in, counted_in}
use Rattle.pm3_table.specs.Words.{turn_unit}
use Rattle.pm3_txn.specs.declared.values.Value.{Value}
use Rattle.pm3_txn.specs.Heaps.{IsBelow}
use Rattle.pm3_txn.specs.OwnerLaws.{GoesFurther}
use Rattle.pm3_txn.specs.Owners.{AdvancesOn, HasNamesBelow, IsHolding, RemembersHere}
use Rattle.pm3_txn.specs.Slots.{pages_in, faults_in}
use Rattle.pm3_txn.specs.States.{MutatorState}
use Rattle.pm3_txn.specs.Takes.{HasTaken}
use Rattle.pm3_txn.specs.Touching.{DrewNothing, IsSameButHeld, nothing_more}
use Rattle.pm3_txn.specs.Underway.{IsMutatorOf, IsUnderway}
use Rattle.pm3_txn.proofs.Advancing.{moment}
use Rattle.pm3_txn.proofs.Keeping.{Keeps, keeps_later, row_kept}
use Rattle.pm3_txn.proofs.OwnerGoes.{holdings_go_on}
use Rattle.pm3_txn.proofs.OwnerSteps.{takes_go_further, gives_go_further}

-- a view went further where a unit was taken
module _ {D R : Type 0} (g : Ghosts D R) (told : Told) (m n : MutatorState R) (u : ℕ) (slot : Option (Value D R)) (free : holds_of m.pass.1.holds u ≡ false) (has : HasTaken g told m n u slot) where
  abbrev took_it : View
  took_it = took (turn_unit told.pages) m.pass.1 u has.taken.between has.taken.lost (spans_in pages_in slot) (counted_in (faults_in g) slot)

  steps : GoesFurther told m.pass.1 took_it has.taken.between × (holds_of took_it.holds u ≡ true)
      × ((x : ℕ) → holds_of took_it.holds x ≡ true → (x ≡ u) ⊎ (holds_of m.pass.1.holds x ≡ true))
      × ((p : ℕ) → spans_of took_it.spans u p ≡ is_in p (spans_in pages_in slot))
  steps = takes_go_further told m.pass.1 u has.taken.between has.taken.lost (spans_in pages_in slot) (counted_in (faults_in g) slot) free has.taken.apart
      (subst (λ (v : View). IsSound told v has.taken.lost) has.taken.view has.taken.sound)

  pub took_further : GoesFurther told m.pass.1 n.pass.1 has.taken.between
  took_further = subst (λ (v : View). GoesFurther told m.pass.1 v has.taken.between) (sym has.taken.view) steps.0

  pub took_unit : holds_of n.pass.1.holds u ≡ true
  took_unit = ap (λ (v : View). holds_of v.holds u) has.taken.view ∙ steps.1

  pub took_alone : (x : ℕ) → holds_of n.pass.1.holds x ≡ true → (x ≡ u) ⊎ (holds_of m.pass.1.holds x ≡ true)
  took_alone x is = steps.2 x (sym (ap (λ (v : View). holds_of v.holds x) has.taken.view) ∙ is)

  pub took_pages : (p : ℕ) → spans_of n.pass.1.spans u p ≡ is_in p (spans_in pages_in slot)
  took_pages p = ap (λ (v : View). spans_of v.spans u p) has.taken.view ∙ steps.3 p

  -- nothing else changed, unless the unit was the turn
  module _ (apart : (u == turn_unit told.pages) ≡ false) (heap : TableId × Told) (tag : ℕ) (h held : Holding) (p : MutatorState R) (view : p.pass.1 ≡ record n.pass.1 { holds = p.pass.1.holds }) where
    view_of : {A : Type 0} (f : View → A) → f p.pass.1 ≡ f (record took_it { holds = p.pass.1.holds })
    view_of f = ap f view ∙ ap (λ (v : View). f (record v { holds = p.pass.1.holds })) has.taken.view

    pub took_same : p.pass.0 ≡ n.pass.0 → p.space ≡ n.space → p.refs ≡ n.refs → p.wrote ≡ n.wrote → IsSameButHeld (moment heap tag m h) (moment heap tag p held)
    took_same table space refs wrote = record {
      heap = refl;
      tag = refl;
      table = table ∙ ap (λ (x : MutatorState R). x.pass.0) has.rest;
      space = space ∙ ap (λ (x : MutatorState R). x.space) has.rest;
      refs = refs ∙ ap (λ (x : MutatorState R). x.refs) has.rest;
      wrote = wrote ∙ ap (λ (x : MutatorState R). x.wrote) has.rest;
      words = λ q. view_of (λ v. word_of v.log q);
      stands = λ q. view_of (λ v. stands_of v.log q);
      marks = λ q. view_of (λ v. marks_of v.log q);
      row = view_of (λ v. v.row);
      mine = view_of (λ v. v.mine);
      faults = view_of (λ v. v.faults) ∙ ap (λ (b : Bool). if b then counted_in (faults_in g) slot else m.pass.1.faults) apart;
    }

    pub took_calm : p.next_name ≡ n.next_name → (p.pass.1.refusals ≡ m.pass.1.refusals) × DrewNothing (moment heap tag m h) (moment heap tag p held)
    took_calm next = (
      view_of (λ v. v.refusals),
      (view_of (λ v. v.drew_pages), view_of (λ v. v.drew_names), view_of (λ v. v.filled), next ∙ ap (λ (x : MutatorState R). x.next_name) has.rest),
    )

  -- and where it was given back
  pub back_further : (v : View) → v ≡ gave n.pass.1 u
      → GoesFurther told m.pass.1 v has.taken.between × ((x : ℕ) → holds_of v.holds x ≡ true → holds_of m.pass.1.holds x ≡ true)
  back_further v is = subst (λ (w : View). GoesFurther told m.pass.1 w has.taken.between × ((x : ℕ) → holds_of w.holds x ≡ true → holds_of m.pass.1.holds x ≡ true)) (sym is)
      (gives_go_further told m.pass.1 n.pass.1 u has.taken.between free took_further took_alone)

-- a transaction whose mutator's view went further
module _ {R : Type 0} (content : R → Option (List ℕ)) (heap : TableId × Told) (m n : MutatorState R) (h : Holding) (tag : ℕ) (between : List Done) (below : IsBelow heap.1)
    (far : GoesFurther heap.1 m.pass.1 n.pass.1 between) (was : IsUnderway content (moment heap tag m h)) where
  pub keeps_further : Keeps heap.1 m.pass.1 h n.pass.1 h
  keeps_further = keeps_later heap.1 m.pass.1 n.pass.1 m.space h between below far was.holding

  pub advances_further : AdvancesOn heap.1 m.pass.1 h n.pass.1 h nothing_more
  advances_further = record { works = (holdings_go_on heap.1 m.pass.1 n.pass.1 m.space h between below far was.holding).0; keeps = keeps_further.objects }

  -- it is underway where it holds what it held
  pub further_underway : ((u : ℕ) → holds_of n.pass.1.holds u ≡ true → holds_of m.pass.1.holds u ≡ true) → ((q : ℕ) → word_of n.pass.1.log q ≡ word_of m.pass.1.log q)
      → n.refs ≡ m.refs → n.wrote ≡ m.wrote → n.space ≡ m.space → n.next_name ≡ m.next_name → IsMutatorOf content heap n → IsUnderway content (moment heap tag n h)
  further_underway back words refs wrote space next kept = record {
    mutator = kept;
    known = subst (λ (l : List Bool × List Bool). RemembersHere heap.1 n.pass.1 h l.0 l.1) (λ i. (sym refs i, sym wrote i)) (row_kept heap.1 m.pass.1 n.pass.1 h h keeps_further m.refs m.wrote words was.known);
    holding = subst (λ (k : ℕ). IsHolding heap.1 n.pass.1 k h) (sym space) ((holdings_go_on heap.1 m.pass.1 n.pass.1 m.space h between below far was.holding).1 back);
    named = subst (λ (k : ℕ). HasNamesBelow k h) (sym next) was.named;
  }
