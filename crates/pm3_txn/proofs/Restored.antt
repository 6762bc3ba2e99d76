-- A mutator whose transaction has ended with all as it was found: the places that it wrote are nil, and it gave back what it held.
use Rattle.std.proofs.Common.{◌≡◌, ◌∙◌, inl, inr, ℕ, Bool, true, false, List, Option, Some, None, is_some, slice_index_or, refl, sym, ap, subst, arith}
use Rattle.std.proofs.lemmas.Bool.{cases_eq, false≢true}
use Rattle.std.specs.FinMap as map
use Rattle.std.specs.FinMap.{contains_key}
use Rattle.atomic_table.specs.Seated.{TableId}
use Rattle.pm3_types.specs.Layout.{PageImage}
use Rattle.pm3_page.specs.PageMap.{Images}
use Rattle.pm3_access.specs.Holding.{SpaceState}
use Rattle.pm3_history.specs.Entry.{Done}
use Rattle.pm3_table.specs.declared.view.Deed.{Deed}
use Rattle.pm3_table.specs.declared.view.Hold.{Hold}
use Rattle.pm3_table.specs.declared.view.Told.{Told}
use Rattle.pm3_table.specs.declared.view.View.{View}
use Rattle.pm3_table.specs.Deeds.{word_of, stands_of, marks_of}
use Rattle.pm3_table.specs.Holds.{holds_of, spans_of}
use Rattle.pm3_table.specs.Ops.{gave}
use Rattle.pm3_table.specs.Words.{space_unit}
use Rattle.pm3_table.proofs.Put.{put_at, put_else}
use Rattle.pm3_txn.specs.Aborting.{AreAll, AreOwed, HasCleared, HasOnlyGiven, IsSpaceOwed, was_written}
use Rattle.pm3_txn.specs.States.{MutatorState}
use Rattle.pm3_txn.specs.Takes.{with_view}
use Rattle.pm3_txn.specs.Underway.{Belongs, HoldsNothing}
use Rattle.pm3_txn.specs.Values.{IsPageOf, IsSpaceOf}
use Rattle.pm3_txn.proofs.Belonging.{belongs_gave}
use Rattle.pm3_txn.proofs.Cleared.{rest_held}
use Rattle.pm3_txn.proofs.GivenUnits.{gave_only}

-- places that were cleared stay so where units are given back
pub cleared_given : {R : Type 0} (old mid new : MutatorState R) (f : ℕ → Bool) → HasCleared old mid f → HasOnlyGiven mid new → HasCleared old new f
cleared_given {R} old mid new f has given =
    let log : new.pass.1.log ≡ mid.pass.1.log = ap (λ (m : MutatorState R). m.pass.1.log) given in
    record {
      words = λ q. ap (λ (l : List Deed). word_of l q) log ∙ has.words q;
      refs = λ q. ap (λ (m : MutatorState R). slice_index_or m.refs q false) given ∙ has.refs q;
      stands = λ q none. ap (λ (l : List Deed). stands_of l q) log ∙ has.stands q none;
      marks = λ p. ap (λ (l : List Deed). marks_of l p) log ∙ has.marks p;
      space = ap (λ (m : MutatorState R). m.space) given ∙ has.space;
      reader = ap (λ (m : MutatorState R). m.reader) given ∙ has.reader;
      next_name = ap (λ (m : MutatorState R). m.next_name) given ∙ has.next_name;
      view = (
        ap (λ (m : MutatorState R). m.pass.0) given ∙ has.view.0,
        ap (λ (m : MutatorState R). m.pass.1) given ∙ ap (λ (v : View). record v { holds = new.pass.1.holds }) has.view.1
            ∙ ap (λ (l : List Deed). record old.pass.1 { log = l; holds = new.pass.1.holds }) (sym log),
      );
    }

module _ {R : Type 0} (content : R → Option (List ℕ)) (heap : TableId × Told) (m c : MutatorState R) (pages : Images) (space : Option SpaceState) (owed : AreOwed heap.1 m.pass.1 pages)
    (cleared : HasCleared m c (was_written m)) (same : c.pass.1.holds ≡ m.pass.1.holds) where
  seen : c.pass.1.seen ≡ m.pass.1.seen
  seen = ap (λ (v : View). v.seen) cleared.view.1

  pub pages_owed : AreOwed heap.1 c.pass.1 pages
  pages_owed q image is = (let was = owed q image is in
      (ap (λ (hs : List Hold). holds_of hs q) same ∙ was.0, subst (λ (l : List Done). IsPageOf heap.1 l q image) (sym seen) was.1))

  module _ (p : MutatorState R) (given : HasOnlyGiven c p) (gone : (u : ℕ) → contains_key pages u ≡ true → holds_of p.pass.1.holds u ≡ false)
      (others : (u : ℕ) → contains_key pages u ≡ false → holds_of p.pass.1.holds u ≡ holds_of c.pass.1.holds u) (all : AreAll heap.1 m.pass.1 m.space pages space) where
    pub then_cleared : HasCleared m p (was_written m)
    then_cleared = cleared_given m c p (was_written m) cleared given

    own : p.space ≡ m.space
    own = then_cleared.space

    rest : (u : ℕ) → holds_of p.pass.1.holds u ≡ true → (is_some space ≡ true) × (u ≡ space_unit heap.1.pages m.space)
    rest u is = rest_held heap.1 (holds_of p.pass.1.holds) m.pass.1 m.space pages space all gone (λ x none. others x none ∙ ap (λ (hs : List Hold). holds_of hs x) same) u is

    falls : (b : Bool) → (b ≡ true → ⊥) → b ≡ false
    falls true never = absurd (never refl)
    falls false never = refl

    pub bare_then : space ≡ None → HoldsNothing p
    bare_then none u = falls (holds_of p.pass.1.holds u) (λ is. false≢true (sym (ap is_some none) ∙ (rest u is).0))

    no_page : (s : ℕ) → contains_key pages (space_unit heap.1.pages s) ≡ false
    no_page s = falls (contains_key pages (space_unit heap.1.pages s)) (λ is. of (map.get pages (space_unit heap.1.pages s)) refl is)
      where
        of : (o : Option PageImage) → map.get pages (space_unit heap.1.pages s) ≡ o → is_some (map.get pages (space_unit heap.1.pages s)) ≡ true → ⊥
        of None none is = false≢true (sym (ap is_some none) ∙ is)
        of (Some image) on is = (let low = (owed (space_unit heap.1.pages s) image on).1.low.1 in omega (arith, low))

    space_by : (o : Option SpaceState) → IsSpaceOwed heap.1 m.pass.1 m.space o → IsSpaceOwed heap.1 p.pass.1 m.space o
    space_by None is = tt
    space_by (Some s) is = (
      others (space_unit heap.1.pages m.space) (no_page m.space) ∙ ap (λ (hs : List Hold). holds_of hs (space_unit heap.1.pages m.space)) same ∙ is.0,
      subst (λ (l : List Done). IsSpaceOf heap.1 l (space_unit heap.1.pages m.space) s) (sym (ap (λ (v : View). v.seen) then_cleared.view.1)) is.1,
      λ q. is.2 q ∙ sym (ap (λ (v : View). spans_of v.spans (space_unit heap.1.pages m.space) q) then_cleared.view.1),
    )

    pub space_still : IsSpaceOwed heap.1 m.pass.1 m.space space → IsSpaceOwed heap.1 p.pass.1 p.space space
    space_still is = subst (λ (k : ℕ). IsSpaceOwed heap.1 p.pass.1 k space) (sym own) (space_by space is)

    -- and its space too
    module _ (n : MutatorState R) (gave_it : n ≡ with_view p (gave p.pass.1 (space_unit heap.1.pages p.space))) where
      pub all_cleared : HasCleared m n (was_written m)
      all_cleared = cleared_given m p n (was_written m) then_cleared (gave_only p n (space_unit heap.1.pages p.space) gave_it)

      pub all_bare : HoldsNothing n
      all_bare u = ap (λ (x : MutatorState R). holds_of x.pass.1.holds u) gave_it ∙ elim (cases_eq u (space_unit heap.1.pages p.space)) [
        | inl e ↦ put_at (holds_of p.pass.1.holds) (space_unit heap.1.pages p.space) false u e
        | inr ne ↦ put_else (holds_of p.pass.1.holds) (space_unit heap.1.pages p.space) false u ne
            ∙ falls (holds_of p.pass.1.holds u) (λ is. ne ((rest u is).1 ∙ ap (space_unit heap.1.pages) (sym own)))
      ]

      pub all_belongs : Belongs content heap p → Belongs content heap n
      all_belongs is = subst (Belongs content heap) (sym gave_it) (belongs_gave content heap p (space_unit heap.1.pages p.space) is)
