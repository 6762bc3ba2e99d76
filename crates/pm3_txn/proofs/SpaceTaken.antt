-- A transaction that takes its mutator's space: it was refused, is held, or was given back.
use Rattle.std.proofs.Common.{◌≡◌, ◌≢◌, ◌⊎◌, ◌==◌, ◌||◌, ◌∙◌, inl, inr, ℕ, Bool, true, false, if◌then◌else◌, List, ◌∷◌, Option, Some, None, is_some, refl, sym, ap, subst, arith}
use Rattle.std.proofs.lemmas.Bool.{false≢true}
use Rattle.std.proofs.lemmas.Bool.Decides.{nat_tests}
use Rattle.std.specs.Option.{option_or}
use Rattle.std.specs.FinMap.{contains_key, get}
use Rattle.std.specs.FinSet as set
use Rattle.atomic_table.specs.Seated.{TableId}
use Rattle.pm3_disk.specs.declared.outside.Disk.{Ghosts}
use Rattle.pm3_core.specs.declared.naming.TheConstants.{BASE}
use Rattle.pm3_types.specs.Layout.{PageImage}
use Rattle.pm3_graph.specs.declared.operations.Op.{Op}
use Rattle.pm3_graph.specs.Frame.{FrameOfRuns}
use Rattle.pm3_page.specs.PageMap.{IsAtHome}
use Rattle.pm3_access.specs.Holding.{Holding, HeldSpaceState, SpaceState, image_in, space_now, with_held_space}
use Rattle.pm3_history.specs.Entry.{Done}
use Rattle.pm3_history.specs.Opens.{Opens}
use Rattle.pm3_history.specs.State.{State}
use Rattle.pm3_table.specs.declared.view.Hold.TheVariants.{Took, Gave}
use Rattle.pm3_table.specs.declared.view.Told.{Told}
use Rattle.pm3_table.specs.declared.view.View.{View}
use Rattle.pm3_table.specs.Holds.{holds_of, spans_of, is_in}
use Rattle.pm3_table.specs.Ops.{refused, gave}
use Rattle.pm3_table.specs.Telling.{is_steady}
use Rattle.pm3_table.specs.Words.{space_unit, turn_unit}
use Rattle.pm3_txn.specs.declared.values.Value.TheVariants.{Space}
use Rattle.pm3_txn.specs.Heaps.{IsBelow}
use Rattle.pm3_txn.specs.Making.{HasTakenSpace, IsSpaceRefused, IsSpaceGivenBack}
use Rattle.pm3_txn.specs.Knowing.{state_seen}
use Rattle.pm3_txn.specs.OwnerLaws.{GoesFurther}
use Rattle.pm3_txn.specs.Owners.{WorksOn, IsHolding, IsOwnUnit, RemembersHere}
use Rattle.pm3_txn.specs.Slots.{pages_of}
use Rattle.pm3_txn.specs.States.{MutatorState}
use Rattle.pm3_txn.specs.Takes.{HasTaken, with_view}
use Rattle.pm3_txn.specs.Touching.{IsSameButHeld, nothing_more}
use Rattle.pm3_txn.specs.Underway.{IsMutatorOf, IsUnderway}
use Rattle.pm3_txn.specs.Values.{IsSpaceOf}
use Rattle.pm3_txn.specs.Works.{Works}
use Rattle.pm3_txn.proofs.Advancing.{moment, goes_still}
use Rattle.pm3_txn.proofs.FurtherOn.{took_same, took_calm, took_further, took_unit, took_alone, took_pages, back_further, advances_further, keeps_further, further_underway}
use Rattle.pm3_txn.proofs.GivenUnits.{gave_only}
use Rattle.pm3_txn.proofs.Keeping.{Keeps, keeps_both, keeps_spaced, row_kept}
use Rattle.pm3_txn.proofs.OwnerGoes.{persistent_then}
use Rattle.pm3_txn.proofs.OwnerTakes.{holdings_take_spaces, pages_in_is, persistent_steady}
use Rattle.pm3_txn.proofs.Touched.{away_same, away_drew, away_goes}

module _ {D R : Type 0} (g : Ghosts D R) (content : R → Option (List ℕ)) (heap : TableId × Told) (m : MutatorState R) (h : Holding) (tag : ℕ)
    (was : IsUnderway content (moment heap tag m h)) (below : IsBelow heap.1) (none : h.space ≡ None) where
  abbrev u : ℕ
  u = space_unit heap.1.pages m.space

  -- the space is no unit that is held
  pub space_free : holds_of m.pass.1.holds u ≡ false
  space_free = of (holds_of m.pass.1.holds u) refl
    where
      never : (is_some (get h.pages.left u) ≡ true) ⊎ IsOwnUnit heap.1 h.space u → ⊥
      never (inl is) = (let low = (was.holding.units u is).1 in omega (arith, low))
      never (inr is) = subst (λ (s : Option HeldSpaceState). IsOwnUnit heap.1 s u) none is

      of : (b : Bool) → holds_of m.pass.1.holds u ≡ b → holds_of m.pass.1.holds u ≡ false
      of true is = absurd (never (was.holding.only u is))
      of false is = is

  not_turn : (u == turn_unit heap.1.pages) ≡ false
  not_turn = (let low = was.mutator.space in grind (arith, nat_tests, low))

  pub space_refused : (n : MutatorState R) (word : ℕ) → n ≡ with_view m (refused m.pass.1 u word) → word ≢ 0 → IsSpaceRefused (moment heap tag m h) (moment heap tag n h) word
  space_refused n word is seen = record {
    same = away_same content heap m n h tag u word is;
    drew = away_drew content heap m n h tag u word is;
    seen = seen;
    refusals = ap (λ (x : MutatorState R). x.pass.1.refusals) is;
    holds = ap (λ (x : MutatorState R). x.pass.1.holds) is;
    held = refl;
    none = none;
    goes_on = away_goes content heap m n h tag u word is;
  }

  -- it was taken
  module _ (n : MutatorState R) (space : SpaceState) (has : HasTaken g heap.1 m n u (Some (Space space))) (kept : IsMutatorOf content heap n) where
    far : GoesFurther heap.1 m.pass.1 n.pass.1 has.taken.between
    far = took_further g heap.1 m n u (Some (Space space)) space_free has

    is_space : IsSpaceOf heap.1 n.pass.1.seen u space
    is_space = subst (λ (l : List Done). IsSpaceOf heap.1 l u space) (sym far.seen) has.taken.good

    number : space.number ≡ m.space
    number = (let unit = is_space.unit in omega (arith, unit))

    holds_it : holds_of n.pass.1.holds u ≡ true
    holds_it = took_unit g heap.1 m n u (Some (Space space)) space_free has

    spread : (p : ℕ) → spans_of n.pass.1.spans u p ≡ is_in p (pages_of space)
    spread = took_pages g heap.1 m n u (Some (Space space)) space_free has

    none_by : (o : Option PageImage) → (is_some o ≡ true → ⊥) → o ≡ None
    none_by None never = refl
    none_by (Some x) never = absurd (never refl)

    -- none of its pages is held alone
    pub own_absent : (page : ℕ) → contains_key space.images page ≡ true → image_in h page ≡ None
    own_absent page on =
        let first : is_in page (pages_of space) ≡ true = pages_in_is space page ∙ ap (λ (b : Bool). b || set.contains space.free page) on in
        let loose : is_steady heap.1 n.pass.1 page ≡ false = (far.apart m.space page (was.mutator.space, holds_it, spread page ∙ first)).bare in
        let alone : get h.pages.left page ≡ None = none_by (get h.pages.left page)
        (λ is. false≢true (sym loose ∙ persistent_steady heap.1 n.pass.1 page (persistent_then heap.1 m.pass.1 n.pass.1 m.space h has.taken.between below far was.holding page is))) in
        (λ i. option_or (alone i) (space_now (none i) page))

    module _ (frame : FrameOfRuns) where
      home : IsAtHome space.images
      home q image on = (is_space.sound q image on).0

      goes : WorksOn heap.1 m.pass.1 h n.pass.1 (with_held_space h space) nothing_more × IsHolding heap.1 n.pass.1 m.space (with_held_space h space)
      goes = holdings_take_spaces frame heap.1 m.pass.1 n.pass.1 m.space h has.taken.between space below far none number is_space home holds_it spread
          (took_alone g heap.1 m n u (Some (Space space)) space_free has) was.holding

      before : (st : State) → Opens BASE heap.1.pages heap.1.opening st → (ops : List (Op × ℕ)) × Works heap.1.opening.catalog heap.1.pages (state_seen heap.1 n.pass.1 st) h ops
      before st opens = (let was_then = was.holding.works st opens in
          (was_then.0, (advances_further content heap m n h tag has.taken.between below far was).works st opens was_then.0 was_then.1))

      keeps : Keeps heap.1 m.pass.1 h n.pass.1 (with_held_space h space)
      keeps = keeps_both heap.1 m.pass.1 n.pass.1 n.pass.1 h h (with_held_space h space) (keeps_further content heap m n h tag has.taken.between below far was)
          (keeps_spaced heap.1 n.pass.1 m.space h space none kept.lawful before goes.1)

      same : IsSameButHeld (moment heap tag m h) (moment heap tag n (with_held_space h space))
      same = took_same g heap.1 m n u (Some (Space space)) space_free has not_turn heap tag h (with_held_space h space) n refl refl refl refl refl

      pub space_underway : IsUnderway content (moment heap tag n (with_held_space h space))
      space_underway = record {
        mutator = kept;
        known = subst (λ (l : List Bool × List Bool). RemembersHere heap.1 n.pass.1 (with_held_space h space) l.0 l.1) (λ i. (sym same.refs i, sym same.wrote i))
            (row_kept heap.1 m.pass.1 n.pass.1 h (with_held_space h space) keeps m.refs m.wrote same.words was.known);
        holding = subst (λ (k : ℕ). IsHolding heap.1 n.pass.1 k (with_held_space h space)) (sym same.space) goes.1;
        named = λ a k there. inl there;
      }

      pub space_taken : HasTakenSpace (moment heap tag m h) (moment heap tag n (with_held_space h space))
      space_taken =
          let calm = took_calm g heap.1 m n u (Some (Space space)) space_free has not_turn heap tag h (with_held_space h space) n refl refl in
          record {
            same = same;
            drew = calm.1;
            refusals = calm.0;
            holds = ap (λ (v : View). v.holds) has.taken.view ∙ sym (ap (λ (s : Option HeldSpaceState). if is_some s then m.pass.1.holds else (Took u ∷ m.pass.1.holds)) none);
            held = refl;
            pages = refl;
            goes_on = record { works = goes.0; keeps = keeps.objects };
          }

    -- it was given back
    module _ (p : MutatorState R) (gave_it : p ≡ with_view n (gave n.pass.1 (space_unit heap.1.pages n.space))) (kept_then : IsMutatorOf content heap p) where
      given : p ≡ with_view n (gave n.pass.1 u)
      given = gave_it ∙ ap (λ (k : ℕ). with_view n (gave n.pass.1 (space_unit heap.1.pages k))) (ap (λ (x : MutatorState R). x.space) has.rest)

      then : GoesFurther heap.1 m.pass.1 p.pass.1 has.taken.between × ((x : ℕ) → holds_of p.pass.1.holds x ≡ true → holds_of m.pass.1.holds x ≡ true)
      then = back_further g heap.1 m n u (Some (Space space)) space_free has p.pass.1 (ap (λ (x : MutatorState R). x.pass.1) given)

      view : p.pass.1 ≡ record n.pass.1 { holds = p.pass.1.holds }
      view = ap (λ (x : MutatorState R). x.pass.1) (gave_only n p u given)

      back_same : IsSameButHeld (moment heap tag m h) (moment heap tag p h)
      back_same = took_same g heap.1 m n u (Some (Space space)) space_free has not_turn heap tag h h p view (ap (λ (x : MutatorState R). x.pass.0) given) (ap (λ (x : MutatorState R). x.space) given)
          (ap (λ (x : MutatorState R). x.refs) given) (ap (λ (x : MutatorState R). x.wrote) given)

      pub back_underway : IsUnderway content (moment heap tag p h)
      back_underway = further_underway content heap m p h tag has.taken.between below then.0 was then.1 back_same.words back_same.refs back_same.wrote back_same.space
          (ap (λ (x : MutatorState R). x.next_name) given ∙ ap (λ (x : MutatorState R). x.next_name) has.rest) kept_then

      pub space_given_back : IsSpaceGivenBack (moment heap tag m h) (moment heap tag p h)
      space_given_back =
          let calm = took_calm g heap.1 m n u (Some (Space space)) space_free has not_turn heap tag h h p view (ap (λ (x : MutatorState R). x.next_name) given) in
          record {
            same = back_same;
            drew = calm.1;
            refusals = calm.0;
            holds = ap (λ (x : MutatorState R). x.pass.1.holds) given ∙ ap (λ (v : View). Gave u ∷ v.holds) has.taken.view;
            held = refl;
            none = none;
            goes_on = advances_further content heap m p h tag has.taken.between below then.0 was;
          }

-- a space that is held is no other one
pub space_held : {R : Type 0} (content : R → Option (List ℕ)) (heap : TableId × Told) (m : MutatorState R) (h : Holding) (tag : ℕ) → IsUnderway content (moment heap tag m h) → is_some h.space ≡ true
    → HasTakenSpace (moment heap tag m h) (moment heap tag m h)
space_held content heap m h tag was is = record {
  same = record {
    heap = refl;
    tag = refl;
    table = refl;
    space = refl;
    refs = refl;
    wrote = refl;
    words = λ q. refl;
    stands = λ q. refl;
    marks = λ q. refl;
    row = refl;
    mine = refl;
    faults = refl;
  };
  drew = (refl, refl, refl, refl);
  refusals = refl;
  holds = sym (ap (λ (b : Bool). if b then m.pass.1.holds else (Took (space_unit heap.1.pages m.space) ∷ m.pass.1.holds)) is);
  held = is;
  pages = refl;
  goes_on = goes_still heap.1 m.pass.1 m.pass.1 h refl;
}
