-- A mutator gives all that it holds back as it is: pages of two kinds, and its space.
use Rattle.std.proofs.Common.{◌≡◌, ◌∙◌, ◌⊎◌, inl, inr, ℕ, Bool, true, false, List, Option, Some, None, is_some, refl, sym, ap, subst, arith}
use Rattle.std.proofs.lemmas.Bool.{cases_eq, false≢true}
use Rattle.std.specs.FinMap as map
use Rattle.std.specs.FinMap.{contains_key}
use Rattle.atomic_table.specs.Seated.{TableId}
use Rattle.pm3_types.specs.Layout.{PageImage}
use Rattle.pm3_page.specs.PageMap.{Images}
use Rattle.pm3_access.specs.Holding.{SpaceState}
use Rattle.pm3_history.specs.Entry.{Done}
use Rattle.pm3_table.specs.declared.view.Told.{Told}
use Rattle.pm3_table.specs.Holds.{holds_of, spans_of}
use Rattle.pm3_table.specs.Ops.{gave}
use Rattle.pm3_table.specs.Words.{space_unit}
use Rattle.pm3_table.proofs.Put.{put_at, put_else}
use Rattle.pm3_txn.specs.Aborting.{AreAllOf, AreOwed, HasOnlyGiven, IsSpaceOwed}
use Rattle.pm3_txn.specs.States.{MutatorState}
use Rattle.pm3_txn.specs.Takes.{with_view}
use Rattle.pm3_txn.specs.Underway.{HoldsNothing}
use Rattle.pm3_txn.specs.Values.{IsPageOf, IsSpaceOf}

-- units that were given back one after another
given_twice : {R : Type 0} (m n p : MutatorState R) → HasOnlyGiven m n → HasOnlyGiven n p → HasOnlyGiven m p
given_twice {R} m n p one two = two ∙ ap (λ (x : MutatorState R). with_view x (record x.pass.1 { holds = p.pass.1.holds })) one

falls : (b : Bool) → (b ≡ true → ⊥) → b ≡ false
falls true never = absurd (never refl)
falls false never = refl

module _ {R : Type 0} (heap : TableId × Told) (m n : MutatorState R) (pages written : Images) (given : HasOnlyGiven m n) (gone : (u : ℕ) → contains_key pages u ≡ true → holds_of n.pass.1.holds u ≡ false)
    (others : (u : ℕ) → contains_key pages u ≡ false → holds_of n.pass.1.holds u ≡ holds_of m.pass.1.holds u) where
  -- once the pages of one kind were given back, the others are owed still
  pub still_owed : ((u : ℕ) → contains_key written u ≡ true → contains_key pages u ≡ false) → AreOwed heap.1 m.pass.1 written → AreOwed heap.1 n.pass.1 written
  still_owed apart owed q image is = (let was = owed q image is in (
    others q (apart q (ap is_some is)) ∙ was.0,
    subst (λ (l : List Done). IsPageOf heap.1 l q image) (sym (ap (λ (x : MutatorState R). x.pass.1.seen) given)) was.1,
  ))

  module _ (space : Option SpaceState) (p : MutatorState R) (given_too : HasOnlyGiven n p) (gone_too : (u : ℕ) → contains_key written u ≡ true → holds_of p.pass.1.holds u ≡ false)
      (others_too : (u : ℕ) → contains_key written u ≡ false → holds_of p.pass.1.holds u ≡ holds_of n.pass.1.holds u) (all : AreAllOf heap.1 m.pass.1 m.space pages written space) where
    both_given : HasOnlyGiven m p
    both_given = given_twice m n p given given_too

    own : p.space ≡ m.space
    own = ap (λ (x : MutatorState R). x.space) both_given

    -- it holds its space alone then, or nothing
    rest : (u : ℕ) → holds_of p.pass.1.holds u ≡ true → (is_some space ≡ true) × (u ≡ space_unit heap.1.pages m.space)
    rest u is = of (contains_key written u) refl (contains_key pages u) refl
      where
        mine : contains_key written u ≡ false → contains_key pages u ≡ false
            → (contains_key pages u ≡ true) ⊎ ((contains_key written u ≡ true) ⊎ ((is_some space ≡ true) × (u ≡ space_unit heap.1.pages m.space)))
            → (is_some space ≡ true) × (u ≡ space_unit heap.1.pages m.space)
        mine none bare (inl there) = absurd (false≢true (sym bare ∙ there))
        mine none bare (inr (inl there)) = absurd (false≢true (sym none ∙ there))
        mine none bare (inr (inr unit)) = unit

        of : (a : Bool) → contains_key written u ≡ a → (b : Bool) → contains_key pages u ≡ b → (is_some space ≡ true) × (u ≡ space_unit heap.1.pages m.space)
        of true there b at = absurd (false≢true (sym (gone_too u there) ∙ is))
        of false none true there = absurd (false≢true (sym (others_too u none ∙ gone u there) ∙ is))
        of false none false bare = mine none bare (all u (sym (others_too u none ∙ others u bare) ∙ is))

    no_page : (images : Images) → AreOwed heap.1 m.pass.1 images → (s : ℕ) → contains_key images (space_unit heap.1.pages s) ≡ false
    no_page images owed s = falls (contains_key images (space_unit heap.1.pages s)) (λ is. of (map.get images (space_unit heap.1.pages s)) refl is)
      where
        of : (o : Option PageImage) → map.get images (space_unit heap.1.pages s) ≡ o → contains_key images (space_unit heap.1.pages s) ≡ true → ⊥
        of None none is = false≢true (sym (ap is_some none) ∙ is)
        of (Some image) on is = (let low = (owed (space_unit heap.1.pages s) image on).1.low.1 in omega (arith, low))

    -- the space is owed still
    pub space_still : AreOwed heap.1 m.pass.1 pages → AreOwed heap.1 m.pass.1 written → IsSpaceOwed heap.1 m.pass.1 m.space space → IsSpaceOwed heap.1 p.pass.1 p.space space
    space_still owed owed_too is = subst (λ (k : ℕ). IsSpaceOwed heap.1 p.pass.1 k space) (sym own) (by space is)
      where
        by : (o : Option SpaceState) → IsSpaceOwed heap.1 m.pass.1 m.space o → IsSpaceOwed heap.1 p.pass.1 m.space o
        by None is = tt
        by (Some s) is = (
          others_too (space_unit heap.1.pages m.space) (no_page written owed_too m.space) ∙ others (space_unit heap.1.pages m.space) (no_page pages owed m.space) ∙ is.0,
          subst (λ (l : List Done). IsSpaceOf heap.1 l (space_unit heap.1.pages m.space) s) (sym (ap (λ (x : MutatorState R). x.pass.1.seen) both_given)) is.1,
          λ q. is.2 q ∙ sym (ap (λ (x : MutatorState R). spans_of x.pass.1.spans (space_unit heap.1.pages m.space) q) both_given),
        )

    -- and once it was given back nothing is held
    module _ (r : MutatorState R) (gave_it : r ≡ with_view p (gave p.pass.1 (space_unit heap.1.pages p.space))) where
      pub all_bare : HoldsNothing r
      all_bare u = ap (λ (x : MutatorState R). holds_of x.pass.1.holds u) gave_it ∙ elim (cases_eq u (space_unit heap.1.pages p.space)) [
        | inl e ↦ put_at (holds_of p.pass.1.holds) (space_unit heap.1.pages p.space) false u e
        | inr ne ↦ put_else (holds_of p.pass.1.holds) (space_unit heap.1.pages p.space) false u ne
            ∙ falls (holds_of p.pass.1.holds u) (λ is. ne ((rest u is).1 ∙ ap (space_unit heap.1.pages) (sym own)))
      ]
