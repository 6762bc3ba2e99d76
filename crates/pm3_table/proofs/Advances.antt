-- What a step of one seat leaves of the views, by the mutators' numbers.
use Rattle.std.proofs.Common.{◌≡◌, ◌≢◌, ℕ, zero, suc, ◌<◌, true, List, [], ◌∷◌, length, sym, ap, ◌∙◌, subst, ⊎_elim, arith}
use Rattle.std.proofs.Math.ListN.{set}
use mathlib.Core.Option.{some, some-injective, some-ne-none}
use lib.ListN.{get_elem?}
use Rattle.atomic_table.proofs.Lists.{at_set, set_here, set_else}
use Rattle.pm3_core.specs.Machine.{put}
use Rattle.pm3_table.specs.declared.view.View.{View}
use Rattle.pm3_table.specs.Crew.{Lives, Seated}
use Rattle.pm3_table.proofs.Put.{put_at, put_else, put_cases, put_map, put_same}

-- a list that has an item at a number is longer
pub inside : {A : Type 0} → (xs : List A) (i : ℕ) (x : A) → get_elem? xs i ≡ some x → i < length xs
inside [] i x e = absurd (some-ne-none x (sym e))
inside (y ∷ ys) zero x e = omega arith
inside (y ∷ ys) (suc i) x e = let l : i < length ys = inside ys i x e in omega arith

-- the seat id had the view v, and has w
module _ (views : List View) (crew : ℕ → View) (seated : Seated views crew) (id : ℕ) (v w : View) (l : Lives views id v)
    (alive : w.live ≡ true) (row : w.row ≡ v.row) where
  known_now : (j : ℕ) (u : View) → Lives (set views id w) j u → put crew v.row w u.row ≡ u
  known_now j u lives = ⊎_elim
      (λ (t : (j ≡ id) × (w ≡ u)). put_at crew v.row w u.row (ap (λ (x : View). x.row) (sym t.1) ∙ row) ∙ t.1)
      (λ (t : (j ≢ id) × (get_elem? views j ≡ some u)).
      let other : u.row ≢ v.row = λ e. t.0 (seated.apart j id u v (t.1, lives.1) l e) in
      put_else crew v.row w u.row other ∙ seated.knows j u (t.1, lives.1))
      (at_set views id j w u lives.0)

  abbrev Sits : ℕ → View → Type 0
  Sits k u = u.live ≡ true → (j : ℕ) × Lives (set views id w) j u × (u.row ≡ k)

  sits_else : (k : ℕ) → k ≢ v.row → (crew k).live ≡ true → (j : ℕ) × Lives (set views id w) j (crew k) × ((crew k).row ≡ k)
  sits_else k other live = let at = seated.sits k live in
      let apart : at.0 ≢ id = λ e. other (sym at.2 ∙ ap (λ (x : View). x.row) (some-injective (crew k) v (sym at.1.0 ∙ (ap (get_elem? views) e ∙ l.0)))) in
      (at.0, (set_else views id at.0 w apart ∙ at.1.0, at.1.1), at.2)

  sits_now : (k : ℕ) → Sits k (put crew v.row w k)
  sits_now k = put_cases (Sits k) crew v.row w k
      (λ here live. (id, (set_here views id w (inside views id v l.0), live), row ∙ sym here))
      (λ other live. sits_else k other live)

  apart_now : (i j : ℕ) (x y : View) → Lives (set views id w) i x → Lives (set views id w) j y → x.row ≡ y.row → i ≡ j
  apart_now i j x y lx ly same = ⊎_elim
      (λ (t : (i ≡ id) × (w ≡ x)). ⊎_elim
      (λ (q : (j ≡ id) × (w ≡ y)). t.0 ∙ sym q.0)
      (λ (q : (j ≢ id) × (get_elem? views j ≡ some y)).
      t.0 ∙ seated.apart id j v y l (q.1, ly.1) (sym row ∙ (ap (λ (z : View). z.row) t.1 ∙ same)))
      (at_set views id j w y ly.0))
      (λ (t : (i ≢ id) × (get_elem? views i ≡ some x)). ⊎_elim
      (λ (q : (j ≡ id) × (w ≡ y)).
      seated.apart i id x v (t.1, lx.1) l (same ∙ (ap (λ (z : View). z.row) (sym q.1) ∙ row)) ∙ sym q.0)
      (λ (q : (j ≢ id) × (get_elem? views j ≡ some y)). seated.apart i j x y (t.1, lx.1) (q.1, ly.1) same)
      (at_set views id j w y ly.0))
      (at_set views id i w x lx.0)

  live_here : (crew v.row).live ≡ true
  live_here = ap (λ (x : View). x.live) (seated.knows id v l) ∙ l.1

  pub seated_now : Seated (set views id w) (put crew v.row w)
  seated_now = record {
    knows = known_now;
    sits = sits_now;
    apart = apart_now;
    below = λ k. put_cases (λ u. u.live ≡ true → k < 32) crew v.row w k
        (λ here live. subst (λ (n : ℕ). n < 32) (sym here) (seated.below v.row live_here))
        (λ other live. seated.below k live);
  }

  -- a part that reads nothing of the change stays
  pub unchanged : {A : Type 0} (f : View → A) (P : (ℕ → A) → Type 0) → f w ≡ f v → P (λ k. f (crew k)) → P (λ k. f (put crew v.row w k))
  unchanged f P same p = subst P (sym (put_map f crew v.row w ∙ put_same (λ k. f (crew k)) v.row (f w) (same ∙ ap f (sym (seated.knows id v l))))) p

  -- a part that reads it is changed at the mutator's number
  pub altered : {A : Type 0} (f : View → A) (P : (ℕ → A) → Type 0) → P (put (λ k. f (crew k)) v.row (f w)) → P (λ k. f (put crew v.row w k))
  altered f P p = subst P (sym (put_map f crew v.row w)) p
