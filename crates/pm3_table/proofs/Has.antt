-- Which commits of a list a number concerns.
use Rattle.std.proofs.Common.{◌≡◌, ◌⊎◌, ℕ, ◌==◌, ◌||◌, ◌<◌, ◌≤◌, Bool, true, false, cond, List, [], ◌∷◌, ◌++◌, refl, sym, ap, ◌∙◌, subst, inl, inr, arith}
use Rattle.std.proofs.lemmas.Bool.Decides.{nat_tests}
use Rattle.pm3_history.specs.Entry.{Done}
use Rattle.pm3_table.specs.Histories.{some_has, NoneHas, by, AllBy, AllBelow}

module _ (has : Done → ℕ → Bool) where
  pub has-append : (a b : List Done) (n : ℕ) → some_has has (a ++ b) n ≡ (some_has has a n || some_has has b n)
  has-append [] b n = refl
  has-append (e ∷ es) b n = grind (arith, nat_tests, has-append es b n)

  pub has_left : (a b : List Done) (n : ℕ) → some_has has a n ≡ true → some_has has (a ++ b) n ≡ true
  has_left a b n h = grind (arith, nat_tests, has-append a b n)

  pub has_one : (a b : List Done) (n : ℕ) → some_has has (a ++ b) n ≡ true → (some_has has a n ≡ true) ⊎ (some_has has b n ≡ true)
  has_one a b n h = chosen (some_has has a n) (some_has has b n) (sym (has-append a b n) ∙ h)
    where
      chosen : (x y : Bool) → (x || y) ≡ true → (x ≡ true) ⊎ (y ≡ true)
      chosen true y e = inl refl
      chosen false y e = inr e

  pub none_join : (a b : List Done) (n : ℕ) → NoneHas has a n → NoneHas has b n → NoneHas has (a ++ b) n
  none_join a b n x y = grind (arith, nat_tests, has-append a b n)

  pub none_left : (a b : List Done) (n : ℕ) → NoneHas has (a ++ b) n → NoneHas has a n
  none_left a b n h = grind (arith, nat_tests, has-append a b n)

  pub none_right : (a b : List Done) (n : ℕ) → NoneHas has (a ++ b) n → NoneHas has b n
  none_right a b n h = grind (arith, nat_tests, has-append a b n)

more_by : (t : Bool) (e : Done) (l m r : List Done) → l ≡ m ++ r → cond t (e ∷ l) l ≡ cond t (e ∷ m) m ++ r
more_by true e l m r is = ap (λ (x : List Done). e ∷ x) is
more_by false e l m r is = is

pub by-append : (k : ℕ) (a b : List Done) → by k (a ++ b) ≡ by k a ++ by k b
by-append k [] b = refl
by-append k (e ∷ es) b = more_by (e.mutator == k) e (by k (es ++ b)) (by k es) (by k b) (by-append k es b)

pub by_all : (k : ℕ) (es : List Done) → AllBy k es → by k es ≡ es
by_all k [] all = refl
by_all k (e ∷ es) all =
    let test : (e.mutator == k) ≡ true = grind (arith, nat_tests, all.0) in
    ap (λ b. cond b (e ∷ by k es) (by k es)) test ∙ ap (λ (l : List Done). e ∷ l) (by_all k es all.1)

pub by_others : (k j : ℕ) (es : List Done) → AllBy k es → (j ≡ k → ⊥) → by j es ≡ []
by_others k j [] all other = refl
by_others k j (e ∷ es) all other =
    let test : (e.mutator == j) ≡ false = grind (arith, nat_tests, all.0, other) in
    ap (λ b. cond b (e ∷ by j es) (by j es)) test ∙ by_others k j es all.1 other

pub below-append : (top : ℕ) (a b : List Done) → AllBelow top a → AllBelow top b → AllBelow top (a ++ b)
below-append top [] b x y = y
below-append top (e ∷ es) b x y = (x.0, below-append top es b x.1 y)

pub below_by : (top k : ℕ) (es : List Done) → AllBy k es → k < top → AllBelow top es
below_by top k [] all below = tt
below_by top k (e ∷ es) all below = (subst (λ (n : ℕ). n < top) (sym all.0) below, below_by top k es all.1 below)

pub below_higher : (top higher : ℕ) (es : List Done) → AllBelow top es → top ≤ higher → AllBelow higher es
below_higher top higher [] all up = tt
below_higher top higher (e ∷ es) all up = (let b : e.mutator < top = all.0 in omega arith, below_higher top higher es all.1 up)

-- of a number past which all commits are, none is by it
pub by_past : (top k : ℕ) (es : List Done) → AllBelow top es → top ≤ k → by k es ≡ []
by_past top k [] all past = refl
by_past top k (e ∷ es) all past =
    let b : e.mutator < top = all.0 in
    let test : (e.mutator == k) ≡ false = grind (arith, nat_tests, b, past) in
    ap (λ b. cond b (e ∷ by k es) (by k es)) test ∙ by_past top k es all.1 past

pub own_front : (k : ℕ) (a b : List Done) → AllBy k (a ++ b) → AllBy k a
own_front k [] b all = tt
own_front k (e ∷ es) b all = (all.0, own_front k es b all.1)

pub own_rest : (k : ℕ) (a b : List Done) → AllBy k (a ++ b) → AllBy k b
own_rest k [] b all = all
own_rest k (e ∷ es) b all = own_rest k es b all.1
