-- What is reached, and closures.
use Rattle.std.proofs.Common.{◌≡◌, ◌⊎◌, ℕ, List, Option, Some, None, IsSome, is_some, refl, sym, ap, ◌∙◌, inl, inr}
use Rattle.std.specs.Prelude.{Contains}
use Rattle.std.specs.Option.{option_or}
use Rattle.std.specs.FinMap.{get}
use Rattle.pm3_types.specs.Fields.{Fields}
use Rattle.pm3_types.specs.Record.{Record}
use Rattle.pm3_types.specs.Places.{Refers}
use Rattle.pm3_types.specs.Graph.{Part, with_part}
use Rattle.pm3_types.specs.Reached.{Reached, root, next, IsClosure}
use Rattle.pm3_types.specs.ReachedLaws.{AgreesOnReached, OneClosure, AlikeClosures, PartsReach, ClosureIsClosed, IsIn, ReachedWith}
use Rattle.pm3_types.proofs.Parts.{same_option, same_part, get-with_part}

some_of : {A : Type 0} (o : Option A) → IsSome o → (x : A) × (o ≡ Some x)
some_of None is = cc
some_of (Some x) is = (x, refl)

some_is : {A : Type 0} (o : Option A) (x : A) → o ≡ Some x → IsSome o
some_is o x is = ap is_some is

module _ (catalog : List Fields) where
  -- a reached name is one of the graph
  pub reached_is_there : (g : Part) (n : ℕ) → Reached catalog g n → IsSome (get g.records n)
  reached_is_there g n (root names _ is among there) = there
  reached_is_there g n (next m _ r up is refers there) = there

  there_too : (g h : Part) (n : ℕ) → AgreesOnReached catalog g h → Reached catalog g n → IsSome (get g.records n) → IsSome (get h.records n)
  there_too g h n agrees reached there =
      let found = some_of (get g.records n) there in
      some_is (get h.records n) found.0 (agrees.records n found.0 reached found.1)

  -- what is reached in g is reached in each graph that agrees on it
  pub reached_alike : (g h : Part) (n : ℕ) → AgreesOnReached catalog g h → Reached catalog g n → Reached catalog h n
  reached_alike g h n agrees (root names _ is among there) =
      root names n (sym agrees.roots ∙ is) among (there_too g h n agrees (root names n is among there) there)
  reached_alike g h n agrees (next m _ r up is refers there) =
      next m n r (reached_alike g h m agrees up) (agrees.records m r up is) refers
      (there_too g h n agrees (next m n r up is refers there) there)

  closure_agrees : (g c : Part) → IsClosure catalog g c → AgreesOnReached catalog g c
  closure_agrees g c closed = record { roots = sym closed.roots; records = closed.kept }

  -- in a closure the same is reached
  pub closure_reaches : (g c : Part) (n : ℕ) → IsClosure catalog g c → Reached catalog g n → Reached catalog c n
  closure_reaches g c n closed reached = reached_alike g c n (closure_agrees g c closed) reached

  pub reached_of_closure : (g c : Part) (n : ℕ) → IsClosure catalog g c → Reached catalog c n → Reached catalog g n
  reached_of_closure g c n closed reached =
      reached_alike c g n (record { roots = closed.roots; records = λ m r up is. (closed.only m r is).1 }) reached

pub one_closure : OneClosure
one_closure catalog g c d closed also =
    same_part c d
    (λ n. same_option (get c.records n) (get d.records n)
    (λ r is. also.kept n r (closed.only n r is).0 (closed.only n r is).1)
    (λ r is. closed.kept n r (also.only n r is).0 (also.only n r is).1))
    (closed.roots ∙ sym also.roots)

pub alike_closures : AlikeClosures
alike_closures catalog g h c agrees back closed = record {
  kept = λ n r reached is. closed.kept n r (reached_alike catalog h g n back reached) (back.records n r reached is);
  only = λ n r is.
      let found = closed.only n r is in
      (reached_alike catalog g h n agrees found.0, agrees.records n r found.0 found.1);
  roots = closed.roots ∙ agrees.roots;
}

pub parts_reach : PartsReach
parts_reach catalog f g n part rooted reached =
    let roots = some_of f.roots rooted in
    reached_alike catalog f g n (record { roots = roots.1 ∙ sym (part.roots roots.0 roots.1); records = λ m r up is. part.records m r is }) reached

pub closure_is_closed : ClosureIsClosed
closure_is_closed catalog g c closed = record {
  kept = λ n r reached is. is;
  only = λ n r is. (closure_reaches catalog g c n closed (closed.only n r is).0, is);
  roots = refl;
}

-- one of two options that has a value
of_either : {A : Type 0} (o p : Option A) (x : A) → option_or o p ≡ Some x → (o ≡ Some x) ⊎ ((o ≡ None) × (p ≡ Some x))
of_either None p x is = inr (refl, is)
of_either (Some y) p x is = inl is

in_either : {A : Type 0} (o p : Option A) → IsSome (option_or o p) → IsSome o ⊎ IsSome p
in_either None p there = inr there
in_either (Some x) p there = inl refl

module _ (catalog : List Fields) (g l : Part) where
  -- a name of "g with l" is in l, or is one of g
  in_with : (n : ℕ) → IsSome (get (with_part g l).records n) → IsSome (get l.records n) ⊎ IsSome (get g.records n)
  in_with n there = in_either (get l.records n) (get g.records n) (ap is_some (sym (get-with_part g l n)) ∙ there)

  root_in : (names : List ℕ) (n : ℕ) → g.roots ≡ Some names → Contains names n → IsSome (get l.records n) ⊎ IsSome (get g.records n) → IsIn catalog g l n
  root_in names n is among (inl mine) = inl mine
  root_in names n is among (inr there) = inr (root names n is among there)

  next_in : (m n : ℕ) (r : Record) → IsIn catalog g l m → get l.records m ≡ None → get g.records m ≡ Some r → Refers catalog r n
      → IsSome (get l.records n) ⊎ IsSome (get g.records n) → IsIn catalog g l n
  next_in m n r up none is refers (inl mine) = inl mine
  next_in m n r (inl mine) none is refers (inr there) = cc
  next_in m n r (inr reached) none is refers (inr there) = inr (next m n r reached is refers there)

pub reached_with : ReachedWith
reached_with catalog g l roots_stay refers_stay n (root names _ is among there) =
    elim (of_either l.roots g.roots names is) [
      | inl mine ↦ roots_stay names n mine among there
      | inr other ↦ root_in catalog g l names n other.1 among (in_with catalog g l n there)
    ]
reached_with catalog g l roots_stay refers_stay n (next m _ r up is refers there) =
    let before : IsIn catalog g l m = reached_with catalog g l roots_stay refers_stay m up in
    elim (of_either (get l.records m) (get g.records m) r (sym (get-with_part g l m) ∙ is)) [
      | inl mine ↦ refers_stay m n r mine refers there
      | inr other ↦ next_in catalog g l m n r before other.0 other.1 refers (in_with catalog g l n there)
    ]
