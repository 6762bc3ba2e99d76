-- The slots that a pass carries: how one comes to the top, and what is carried after a unit is taken or given back.
use Rattle.std.proofs.Common.{◌≡◌, ◌≢◌, ℕ, suc, ◌<◌, ◌==◌, ◌||◌, Bool, true, false, if◌then◌else◌, List, [], ◌∷◌, length, length-set, Option, None, refl, sym, ap, ◌∙◌, subst, arith}
use Rattle.std.proofs.Math.ListN.{set}
use Rattle.std.proofs.lemmas.Bool.Decides.{nat_tests}
use mathlib.Core.Option as maybe
use mathlib.Core.Option.{none, some, some-injective, some-ne-none}
use mathlib.Core.Logic.{dite}
use native.Mathlib.Decide.{ℕ_discrete}
use lib.ListN.{get_elem?}
use Rattle.atomic_table.specs.Table.{Act, keeps, takes, gives, chain, Valid, homes_after, carried_after, rest}
use Rattle.atomic_table.proofs.Lists.{set_here, set_else}
use Rattle.pm3_core.specs.Machine.{put}
use Rattle.pm3_table.specs.declared.view.Hold.{Hold}
use Rattle.pm3_table.specs.declared.view.Hold.TheVariants.{Gave}
use Rattle.pm3_table.specs.Counts.{Distinct}
use Rattle.pm3_table.specs.Holds.{holds_of, is_in}
use Rattle.pm3_table.specs.Carried.{slots_in, AreEmpty, dropped, Carries}
use Rattle.pm3_table.proofs.Put.{put_at, put_else, put_cases}
use Rattle.pm3_table.proofs.Advances.{inside}

eq_of : (a b : ℕ) → (a == b) ≡ true → a ≡ b
eq_of a b e = grind (arith, nat_tests, e)

ne_of : (a b : ℕ) → (a == b) ≡ false → a ≢ b
ne_of a b e same = grind (arith, nat_tests, e, same)

-- two lists that read alike are one
same_list : {A : Type 0} → (l m : List A) → ((i : ℕ) → get_elem? l i ≡ get_elem? m i) → l ≡ m
same_list [] [] e = refl
same_list [] (y ∷ ys) e = absurd (some-ne-none y (sym (e 0)))
same_list (x ∷ xs) [] e = absurd (some-ne-none x (e 0))
same_list (x ∷ xs) (y ∷ ys) e = λ i. some-injective x y (e 0) i ∷ same_list xs ys (λ j. e (suc j)) i

-- two items are put in and taken out again
out_again : {A : Type 0} → (hs : List A) (k u : ℕ) (a b z : A) → k ≢ u → get_elem? hs k ≡ some z → get_elem? hs u ≡ some z
    → set (set (set (set hs k a) u b) k z) u z ≡ hs
out_again hs k u a b z apart at_k at_u = same_list (set (set (set (set hs k a) u b) k z) u z) hs (λ i.
    let l1 = set hs k a in let l2 = set l1 u b in let l3 = set l2 k z in
    let in_k : k < length l2 = subst (λ (n : ℕ). k < n) (sym (length-set l1 u b ∙ length-set hs k a)) (inside hs k z at_k) in
    let in_u : u < length l3 = subst (λ (n : ℕ). u < n) (sym (length-set l2 k z ∙ (length-set l1 u b ∙ length-set hs k a))) (inside hs u z at_u) in
    dite (ℕ_discrete i u)
    (λ e. ap (get_elem? (set l3 u z)) e ∙ (set_here l3 u z in_u ∙ (sym at_u ∙ ap (get_elem? hs) (sym e))))
    (λ o. set_else l3 u i z o ∙ dite (ℕ_discrete i k)
    (λ e. ap (get_elem? (set l2 k z)) e ∙ (set_here l2 k z in_k ∙ (sym at_k ∙ ap (get_elem? hs) (sym e))))
    (λ p. set_else l2 k i z p ∙ (set_else l1 u i b o ∙ set_else hs k i a p))))

module _ {V : Type 0} where
  -- the slots above go home, the slot is taken last, and the others are taken again
  abbrev pub reach_act : List (ℕ × Option V) → ℕ → Act (Option V)
  reach_act [] u = keeps
  reach_act (x ∷ xs) u = if x.0 == u then keeps else chain gives (chain (reach_act xs u) (chain gives (chain (takes x.0 None) (takes u None))))

  pub record Reached (hs : List (maybe.Option (Option V))) (c : List (ℕ × Option V)) (u : ℕ) (a : Act (Option V)) : Type 0 where
    pub valid : Valid hs c a
    pub homes : homes_after hs c a ≡ hs
    pub carried : carried_after c a ≡ (u, None) ∷ dropped u c

  reach_cons : (k : ℕ) (y : Option V) (xs : List (ℕ × Option V)) (u : ℕ) (b : Bool) → (k == u) ≡ b → y ≡ None → (hs : List (maybe.Option (Option V)))
      → get_elem? hs k ≡ some none → (k ≢ u → get_elem? hs u ≡ some none) → (k ≢ u → Reached (set hs k (some y)) xs u (reach_act xs u))
      → Reached hs ((k, y) ∷ xs) u (if b then keeps else chain gives (chain (reach_act xs u) (chain gives (chain (takes k None) (takes u None)))))
  reach_cons k y xs u true e nil hs at_k at_u rest_is = record {
    valid = tt;
    homes = refl;
    carried = (λ i. (eq_of k u e i, nil i) ∷ xs) ∙ ap (λ (t : Bool). (u, None) ∷ (if t then xs else ((k, y) ∷ dropped u xs))) (sym e);
  }
  reach_cons k y xs u false e nil hs at_k at_u rest_is =
      let apart : k ≢ u = ne_of k u e in
      let r = rest_is apart in
      let at_u_now = at_u apart in
      let hs1 : List (maybe.Option (Option V)) = set hs k (some y) in
      let c2 : List (ℕ × Option V) = (u, None) ∷ dropped u xs in
      let hs3 : List (maybe.Option (Option V)) = set hs1 u (some None) in
      let in_k : k < length hs = inside hs k none at_k in
      let k_now : get_elem? hs3 k ≡ some (some None) = set_else hs1 u k (some None) apart ∙ (set_here hs k (some y) in_k ∙ ap (λ (x : Option V). some (some x)) nil) in
      let in_u : u < length hs1 = subst (λ (n : ℕ). u < n) (sym (length-set hs k (some y))) (inside hs u none at_u_now) in
      let u_now : get_elem? (set hs3 k none) u ≡ some (some None) = set_else hs3 k u none (λ x. apart (sym x)) ∙ set_here hs1 u (some None) in_u in
      let tail : (h : List (maybe.Option (Option V))) (c : List (ℕ × Option V)) → h ≡ hs1 → c ≡ c2 → Valid h c (chain gives (chain (takes k None) (takes u None))) = λ h c p q.
      subst (λ (z : List (maybe.Option (Option V)) × List (ℕ × Option V)). Valid z.0 z.1 (chain gives (chain (takes k None) (takes u None)))) (λ i. (sym p i, sym q i)) (tt, (k_now, u_now)) in
      let last : (h : List (maybe.Option (Option V))) (c : List (ℕ × Option V)) → h ≡ hs1 → c ≡ c2 → homes_after h c (chain gives (chain (takes k None) (takes u None))) ≡ hs = λ h c p q.
      subst (λ (z : List (maybe.Option (Option V)) × List (ℕ × Option V)). homes_after z.0 z.1 (chain gives (chain (takes k None) (takes u None))) ≡ hs) (λ i. (sym p i, sym q i)) (out_again hs k u (some y) (some None) none apart at_k at_u_now) in
      record {
        valid = (tt, (r.valid, tail (homes_after hs1 xs (reach_act xs u)) (carried_after xs (reach_act xs u)) r.homes r.carried));
        homes = last (homes_after hs1 xs (reach_act xs u)) (carried_after xs (reach_act xs u)) r.homes r.carried;
        carried = ap (λ (c : List (ℕ × Option V)). carried_after c (chain gives (chain (takes k None) (takes u None)))) r.carried
            ∙ ((λ i. (u, None) ∷ ((k, sym nil i) ∷ dropped u xs)) ∙ ap (λ (t : Bool). (u, None) ∷ (if t then xs else ((k, y) ∷ dropped u xs))) (sym e));
      }

  pub reach_is : (c : List (ℕ × Option V)) (u : ℕ) → AreEmpty c → Distinct (slots_in c) → is_in u (slots_in c) ≡ true → (hs : List (maybe.Option (Option V)))
      → ((k : ℕ) → is_in k (slots_in c) ≡ true → get_elem? hs k ≡ some none) → Reached hs c u (reach_act c u)
  reach_is [] u empty once is hs out = absurd (cc)
  reach_is (x ∷ xs) u empty once is hs out =
      reach_cons x.0 x.1 xs u (x.0 == u) refl empty.0 hs (out x.0 (grind (arith, nat_tests))) (λ o. out u is)
      (λ o. reach_is xs u empty.1 once.1 (later u x.0 (slots_in xs) o is) (set hs x.0 (some x.1))
      (λ k h. set_else hs x.0 k (some x.1) (λ e. differs k x.0 (slots_in xs) e h once.0) ∙ out k (deeper k x.0 (slots_in xs) h)))
    where
      later : (u k : ℕ) (l : List ℕ) → k ≢ u → ((k == u) || is_in u l) ≡ true → is_in u l ≡ true
      later u k l o e = grind (arith, nat_tests, o, e)

      differs : (j k : ℕ) (l : List ℕ) → j ≡ k → is_in j l ≡ true → is_in k l ≡ false → ⊥
      differs j k l e h n = let a : is_in k l ≡ true = ap (λ (i : ℕ). is_in i l) (sym e) ∙ h in cc

      deeper : (j k : ℕ) (l : List ℕ) → is_in j l ≡ true → ((k == j) || is_in j l) ≡ true
      deeper j k l h = grind (arith, nat_tests, h)

  -- the slots that are left
  drop_in : (u w : ℕ) (c : List (ℕ × Option V)) → Distinct (slots_in c) → is_in u (slots_in c) ≡ true → is_in w (slots_in (dropped u c)) ≡ put (λ j. is_in j (slots_in c)) u false w
  drop_in u w [] once is = absurd (cc)
  drop_in u w (x ∷ xs) once is = put_cases (λ b. is_in w (slots_in (if x.0 == u then xs else (x ∷ dropped u xs))) ≡ b) (λ j. is_in j (slots_in (x ∷ xs))) u false w
      (λ e. gone x.0 x.1 (x.0 == u) refl e once is (λ o. drop_in u w xs once.1 o ∙ put_at (λ j. is_in j (slots_in xs)) u false w e))
      (λ o. left x.0 x.1 (x.0 == u) refl o (λ h. drop_in u w xs once.1 h ∙ put_else (λ j. is_in j (slots_in xs)) u false w o) is)
    where
      gone : (k : ℕ) (y : Option V) (b : Bool) → (k == u) ≡ b → w ≡ u → Distinct (k ∷ slots_in xs) → is_in u (k ∷ slots_in xs) ≡ true → (is_in u (slots_in xs) ≡ true → is_in w (slots_in (dropped u xs)) ≡ false)
          → is_in w (slots_in (if b then xs else ((k, y) ∷ dropped u xs))) ≡ false
      gone k y true e same once is rest = ap (λ (i : ℕ). is_in i (slots_in xs)) (same ∙ sym (eq_of k u e)) ∙ once.0
      gone k y false e same once is rest = let o = ne_of k u e in let r = rest (grind (arith, nat_tests, o, is)) in grind (arith, nat_tests, o, same, r)

      left : (k : ℕ) (y : Option V) (b : Bool) → (k == u) ≡ b → w ≢ u → (is_in u (slots_in xs) ≡ true → is_in w (slots_in (dropped u xs)) ≡ is_in w (slots_in xs)) → is_in u (k ∷ slots_in xs) ≡ true
          → is_in w (slots_in (if b then xs else ((k, y) ∷ dropped u xs))) ≡ is_in w (k ∷ slots_in xs)
      left k y true e o rest is = let same = eq_of k u e in grind (arith, nat_tests, same, o)
      left k y false e o rest is = let p = ne_of k u e in let r = rest (grind (arith, nat_tests, p, is)) in grind (arith, nat_tests, r)

  empty_by : (u : ℕ) (x : ℕ × Option V) (xs : List (ℕ × Option V)) (b : Bool) → AreEmpty (x ∷ xs) → AreEmpty (dropped u xs) → AreEmpty (if b then xs else (x ∷ dropped u xs))
  empty_by u x xs true e r = e.1
  empty_by u x xs false e r = (e.0, r)

  drop_empty : (u : ℕ) (c : List (ℕ × Option V)) → AreEmpty c → AreEmpty (dropped u c)
  drop_empty u [] e = tt
  drop_empty u (x ∷ xs) e = empty_by u x xs (x.0 == u) e (drop_empty u xs e.1)

  drop_not : (u k : ℕ) (c : List (ℕ × Option V)) → is_in k (slots_in c) ≡ false → is_in k (slots_in (dropped u c)) ≡ false
  drop_not u k [] n = refl
  drop_not u k (x ∷ xs) n = chosen (x.0 == u) (drop_not u k xs (grind (arith, nat_tests, n)))
    where
      chosen : (b : Bool) → is_in k (slots_in (dropped u xs)) ≡ false → is_in k (slots_in (if b then xs else (x ∷ dropped u xs))) ≡ false
      chosen true r = grind (arith, nat_tests, n)
      chosen false r = grind (arith, nat_tests, n, r)

  drop_once : (u : ℕ) (c : List (ℕ × Option V)) → Distinct (slots_in c) → Distinct (slots_in (dropped u c))
  drop_once u [] d = tt
  drop_once u (x ∷ xs) d = chosen (x.0 == u) (drop_not u x.0 xs d.0) (drop_once u xs d.1)
    where
      chosen : (b : Bool) → is_in x.0 (slots_in (dropped u xs)) ≡ false → Distinct (slots_in (dropped u xs)) → Distinct (slots_in (if b then xs else (x ∷ dropped u xs)))
      chosen true n r = d.1
      chosen false n r = (n, r)

  pub carries_gave : (holds : List Hold) (c : List (ℕ × Option V)) (u : ℕ) → holds_of holds u ≡ true → Carries holds c → Carries (Gave u ∷ holds) (dropped u c)
  carries_gave holds c u held k = record {
    same = λ w. drop_in u w c k.once (k.same u ∙ held) ∙ (λ i. put (λ j. k.same j i) u false w);
    once = drop_once u c k.once;
    empty = drop_empty u c k.empty;
  }
