-- What steps on units leave of the part on units, slots and history.
use Rattle.std.proofs.Common.{◌≡◌, ◌≢◌, ◌⊎◌, ℕ, ◌+◌, ◌<◌, ◌≤◌, ◌==◌, Bool, true, false, List, [], ◌∷◌, ◌++◌, append_assoc, length, length-set, length-append, refl, sym, ap, ◌∙◌, subst, inl, inr, ⊎_elim, arith}
use Rattle.std.proofs.Math.ListN.{set}
use Rattle.std.proofs.lemmas.Bool.Decides.{nat_tests}
use mathlib.Core.Option.{Option, none, some, some-injective, some-ne-none}
use mathlib.Core.Logic.{dite}
use native.Mathlib.Decide.{ℕ_discrete}
use lib.ListN.{get_elem?}
use Rattle.atomic_table.proofs.Lists.{set_here, set_else}
use Rattle.pm3_core.specs.Machine.{put}
use Rattle.pm3_history.specs.Entry.{Done}
use Rattle.pm3_table.specs.declared.view.Hold.{Hold}
use Rattle.pm3_table.specs.declared.view.Hold.TheVariants.{Took, Gave}
use Rattle.pm3_table.specs.Histories.{some_has, NoneHas}
use Rattle.pm3_table.specs.Holds.{holds_of}
use Rattle.pm3_table.specs.Units.{UnitView, KnowsUnits, UnitsRule}
use Rattle.pm3_table.proofs.Put.{put_at, put_else, put_cases}
use Rattle.pm3_table.proofs.Has.{none_join, none_right}

-- the view of a mutator
abbrev pub unit_with : List Hold → List Done → ℕ → UnitView
unit_with holds seen faults = record { live = true; holds = holds; seen = seen; faults = faults }

append_nothing : (h : List Done) → h ++ [] ≡ h
append_nothing [] = refl
append_nothing (e ∷ es) = ap (λ (l : List Done). e ∷ l) (append_nothing es)

module _ (names : Done → ℕ → Bool) where
  -- another's unit goes to or from k, and commits come that name no unit that j holds
  pub others_know : (history more : List Done) (holder : ℕ → ℕ) (j u h : ℕ) (v : UnitView) → (holder u ≡ j + 1 → ⊥) → (h ≡ j + 1 → ⊥)
      → ((w : ℕ) → holder w ≡ j + 1 → NoneHas names more w) → KnowsUnits names history holder j v → KnowsUnits names (history ++ more) (put holder u h) j v
  others_know history more holder j u h v was now spare know = record {
    holds = λ w. put_cases (λ x. holds_of v.holds w ≡ (x == j + 1)) holder u h w
        (λ here. know.holds w ∙ (let a : (holder w == j + 1) ≡ false = grind (arith, nat_tests, was, ap holder here) in
        let b : (h == j + 1) ≡ false = grind (arith, nat_tests, now) in a ∙ sym b))
        (λ other. know.holds w);
    after = know.after ++ more;
    is = ap (λ (l : List Done). l ++ more) know.is ∙ append_assoc v.seen know.after more;
    apart = λ w. put_cases (λ x. x ≡ j + 1 → NoneHas names (know.after ++ more) w) holder u h w
        (λ here mine. absurd (now mine))
        (λ other mine. none_join names know.after more w (know.apart w mine) (spare w mine));
  }

  -- k takes a unit, and has seen the whole history
  pub takes_know : (history : List Done) (holder : ℕ → ℕ) (k u faults : ℕ) (v : UnitView) → KnowsUnits names history holder k v
      → KnowsUnits names history (put holder u (k + 1)) k (unit_with (Took u ∷ v.holds) history faults)
  takes_know history holder k u faults v know = record {
    holds = λ w. put_cases (λ x. x ≡ (put holder u (k + 1) w == k + 1)) (holds_of v.holds) u true w
        (λ here. let now : put holder u (k + 1) w ≡ k + 1 = put_at holder u (k + 1) w here in grind (arith, nat_tests, now))
        (λ other. know.holds w ∙ ap (λ (x : ℕ). x == k + 1) (sym (put_else holder u (k + 1) w other)));
    after = [];
    is = sym (append_nothing history);
    apart = λ w mine. refl;
  }

  -- k gives a unit back, and adds commits that it has seen
  pub gives_know : (history more : List Done) (holder : ℕ → ℕ) (k u faults : ℕ) (v : UnitView) → (history ≡ v.seen) ⊎ (more ≡ [])
      → KnowsUnits names history holder k v → KnowsUnits names (history ++ more) (put holder u 0) k (unit_with (Gave u ∷ v.holds) (v.seen ++ more) faults)
  gives_know history more holder k u faults v whole know = record {
    holds = λ w. put_cases (λ x. x ≡ (put holder u 0 w == k + 1)) (holds_of v.holds) u false w
        (λ here. let now : put holder u 0 w ≡ 0 = put_at holder u 0 w here in grind (arith, nat_tests, now))
        (λ other. know.holds w ∙ ap (λ (x : ℕ). x == k + 1) (sym (put_else holder u 0 w other)));
    after = know.after;
    is = ⊎_elim
        (λ all. let ended : know.after ≡ [] = no_more v.seen know.after (sym know.is ∙ all) in
        ap (λ (l : List Done). l ++ more) all ∙ (sym (append_nothing (v.seen ++ more)) ∙ ap (λ (l : List Done). (v.seen ++ more) ++ l) (sym ended)))
        (λ nothing. ap (λ (l : List Done). history ++ l) nothing ∙ (append_nothing history ∙ (know.is ∙ ap (λ (l : List Done). l ++ know.after) (sym (ap (λ (l : List Done). v.seen ++ l) nothing ∙ append_nothing v.seen)))))
        whole;
    apart = λ w. put_cases (λ x. x ≡ k + 1 → NoneHas names know.after w) holder u 0 w
        (λ here mine. absurd (omega arith))
        (λ other mine. know.apart w mine);
  }
    where
      no_more : (a b : List Done) → a ++ b ≡ a → b ≡ []
      no_more a b e = short b (omega (arith, length-append a b, ap (length {A = Done}) e))
        where
          short : (x : List Done) → length x ≡ 0 → x ≡ []
          short [] z = refl
          short (y ∷ ys) z = absurd (omega arith)

module _ {S : Type 0} (good : List Done → ℕ → S → Type 0) (count : S → ℕ) (turn : ℕ) (names : Done → ℕ → Bool)
    (frame : (h : List Done) (e : Done) (u : ℕ) (x : S) → names e u ≡ false → good h u x → good (h ++ e ∷ []) u x) where
  -- commits that do not name the unit leave what stands for it
  pub frames : (h more : List Done) (u : ℕ) (x : S) → NoneHas names more u → good h u x → good (h ++ more) u x
  frames h [] u x spare is = subst (λ (l : List Done). good l u x) (sym (append_nothing h)) is
  frames h (e ∷ es) u x spare is =
      let first : names e u ≡ false = grind (arith, nat_tests, spare) in
      let rest : NoneHas names es u = grind (arith, nat_tests, spare) in
      subst (λ (l : List Done). good l u x) (append_assoc h (e ∷ []) es) (frames (h ++ e ∷ []) es u x rest (frame h e u x first is))

  module _ (holder : ℕ → ℕ) (history : List Done) (homes : List (Option S)) (crew : ℕ → UnitView)
      (r : UnitsRule good count turn names holder history homes crew) (k : ℕ) (alive : (crew k).live ≡ true) where
    abbrev Rule : (ℕ → ℕ) → List Done → List (Option S) → (ℕ → UnitView) → Type 0
    Rule = UnitsRule good count turn names

    lives_on : (w : UnitView) → w.live ≡ true → (j : ℕ) → (crew j).live ≡ true → (put crew k w j).live ≡ true
    lives_on w is j live = put_cases (λ x. x.live ≡ true) crew k w j (λ _. is) (λ _. live)

    -- k takes the unit u, which is at home
    pub takes_part : (u faults : ℕ) (x : S) → u < turn + 1 → holder u ≡ 0 → get_elem? homes u ≡ some (some x)
        → (u ≢ turn → faults ≡ (crew k).faults) → (u ≡ turn → faults ≡ count x)
        → Rule (put holder u (k + 1)) history (set homes u none) (put crew k (unit_with (Took u ∷ (crew k).holds) history faults))
    takes_part u faults x below free at quiet loud =
        let w : UnitView = unit_with (Took u ∷ (crew k).holds) history faults in
        let inside : u < length homes = omega (arith, r.deep, below) in
        record {
          deep = length-set homes u none ∙ r.deep;
          home = λ i low. put_cases (λ h. h ≡ 0 → (y : S) × (get_elem? (set homes u none) i ≡ some (some y)) × good history i y) holder u (k + 1) i
              (λ here zero_is. absurd (omega arith))
              (λ other zero_is. let was = r.home i low zero_is in (was.0, set_else homes u i none other ∙ was.1, was.2));
          out = λ i low. put_cases (λ h. h ≢ 0 → get_elem? (set homes u none) i ≡ some none) holder u (k + 1) i
              (λ here taken. ap (get_elem? (set homes u none)) here ∙ set_here homes u none inside)
              (λ other taken. set_else homes u i none other ∙ r.out i low taken);
          held = λ i. put_cases (λ h. h ≢ 0 → (i < turn + 1) × ((j : ℕ) × (h ≡ j + 1) × ((put crew k w j).live ≡ true))) holder u (k + 1) i
              (λ here taken. (subst (λ (n : ℕ). n < turn + 1) (sym here) below, (k, refl, put_cases (λ y. y.live ≡ true) crew k w k (λ _. refl) (λ o. absurd (o refl)))))
              (λ other taken. let was = r.held i taken in (was.0, (was.1.0, was.1.1, lives_on w refl was.1.0 was.1.2)));
          known = λ j. put_cases (λ v. v.live ≡ true → KnowsUnits names history (put holder u (k + 1)) j v) crew k w j
              (λ here live. subst (λ (n : ℕ). KnowsUnits names history (put holder u (k + 1)) n w) (sym here) (takes_know names history holder k u faults (crew k) (r.known k alive)))
              (λ other live. subst (λ (l : List Done). KnowsUnits names l (put holder u (k + 1)) j (crew j)) (append_nothing history)
              (others_know names history [] holder j u (k + 1) (crew j) (λ e. omega (arith, e, free)) (λ e. other (omega (arith, e))) (λ _ _. refl) (r.known j live)));
          turn_sees = λ j. put_cases (λ h. h ≡ j + 1 → history ≡ (put crew k w j).seen) holder u (k + 1) turn
              (λ here mine. let me : j ≡ k = omega (arith, mine) in sym (ap (λ (y : UnitView). y.seen) (put_at crew k w j me)))
              (λ other mine. put_cases (λ y. history ≡ y.seen) crew k w j (λ _. refl) (λ _. r.turn_sees j mine));
          one_sees = (k, put_cases (λ y. y.live ≡ true) crew k w k (λ _. refl) (λ o. absurd (o refl)), put_cases (λ y. history ≡ y.seen) crew k w k (λ _. refl) (λ o. absurd (o refl)));
          heard = λ y home j. dite (ℕ_discrete u turn)
              (λ same. absurd (some-ne-none y (some-injective (some y) none (sym home ∙ (ap (get_elem? (set homes u none)) (sym same) ∙ set_here homes u none inside)))))
              (λ apart. let was : get_elem? homes turn ≡ some (some y) = sym (set_else homes u turn none (λ e. apart (sym e))) ∙ home in
              put_cases (λ v. v.live ≡ true → v.faults ≤ count y) crew k w j
              (λ here live. subst (λ (n : ℕ). n ≤ count y) (sym (quiet apart)) (r.heard y was k alive))
              (λ other live. r.heard y was j live));
          heard_out = λ i. put_cases (λ h. h ≡ i + 1 → (j : ℕ) → (put crew k w j).live ≡ true → (put crew k w j).faults ≤ (put crew k w i).faults) holder u (k + 1) turn
              (λ here mine j. let me : i ≡ k = omega (arith, mine) in let home : get_elem? homes turn ≡ some (some x) = ap (get_elem? homes) here ∙ at in
              let mine_is : (put crew k w i).faults ≡ count x = ap (λ (y : UnitView). y.faults) (put_at crew k w i me) ∙ loud (sym here) in
              put_cases (λ v. v.live ≡ true → v.faults ≤ (put crew k w i).faults) crew k w j
              (λ _ live. let a : faults ≡ count x = loud (sym here) in omega (arith, a, mine_is))
              (λ _ live. let a : (crew j).faults ≤ count x = r.heard x home j live in omega (arith, a, mine_is)))
              (λ other mine j. let same : (i : ℕ) → (put crew k w i).faults ≡ (crew i).faults = λ i. put_cases (λ v. v.faults ≡ (crew i).faults) crew k w i (λ here. quiet (λ e. other (sym e)) ∙ ap (λ (n : ℕ). (crew n).faults) (sym here)) (λ _. refl) in
              λ live. let live_was : (crew j).live ≡ true = dite (ℕ_discrete j k) (λ e. ap (λ (n : ℕ). (crew n).live) e ∙ alive) (λ o. ap (λ (y : UnitView). y.live) (sym (put_else crew k w j o)) ∙ live) in
              let a : (crew j).faults ≤ (crew i).faults = r.heard_out i mine j live_was in omega (arith, a, same i, same j));
        }

    -- k gives the unit u back with x, and adds commits that name units of k alone; commits come with the turn alone
    pub gives_part : (u faults : ℕ) (x : S) (more : List Done) → holder u ≡ k + 1 → good ((crew k).seen ++ more) u x
        → ((w : ℕ) → holder w ≢ k + 1 → NoneHas names more w)
        → (u ≢ turn → (faults ≡ (crew k).faults) × (more ≡ [])) → (u ≡ turn → (faults ≡ count x) × ((crew k).faults ≤ count x))
        → Rule (put holder u 0) (history ++ more) (set homes u (some x)) (put crew k (unit_with (Gave u ∷ (crew k).holds) ((crew k).seen ++ more) faults))
    gives_part u faults x more mine stands apart quiet loud =
        let w : UnitView = unit_with (Gave u ∷ (crew k).holds) ((crew k).seen ++ more) faults in
        let low : u < turn + 1 = (r.held u (λ z. omega (arith, z, mine))).0 in
        let inside : u < length homes = omega (arith, r.deep, low) in
        let know = r.known k alive in
        let whole : (history ≡ (crew k).seen) ⊎ (more ≡ []) = dite (ℕ_discrete u turn)
        (λ e. inl (r.turn_sees k (ap holder (sym e) ∙ mine))) (λ o. inr (quiet o).1) in
        let good_now : good (history ++ more) u x = ⊎_elim
        (λ all. subst (λ (l : List Done). good (l ++ more) u x) (sym all) stands)
        (λ nothing. subst (λ (l : List Done). good l u x) (sym (ap (λ (l : List Done). history ++ l) nothing ∙ append_nothing history))
        (subst (λ (l : List Done). good l u x) (sym know.is) (frames (crew k).seen know.after u x (know.apart u mine)
        (subst (λ (l : List Done). good l u x) (ap (λ (l : List Done). (crew k).seen ++ l) nothing ∙ append_nothing (crew k).seen) stands))))
        whole in
        let seen_now : (y : (j : ℕ) × ((crew j).live ≡ true) × (history ≡ (crew j).seen)) → (j : ℕ) × ((put crew k w j).live ≡ true) × (history ++ more ≡ (put crew k w j).seen) =
        λ y. ⊎_elim
        (λ all. (k, put_cases (λ v. v.live ≡ true) crew k w k (λ _. refl) (λ o. absurd (o refl)), put_cases (λ v. history ++ more ≡ v.seen) crew k w k (λ _. ap (λ (l : List Done). l ++ more) all) (λ o. absurd (o refl))))
        (λ nothing. (
          y.0,
          lives_on w refl y.0 y.1,
          put_cases (λ v. history ++ more ≡ v.seen) crew k w y.0
              (λ here. ap (λ (l : List Done). l ++ more) (y.2 ∙ ap (λ (n : ℕ). (crew n).seen) here))
              (λ other. ap (λ (l : List Done). history ++ l) nothing ∙ (append_nothing history ∙ y.2)),
        ))
        whole in
        record {
          deep = length-set homes u (some x) ∙ r.deep;
          home = λ i l. put_cases (λ h. h ≡ 0 → (y : S) × (get_elem? (set homes u (some x)) i ≡ some (some y)) × good (history ++ more) i y) holder u 0 i
              (λ here zero_is. (x, ap (get_elem? (set homes u (some x))) here ∙ set_here homes u (some x) inside, subst (λ (n : ℕ). good (history ++ more) n x) (sym here) good_now))
              (λ other zero_is. let was = r.home i l zero_is in (was.0, set_else homes u i (some x) other ∙ was.1, frames history more i was.0 (apart i (λ e. omega (arith, e, zero_is))) was.2));
          out = λ i l. put_cases (λ h. h ≢ 0 → get_elem? (set homes u (some x)) i ≡ some none) holder u 0 i
              (λ here taken. absurd (taken refl))
              (λ other taken. set_else homes u i (some x) other ∙ r.out i l taken);
          held = λ i. put_cases (λ h. h ≢ 0 → (i < turn + 1) × ((j : ℕ) × (h ≡ j + 1) × ((put crew k w j).live ≡ true))) holder u 0 i
              (λ here taken. absurd (taken refl))
              (λ other taken. let was = r.held i taken in (was.0, (was.1.0, was.1.1, lives_on w refl was.1.0 was.1.2)));
          known = λ j. put_cases (λ v. v.live ≡ true → KnowsUnits names (history ++ more) (put holder u 0) j v) crew k w j
              (λ here live. subst (λ (n : ℕ). KnowsUnits names (history ++ more) (put holder u 0) n w) (sym here) (gives_know names history more holder k u faults (crew k) whole know))
              (λ other live. others_know names history more holder j u 0 (crew j) (λ e. other (omega (arith, e, mine))) (λ e. omega (arith, e))
              (λ i is. apart i (λ e. other (omega (arith, e, is)))) (r.known j live));
          turn_sees = λ j. put_cases (λ h. h ≡ j + 1 → history ++ more ≡ (put crew k w j).seen) holder u 0 turn
              (λ here is. absurd (omega (arith, is)))
              (λ other is. let nothing = (quiet (λ e. other (sym e))).1 in
              put_cases (λ v. history ++ more ≡ v.seen) crew k w j
              (λ here. ap (λ (l : List Done). l ++ more) (r.turn_sees j is ∙ ap (λ (n : ℕ). (crew n).seen) here))
              (λ _. ap (λ (l : List Done). history ++ l) nothing ∙ (append_nothing history ∙ r.turn_sees j is)));
          one_sees = seen_now r.one_sees;
          heard = λ y home j. dite (ℕ_discrete u turn)
              (λ same. let is : x ≡ y = some-injective x y (some-injective (some x) (some y) (sym (set_here homes u (some x) inside) ∙ (ap (get_elem? (set homes u (some x))) same ∙ home))) in
              let counts : count x ≡ count y = ap count is in let mine_is = loud same in let out = r.heard_out k (ap holder (sym same) ∙ mine) in
              put_cases (λ v. v.live ≡ true → v.faults ≤ count y) crew k w j
              (λ _ live. omega (arith, mine_is.0, counts))
              (λ _ live. let a : (crew j).faults ≤ (crew k).faults = out j live in omega (arith, a, mine_is.1, counts)))
              (λ o. let was : get_elem? homes turn ≡ some (some y) = sym (set_else homes u turn (some x) (λ e. o (sym e))) ∙ home in
              put_cases (λ v. v.live ≡ true → v.faults ≤ count y) crew k w j
              (λ here live. subst (λ (n : ℕ). n ≤ count y) (sym (quiet o).0) (r.heard y was k alive))
              (λ other live. r.heard y was j live));
          heard_out = λ i. put_cases (λ h. h ≡ i + 1 → (j : ℕ) → (put crew k w j).live ≡ true → (put crew k w j).faults ≤ (put crew k w i).faults) holder u 0 turn
              (λ here is. absurd (omega (arith, is)))
              (λ other is j. let same : (i : ℕ) → (put crew k w i).faults ≡ (crew i).faults = λ i. put_cases (λ v. v.faults ≡ (crew i).faults) crew k w i (λ here. (quiet (λ e. other (sym e))).0 ∙ ap (λ (n : ℕ). (crew n).faults) (sym here)) (λ _. refl) in
              λ live. let live_was : (crew j).live ≡ true = dite (ℕ_discrete j k) (λ e. ap (λ (n : ℕ). (crew n).live) e ∙ alive) (λ o. ap (λ (y : UnitView). y.live) (sym (put_else crew k w j o)) ∙ live) in
              let a : (crew j).faults ≤ (crew i).faults = r.heard_out i is j live_was in omega (arith, a, same i, same j));
        }

    -- k holds the unit u, which is at home and which no commit names
    pub holds_part : (u : ℕ) → u < turn → holder u ≡ 0 → NoneHas names history u
        → Rule (put holder u (k + 1)) history (set homes u none) (put crew k (unit_with (Took u ∷ (crew k).holds) (crew k).seen (crew k).faults))
    holds_part u below free spare =
        let w : UnitView = unit_with (Took u ∷ (crew k).holds) (crew k).seen (crew k).faults in
        let inside : u < length homes = omega (arith, r.deep, below) in
        let know = r.known k alive in
        let apart : turn ≢ u = λ e. omega (arith, e, below) in
        let same : (j : ℕ) → (put crew k w j).faults ≡ (crew j).faults = λ j. put_cases (λ v. v.faults ≡ (crew j).faults) crew k w j (λ here. ap (λ (n : ℕ). (crew n).faults) (sym here)) (λ _. refl) in
        let seen : (j : ℕ) → (put crew k w j).seen ≡ (crew j).seen = λ j. put_cases (λ v. v.seen ≡ (crew j).seen) crew k w j (λ here. ap (λ (n : ℕ). (crew n).seen) (sym here)) (λ _. refl) in
        let was : (j : ℕ) → (put crew k w j).live ≡ true → (crew j).live ≡ true = λ j. put_cases (λ v. v.live ≡ true → (crew j).live ≡ true) crew k w j (λ here _. ap (λ (n : ℕ). (crew n).live) here ∙ alive) (λ _ x. x) in
        record {
          deep = length-set homes u none ∙ r.deep;
          home = λ i low. put_cases (λ h. h ≡ 0 → (y : S) × (get_elem? (set homes u none) i ≡ some (some y)) × good history i y) holder u (k + 1) i
              (λ here zero_is. absurd (omega arith))
              (λ other zero_is. let h = r.home i low zero_is in (h.0, set_else homes u i none other ∙ h.1, h.2));
          out = λ i low. put_cases (λ h. h ≢ 0 → get_elem? (set homes u none) i ≡ some none) holder u (k + 1) i
              (λ here taken. ap (get_elem? (set homes u none)) here ∙ set_here homes u none inside)
              (λ other taken. set_else homes u i none other ∙ r.out i low taken);
          held = λ i. put_cases (λ h. h ≢ 0 → (i < turn + 1) × ((j : ℕ) × (h ≡ j + 1) × ((put crew k w j).live ≡ true))) holder u (k + 1) i
              (λ here taken. (omega (arith, here, below), (k, refl, put_cases (λ y. y.live ≡ true) crew k w k (λ _. refl) (λ o. absurd (o refl)))))
              (λ other taken. let h = r.held i taken in (h.0, (h.1.0, h.1.1, lives_on w refl h.1.0 h.1.2)));
          known = λ j. put_cases (λ v. v.live ≡ true → KnowsUnits names history (put holder u (k + 1)) j v) crew k w j
              (λ here live. subst (λ (n : ℕ). KnowsUnits names history (put holder u (k + 1)) n w) (sym here) (record {
                holds = λ i. put_cases (λ x. x ≡ (put holder u (k + 1) i == k + 1)) (holds_of (crew k).holds) u true i
                    (λ at. let now : put holder u (k + 1) i ≡ k + 1 = put_at holder u (k + 1) i at in grind (arith, nat_tests, now))
                    (λ other. know.holds i ∙ ap (λ (x : ℕ). x == k + 1) (sym (put_else holder u (k + 1) i other)));
                after = know.after;
                is = know.is;
                apart = λ i. put_cases (λ x. x ≡ k + 1 → NoneHas names know.after i) holder u (k + 1) i
                    (λ at _. none_right names (crew k).seen know.after i (ap (λ (h : List Done). some_has names h i) (sym know.is) ∙ (ap (some_has names history) at ∙ spare)))
                    (λ other mine. know.apart i mine);
              }))
              (λ other live. subst (λ (l : List Done). KnowsUnits names l (put holder u (k + 1)) j (crew j)) (append_nothing history)
              (others_know names history [] holder j u (k + 1) (crew j) (λ e. omega (arith, e, free)) (λ e. other (omega (arith, e))) (λ _ _. refl) (r.known j live)));
          turn_sees = λ j is. r.turn_sees j (sym (put_else holder u (k + 1) turn apart) ∙ is) ∙ sym (seen j);
          one_sees = (r.one_sees.0, lives_on w refl r.one_sees.0 r.one_sees.1, r.one_sees.2 ∙ sym (seen r.one_sees.0));
          heard = λ y home j live. subst (λ (n : ℕ). n ≤ count y) (sym (same j)) (r.heard y (sym (set_else homes u turn none apart) ∙ home) j (was j live));
          heard_out = λ i is j live. let a = r.heard_out i (sym (put_else holder u (k + 1) turn apart) ∙ is) j (was j live) in omega (arith, a, same i, same j);
        }
