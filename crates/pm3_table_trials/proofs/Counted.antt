-- The turn is given back as it was taken, or with a commit that changed nothing.
use Rattle.std.proofs.Common.{◌≡◌, ◌≢◌, ℕ, ◌+◌, ◌==◌, Bool, true, false, if◌then◌else◌, List, [], ◌∷◌, ◌++◌, Option, None, Some, refl, sym, ap, ◌∙◌, subst, inl, inr, arith}
use Rattle.std.proofs.lemmas.Bool.Decides.{nat_tests}
use mathlib.Core.Logic.{dite}
use native.Mathlib.Decide.{ℕ_discrete}
use Rattle.pm3_history.specs.Entry.{Done}
use Rattle.pm3_history.specs.Opens.{Origin, LawfulFrom}
use Rattle.pm3_table.specs.declared.view.Told.{Told}
use Rattle.pm3_table.specs.declared.view.View.{View}
use Rattle.pm3_table.specs.Histories.{some_has}
use Rattle.pm3_table.specs.Holds.{holds_of}
use Rattle.pm3_table.specs.Plays.{Taken}
use Rattle.pm3_table.specs.Telling.{Good, Lawful, MayJoin, names, names_page}
use Rattle.pm3_table.specs.Words.{turn_unit}
use Rattle.pm3_table.proofs.Put.{put_here}
use Rattle.pm3_table.proofs.RowSteps.{equal_test}
use Rattle.pm3_table_trials.specs.declared.tallies.Tally.{Tally}
use Rattle.pm3_table_trials.specs.Tallies.{Counts, how_many, nothing_by, untold}
use Rattle.pm3_table_trials.proofs.Nothing.{nothing_refers, names_turn_alone, names_turn_list}

append_nil : (xs : List Done) → xs ++ [] ≡ xs
append_nil [] = refl
append_nil (x ∷ xs) = ap (λ (l : List Done). x ∷ l) (append_nil xs)

module _ {V : Type 0} (stands : Told → List Done → List Done → ℕ → V → Type 0) (spans : V → List ℕ) (counted : V → ℕ) (told : Told) (old new : View) (x : V)
    (t : Taken stands spans counted told old new (turn_unit told.pages) (Some x)) where
  turn : ℕ
  turn = turn_unit told.pages

  is_turn : (turn_unit told.pages == turn_unit told.pages) ≡ true
  is_turn = equal_test (turn_unit told.pages) (turn_unit told.pages) refl

  pub lost_is : new.lost ≡ t.lost
  lost_is = ap (λ (v : View). v.lost) t.view ∙ ap (λ (b : Bool). if b then t.lost else old.lost) is_turn

  pub faults_is : new.faults ≡ counted x
  faults_is = ap (λ (v : View). v.faults) t.view ∙ ap (λ (b : Bool). if b then counted x else old.faults) is_turn

  pub holds_is : holds_of new.holds (turn_unit told.pages) ≡ true
  holds_is = ap (λ (v : View). holds_of v.holds (turn_unit told.pages)) t.view ∙ put_here (holds_of old.holds) (turn_unit told.pages) true

  pub stands_now : stands told new.lost new.seen (turn_unit told.pages) x
  stands_now = subst (λ (z : List Done × List Done). stands told z.0 z.1 (turn_unit told.pages) x) (λ i. (sym lost_is i, ap (λ (v : View). v.seen) (sym t.view) i)) t.good

  pub stands_again : stands told (new.lost ++ []) (new.seen ++ []) (turn_unit told.pages) x
  stands_again = subst (λ (z : List Done × List Done). stands told z.0 z.1 (turn_unit told.pages) x) (λ i. (sym (append_nil new.lost) i, sym (append_nil new.seen) i)) stands_now

  pub may_nothing : MayJoin told new [] []
  may_nothing = record {
    lawful = subst (Lawful told) (sym (append_nil new.seen)) t.sound.lawful;
    lawful_lost = subst (Lawful told) (λ i. sym (append_nil new.seen) i ++ (sym lost_is ∙ sym (append_nil new.lost)) i) t.sound.lawful_lost;
    single = (inr refl, inr refl);
    own = tt;
    held = λ u _. refl;
    drawn = λ n is. absurd (cc);
    used = λ p is. absurd (cc);
    cleared = λ p is. absurd (cc);
    kept = λ j p is. absurd (cc);
    read = tt;
  }

-- what is told of a unit that was taken with a value
pub taken_some : (told : Told) (old new : View) (slot : Option Tally) (x : Tally) → slot ≡ Some x
    → Taken {V = Tally} Counts (λ _. []) (λ _. 0) told old new (turn_unit told.pages) slot → Taken {V = Tally} Counts (λ _. []) (λ _. 0) told old new (turn_unit told.pages) (Some x)
taken_some told old new slot x is taken = subst (λ (y : Option Tally). Taken {V = Tally} Counts (λ _. []) (λ _. 0) told old new (turn_unit told.pages) y) is taken

-- over an opening of which nothing is told each history is lawful
all_lawful : (told : Told) → told.opening ≡ untold → (h : List Done) → Lawful told h
unfolding LawfulFrom
all_lawful told is h st opens = absurd (let e = opens.file_told in let none : told.opening.file ≡ None = ap (λ (o : Origin). o.file) is in cc)

differ : false ≡ true → ⊥
differ e = cc

not_equal : (a b : ℕ) → a ≢ b → (a == b) ≡ false
not_equal a b o = grind (arith, nat_tests, o)

-- one more commit that has it
counted_one : (has : Done → ℕ → Bool) (h : List Done) (e : Done) (n : ℕ) → has e n ≡ true → how_many has (h ++ e ∷ []) n ≡ how_many has h n + 1
counted_one has [] e n is = ap (λ (b : Bool). (if b then 1 else 0) + 0) is
counted_one has (x ∷ xs) e n is = let rest = counted_one has xs e n is in let k : ℕ = if has x n then 1 else 0 in omega (arith, rest)

module _ (told : Told) (old new : View) (x : Tally) (is_untold : told.opening ≡ untold)
    (t : Taken {V = Tally} Counts (λ _. []) (λ _. 0) told old new (turn_unit told.pages) (Some x)) where
  none_lost : new.lost ≡ []
  none_lost = (stands_now Counts (λ _. []) (λ _. 0) told old new x t).1 refl

  pub may_one : MayJoin told new (nothing_by new.row ∷ []) []
  may_one = record {
    lawful = all_lawful told is_untold (new.seen ++ nothing_by new.row ∷ []);
    lawful_lost = all_lawful told is_untold ((new.seen ++ nothing_by new.row ∷ []) ++ (new.lost ++ []));
    single = (inl none_lost, inl none_lost);
    own = (refl, tt);
    held = λ u free. dite (ℕ_discrete u (turn_unit told.pages))
        (λ e. absurd (let h = holds_is Counts (λ _. []) (λ _. 0) told old new x t in let f : holds_of new.holds (turn_unit told.pages) ≡ false = ap (holds_of new.holds) (sym e) ∙ free in cc))
        (λ o. names_turn_list told new.row u ∙ not_equal u (turn_unit told.pages) o);
    drawn = λ n is. absurd (let e : false ≡ true = is in cc);
    used = λ p is. absurd (let e : some_has (names_page told) (nothing_by new.row ∷ []) p ≡ false = nothing_refers told new.row p in differ (sym e ∙ is));
    cleared = λ p is. absurd (let e : false ≡ true = is in cc);
    kept = λ j p is. absurd (let e : false ≡ true = is in cc);
    read = (tt, tt);
  }

  pub counts_one : (y : Tally) → y.count ≡ x.count + 1 → Counts told (new.lost ++ []) (new.seen ++ nothing_by new.row ∷ []) (turn_unit told.pages) y
  counts_one y is = (
    is ∙ (ap (λ (n : ℕ). n + 1) (stands_now Counts (λ _. []) (λ _. 0) told old new x t).0
        ∙ sym (counted_one (names told) new.seen (nothing_by new.row) (turn_unit told.pages) (names_turn_alone told new.row (turn_unit told.pages) ∙ equal_test (turn_unit told.pages) (turn_unit told.pages) refl))),
    λ _. append_nil new.lost ∙ none_lost,
  )

-- a value stands whatever failed, where its unit is not the turn
pub good_without : (told : Told) (lost more h : List Done) (u : ℕ) (x : Option Tally) → u ≢ turn_unit told.pages → Good Counts told lost h u x → Good Counts told more h u x
good_without told lost more h u None o good = good
good_without told lost more h u (Some x) o good = (good.0, λ e. absurd (o e))
