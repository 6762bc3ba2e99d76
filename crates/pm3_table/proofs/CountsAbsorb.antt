-- Whose commits are counted by whom, when one mutator takes in another.
use Rattle.std.proofs.Common.{◌≡◌, ◌≢◌, ◌⊎◌, ℕ, ◌<◌, ◌==◌, ◌||◌, Bool, true, false, if◌then◌else◌, List, [], ◌∷◌, ◌++◌, refl, sym, ap, ◌∙◌, subst, inl, inr, ⊎_elim, arith}
use Rattle.std.proofs.lemmas.Bool.Decides.{nat_tests}
use mathlib.Core.Logic.{dite}
use native.Mathlib.Decide.{ℕ_discrete}
use Rattle.pm3_core.specs.Machine.{put}
use Rattle.pm3_history.specs.Entry.{Done}
use Rattle.pm3_table.specs.declared.view.Kept.{Kept}
use Rattle.pm3_table.specs.Histories.{by}
use Rattle.pm3_table.specs.Holds.{is_in}
use Rattle.pm3_table.specs.Counts.{CountView, CountsRule, counts, counted_under, is_kept, kept_under, Distinct}
use Rattle.pm3_table.proofs.Put.{put_at, put_here, put_else}
use Rattle.pm3_table.proofs.PagesKept.{yes_or_no}
use Rattle.pm3_table.proofs.NamesKept.{count_with, own_of}
use Rattle.pm3_table.proofs.Enters.{not_dead, same_test}

kept-append : (a b : List Kept) (y : ℕ) → is_kept (a ++ b) y ≡ (is_kept a y || is_kept b y)
kept-append [] b y = refl
kept-append (x ∷ a) b y = grind (arith, nat_tests, kept-append a b y)

picked : {X : Type 0} (t t' : Bool) (x y y' : X) → t ≡ t' → y ≡ y' → (if t then x else y) ≡ (if t' then x else y')
picked t t' x y y' a b = λ i. if a i then x else b i

left_by : (x : Kept) (y : ℕ) (a b : List Kept) (t : Bool) → (x.mutator == y) ≡ t → ((x.mutator == y) || is_kept a y) ≡ true
    → (is_kept a y ≡ true → kept_under (a ++ b) y ≡ kept_under a y)
    → (if x.mutator == y then x.commits else kept_under (a ++ b) y) ≡ (if x.mutator == y then x.commits else kept_under a y)
left_by x y a b true e is rest = ap (λ (t : Bool). if t then x.commits else kept_under (a ++ b) y) e ∙ ap (λ (t : Bool). if t then x.commits else kept_under a y) (sym e)
left_by x y a b false e is rest = picked (x.mutator == y) (x.mutator == y) x.commits (kept_under (a ++ b) y) (kept_under a y) refl (rest (grind (arith, nat_tests, e, is)))

under_left : (a b : List Kept) (y : ℕ) → is_kept a y ≡ true → kept_under (a ++ b) y ≡ kept_under a y
under_left [] b y is = absurd (cc)
under_left (x ∷ a) b y is = left_by x y a b (x.mutator == y) refl is (under_left a b y)

under_right : (a b : List Kept) (y : ℕ) → is_kept a y ≡ false → kept_under (a ++ b) y ≡ kept_under b y
under_right [] b y not_in = refl
under_right (x ∷ a) b y not_in =
    let first : (x.mutator == y) ≡ false = grind (arith, nat_tests, not_in) in
    let rest : is_kept a y ≡ false = grind (arith, nat_tests, not_in) in
    ap (λ (t : Bool). if t then x.commits else kept_under (a ++ b) y) first ∙ under_right a b y rest

test_not : (a b : ℕ) → a ≢ b → (a == b) ≡ false
test_not a b o = grind (arith, nat_tests, o)

pick_true : {X : Type 0} (t : Bool) (x y : X) → t ≡ true → (if t then x else y) ≡ x
pick_true {X} t x y e = ap (λ (b : Bool). if b then x else y) e

pick_false : {X : Type 0} (t : Bool) (x y : X) → t ≡ false → (if t then x else y) ≡ y
pick_false {X} t x y e = ap (λ (b : Bool). if b then x else y) e

-- what the new list of k counts, k or n counted
parts_of : (a b c d : Bool) → (a || (b || (c || d))) ≡ true → ((a || d) ≡ true) ⊎ ((b || c) ≡ true)
parts_of true b c d e = inl refl
parts_of false true c d e = inr refl
parts_of false false true d e = inr refl
parts_of false false false d e = inl e

from_k : (a b c d : Bool) → (a || d) ≡ true → (a || (b || (c || d))) ≡ true
from_k true b c d e = refl
from_k false true c d e = refl
from_k false false true d e = refl
from_k false false false d e = e

from_n : (a b c d : Bool) → (b || c) ≡ true → (a || (b || (c || d))) ≡ true
from_n true b c d e = refl
from_n false true c d e = refl
from_n false false true d e = refl
from_n false false false d e = absurd (cc)

or_right : (a b : Bool) → b ≡ true → (a || b) ≡ true
or_right true b e = refl
or_right false b e = e

pub counts_absorb : (made : ℕ) (history : List Done) (crew : ℕ → CountView) → CountsRule made history crew → (k n : ℕ) → k ≢ n → (crew k).live ≡ true → (crew n).live ≡ true → (crew n).rows ≡ [] → (u : CountView) → u.live ≡ false
    → CountsRule made history (put (put crew k (count_with (crew k).rows (crew k).mine (record { mutator = n; commits = (crew n).mine } ∷ ((crew n).kept ++ (crew k).kept)))) n u)
counts_absorb made history crew r k n apart alive other no_rows u dead =
    let all : List Kept = record { mutator = n; commits = (crew n).mine } ∷ ((crew n).kept ++ (crew k).kept) in
    let w : CountView = count_with (crew k).rows (crew k).mine all in
    let c : ℕ → CountView = put (put crew k w) n u in
    let here : c k ≡ w = put_else (put crew k w) n u k apart ∙ put_here crew k w in
    let now : (j : ℕ) → j ≢ n → j ≢ k → c j ≡ crew j = λ j o p. put_else (put crew k w) n u j o ∙ put_else crew k w j p in
    let off : (j : ℕ) → (c j).live ≡ true → j ≢ n = λ j live e. not_dead ⊥ live (ap (λ (v : CountView). v.live) (put_at (put crew k w) n u j e) ∙ dead) in
    let was : (j : ℕ) → (c j).live ≡ true → (crew j).live ≡ true = λ j live. dite (ℕ_discrete j k) (λ e. ap (λ (i : ℕ). (crew i).live) e ∙ alive) (λ p. ap (λ (v : CountView). v.live) (sym (now j (off j live) p)) ∙ live) in
    let still : (j : ℕ) → j ≢ n → (crew j).live ≡ true → (c j).live ≡ true = λ j o live. dite (ℕ_discrete j k) (λ e. ap (λ (v : CountView). v.live) (ap c e ∙ here)) (λ p. ap (λ (v : CountView). v.live) (now j o p) ∙ live) in
    let split : (y : ℕ) → counts k w y ≡ ((k == y) || ((n == y) || (is_kept (crew n).kept y || is_kept (crew k).kept y))) = λ y i. (k == y) || ((n == y) || kept-append (crew n).kept (crew k).kept y i) in
    let either : (y : ℕ) → counts k w y ≡ true → (counts k (crew k) y ≡ true) ⊎ (counts n (crew n) y ≡ true) = λ y is. parts_of (k == y) (n == y) (is_kept (crew n).kept y) (is_kept (crew k).kept y) (sym (split y) ∙ is) in
    let rows_are : (j : ℕ) → j ≢ n → (c j).rows ≡ (crew j).rows = λ j o. dite (ℕ_discrete j k) (λ e. ap (λ (v : CountView). v.rows) (ap c e ∙ here) ∙ ap (λ (i : ℕ). (crew i).rows) (sym e)) (λ p. ap (λ (v : CountView). v.rows) (now j o p)) in
    let keeper : ℕ → ℕ = λ y. if r.keeper y == n then k else r.keeper y in
    let at_n : (y : ℕ) → r.keeper y ≡ n → keeper y ≡ k = λ y e. pick_true (r.keeper y == n) k (r.keeper y) (same_test (r.keeper y) n e) in
    let not_n : (y : ℕ) → r.keeper y ≢ n → keeper y ≡ r.keeper y = λ y o. pick_false (r.keeper y == n) k (r.keeper y) (test_not (r.keeper y) n o) in
    let empty_rows : (y : ℕ) → is_in y (crew n).rows ≡ false = λ y. ap (is_in y) no_rows in
    let counted_k : (y : ℕ) → (counts k (crew k) y ≡ true) ⊎ (counts n (crew n) y ≡ true) → (y < made) × (keeper y ≡ k) = λ y e. ⊎_elim
    (λ a. let o = r.one k y alive (inl a) in (o.0, not_n y (λ d. apart (sym o.1 ∙ d)) ∙ o.1)) (λ a. let o = r.one n y other (inl a) in (o.0, at_n y o.1)) e in
    record {
      low = r.low;
      keeper = keeper;
      lives = λ y below. dite (ℕ_discrete (r.keeper y) n)
          (λ e. subst (λ (i : ℕ). (c i).live ≡ true) (sym (at_n y e)) (still k apart alive))
          (λ o. subst (λ (i : ℕ). (c i).live ≡ true) (sym (not_n y o)) (still (r.keeper y) o (r.lives y below)));
      kept = λ y below. dite (ℕ_discrete (r.keeper y) n)
          (λ e. subst (λ (i : ℕ). (counts i (c i) y ≡ true) ⊎ (is_in y (c i).rows ≡ true)) (sym (at_n y e))
          (⊎_elim
          (λ a. inl (ap (λ (v : CountView). counts k v y) here ∙ (split y ∙ from_n (k == y) (n == y) (is_kept (crew n).kept y) (is_kept (crew k).kept y) (ap (λ (i : ℕ). counts i (crew i) y) (sym e) ∙ a))))
          (λ a. not_dead ((counts k (c k) y ≡ true) ⊎ (is_in y (c k).rows ≡ true)) (ap (λ (i : ℕ). is_in y (crew i).rows) (sym e) ∙ a) (empty_rows y)) (r.kept y below)))
          (λ o. subst (λ (i : ℕ). (counts i (c i) y ≡ true) ⊎ (is_in y (c i).rows ≡ true)) (sym (not_n y o))
          (⊎_elim
          (λ a. inl (dite (ℕ_discrete (r.keeper y) k)
          (λ e. ap (λ (i : ℕ). counts i (c i) y) e ∙ (ap (λ (v : CountView). counts k v y) here ∙ (split y ∙ from_k (k == y) (n == y) (is_kept (crew n).kept y) (is_kept (crew k).kept y) (ap (λ (i : ℕ). counts i (crew i) y) (sym e) ∙ a))))
          (λ p. ap (λ (v : CountView). counts (r.keeper y) v y) (now (r.keeper y) o p) ∙ a)))
          (λ a. inr (ap (is_in y) (rows_are (r.keeper y) o) ∙ a)) (r.kept y below)));
      one = λ j y live e. let o = off j live in dite (ℕ_discrete j k)
          (λ same. let x = ⊎_elim
          (λ a. counted_k y (either y (ap (λ (v : CountView). counts k v y) (sym here) ∙ (ap (λ (i : ℕ). counts i (c i) y) (sym same) ∙ a))))
          (λ a. let q = r.one k y alive (inr (ap (λ (v : CountView). is_in y v.rows) (sym here) ∙ (ap (λ (i : ℕ). is_in y (c i).rows) (sym same) ∙ a))) in (q.0, not_n y (λ d. apart (sym q.1 ∙ d)) ∙ q.1)) e in (x.0, x.1 ∙ sym same))
          (λ p. let q = r.one j y (was j live) (⊎_elim (λ a. inl (ap (λ (v : CountView). counts j v y) (sym (now j o p)) ∙ a)) (λ a. inr (ap (is_in y) (sym (rows_are j o)) ∙ a)) e) in
          (q.0, not_n y (λ d. o (sym q.1 ∙ d)) ∙ q.1));
      entries = λ j y live is. let o = off j live in dite (ℕ_discrete j k)
          (λ same. ap (λ (i : ℕ). counted_under i (c i) y) same ∙ (ap (λ (v : CountView). counted_under k v y) here ∙
          dite (ℕ_discrete k y)
          (λ e. pick_true (k == y) (crew k).mine (kept_under all y) (same_test k y e) ∙ (own_of made history crew r k alive ∙ ap (λ (i : ℕ). by i history) e))
          (λ d. pick_false (k == y) (crew k).mine (kept_under all y) (test_not k y d) ∙
          dite (ℕ_discrete n y)
          (λ e. pick_true (n == y) (crew n).mine (kept_under ((crew n).kept ++ (crew k).kept) y) (same_test n y e) ∙ (own_of made history crew r n other ∙ ap (λ (i : ℕ). by i history) e))
          (λ f. pick_false (n == y) (crew n).mine (kept_under ((crew n).kept ++ (crew k).kept) y) (test_not n y f) ∙ ⊎_elim
          (λ t. under_left (crew n).kept (crew k).kept y t ∙ (sym (pick_false (n == y) (crew n).mine (kept_under (crew n).kept y) (test_not n y f)) ∙ r.entries n y other (or_right (n == y) (is_kept (crew n).kept y) t)))
          (λ t. under_right (crew n).kept (crew k).kept y t ∙ (sym (pick_false (k == y) (crew k).mine (kept_under (crew k).kept y) (test_not k y d)) ∙ r.entries k y alive (⊎_elim (λ a. a)
          (λ a. not_dead (counts k (crew k) y ≡ true) a (λ i. test_not n y f i || t i))
          (either y (ap (λ (v : CountView). counts k v y) (sym here) ∙ (ap (λ (i : ℕ). counts i (c i) y) (sym same) ∙ is))))))
          (yes_or_no (is_kept (crew n).kept y))))))
          (λ p. ap (λ (v : CountView). counted_under j v y) (now j o p) ∙ r.entries j y (was j live) (ap (λ (v : CountView). counts j v y) (sym (now j o p)) ∙ is));
      drawn = λ j y live is. let o = off j live in let row : is_in y (crew j).rows ≡ true = ap (is_in y) (sym (rows_are j o)) ∙ is in let had = r.drawn j y (was j live) row in
          let own = (r.one j y (was j live) (inr row)).1 in (
            dite (ℕ_discrete y n) (λ e. ap (λ (v : CountView). v.live) (put_at (put crew k w) n u y e) ∙ dead)
                (λ d. dite (ℕ_discrete y k) (λ e. not_dead ((c y).live ≡ false) alive (ap (λ (i : ℕ). (crew i).live) (sym e) ∙ had.0)) (λ f. ap (λ (v : CountView). v.live) (now y d f) ∙ had.0)),
            had.1,
            ⊎_elim (λ t. dite (ℕ_discrete j k)
                (λ same. ⊎_elim
                (λ a. not_dead (counts j (c j) y ≡ false) (ap (λ (i : ℕ). counts i (crew i) y) same ∙ a) had.2)
                (λ a. absurd (apart (sym same ∙ (sym own ∙ (r.one n y other (inl a)).1))))
                (either y (ap (λ (v : CountView). counts k v y) (sym here) ∙ (ap (λ (i : ℕ). counts i (c i) y) (sym same) ∙ t))))
                (λ p. ap (λ (v : CountView). counts j v y) (now j o p) ∙ had.2))
                (λ f. f) (yes_or_no (counts j (c j) y)),
          );
      once = λ j live. subst Distinct (sym (rows_are j (off j live))) (r.once j (was j live));
    }
