-- Members of a rising list are passed while all numbers are gone through in order.
use Rattle.std.proofs.Common.{◌≡◌, ◌<◌, ◌≤◌, ◌+◌, ◌↔◌, inl, inr, ◌∙◌, ℕ, Bool, true, false, IsTrue, List, length, get_or, cond, refl, sym, ap, subst, arith, rules}
use Rattle.std.specs.List.{All, Contains}
use Rattle.std.proofs.lemmas.Bool.{cases_eq, cases_lt}
use Rattle.std.proofs.lemmas.List.{get_or_default}
use Rattle.std.proofs.lemmas.List.Elements.{Contains-get_or}
use Rattle.pm3_types.specs.PassMoves.{IsRising}
use Rattle.pm3_copy.specs.Spreading.{ArePassed, TakesUp}
use Rattle.pm3_copy.proofs.Listing.{rising_distinct}

pub passed_none : (all list : List ℕ) → All (Contains all) list → ArePassed all list 0 0
passed_none all list within = record {
  low = omega arith;
  before = λ k low there. absurd (omega arith);
  behind = λ k from low. (let place = within k 0 low in (place.0, omega arith, place.1, get_or_default all place.0 0 (get_or list k 0) place.1 ∙ place.2));
}

-- no member is among those up to another place
pub passed_skip : (all list : List ℕ) (i m next : ℕ) → i ≤ m → ((k : ℕ) → i ≤ k → k < m → Contains list (get_or all k 0) → ⊥) → ArePassed all list i next → ArePassed all list m next
passed_skip all list i m next up never passed = record {
  low = passed.low;
  before = λ k less inside. (let place = passed.before k less inside in (place.0, omega (arith, place.1), place.2));
  behind = λ k from inside. (
      let place = passed.behind k from inside in (
        place.0,
        elim (cases_lt place.0 m) [
          | inl low ↦ absurd (never place.0 place.1 low (subst (Contains list) (sym place.3) (Contains-get_or list k 0 inside)))
          | inr high ↦ high
        ],
        place.2,
        place.3,
      ));
}

module _ (all list : List ℕ) (rising : IsRising all) (list_rises : IsRising list) (i next : ℕ) (low : i < length all) (passed : ArePassed all list i next) where
  -- the next of all is a member exactly where it is the next of the list
  pub next_member : Contains list (get_or all i 0) → (next < length list) × (get_or list next 0 ≡ get_or all i 0)
  next_member (k, there, is) = elim (cases_lt k next) [
    | inl before ↦ (
        let place = passed.before k before there in
        let same = rising_distinct all place.0 i rising (omega (arith, place.1)) low (place.2 ∙ at) in
        absurd (omega (arith, place.1)))
    | inr from ↦ elim (cases_eq k next) [
      | inl same ↦ (omega arith, ap (λ n. get_or list n 0) (sym same) ∙ at)
      | inr apart ↦ (
          let place = passed.behind next (omega arith) (omega arith) in
          let less = list_rises next k (omega arith) there in
          let high = no_less place.0 place.1 place.2 in
          absurd (omega (arith, place.3, at)))
    ]
  ]
    where
      at : get_or list k 0 ≡ get_or all i 0
      at = get_or_default list k 0 (get_or all i 0) there ∙ is

      no_less : (j : ℕ) → i ≤ j → j < length all → get_or all i 0 ≤ get_or all j 0
      no_less j from below = elim (cases_eq i j) [ inl same ↦ (let e = ap (λ n. get_or all n 0) same in omega arith) | inr apart ↦ (let step = rising i j (omega arith) below in omega arith) ]

  -- it is passed
  pub passed_more : next < length list → get_or list next 0 ≡ get_or all i 0 → ArePassed all list (i + 1) (next + 1)
  passed_more there is = record {
    low = omega arith;
    before = λ k less inside. elim (cases_eq k next) [
      | inl same ↦ (i, omega arith, sym is ∙ ap (λ n. get_or list n 0) (sym same))
      | inr apart ↦ (let place = passed.before k (omega arith) inside in (place.0, omega (arith, place.1), place.2))
    ];
    behind = λ k from inside. (
        let place = passed.behind k (omega arith) inside in
        let less = list_rises next k (omega arith) inside in (
          place.0,
          elim (cases_eq place.0 i) [
            | inl same ↦ (let e = ap (λ n. get_or all n 0) same in absurd (omega (arith, place.3)))
            | inr apart ↦ omega (arith, place.1)
          ],
          place.2,
          place.3,
        ));
  }

  -- or it is no member
  pub passed_same : (Contains list (get_or all i 0) → ⊥) → ArePassed all list (i + 1) next
  passed_same never = record {
    low = passed.low;
    before = λ k less inside. (let place = passed.before k less inside in (place.0, omega (arith, place.1), place.2));
    behind = λ k from inside. (
        let place = passed.behind k from inside in (
          place.0,
          elim (cases_eq place.0 i) [
            | inl same ↦ absurd (never (subst (Contains list) (sym place.3 ∙ ap (λ n. get_or all n 0) same) (Contains-get_or list k 0 inside)))
            | inr apart ↦ omega (arith, place.1)
          ],
          place.2,
          place.3,
        ));
  }

-- the step, by a test of the next of the list
module _ (all list : List ℕ) (rising : IsRising all) (list_rises : IsRising list) (i next : ℕ) (low : i < length all) (passed : ArePassed all list i next) (b : Bool)
    (test : IsTrue b ↔ ((next < length list) × (get_or list next 0 ≡ get_or all i 0))) where
  pub passed_step : (more : ℕ) → more ≡ cond b 1 0 → ArePassed all list (i + 1) (next + more)
  passed_step more is = by b refl
    where
      by : (v : Bool) → b ≡ v → ArePassed all list (i + 1) (next + more)
      by true e =
          let there = test.0 (let P : Bool → Type 0 = λ c. IsTrue c in subst P (sym e) (search rules)) in
          let one : more ≡ 1 = is ∙ ap (λ c. cond c 1 0) e in
          subst (λ n. ArePassed all list (i + 1) n) (ap (λ n. next + n) (sym one)) (passed_more all list rising list_rises i next low passed there.0 there.1)
      by false e =
          let none : more ≡ 0 = is ∙ ap (λ c. cond c 1 0) e in
          let never : Contains list (get_or all i 0) → ⊥ = λ c. (let P : Bool → Type 0 = λ c. IsTrue c in
          let fact = subst P e (test.1 (next_member all list rising list_rises i next low passed c)) in absurd (search rules)) in
          let same : next ≡ next + more = omega arith in
          subst (λ n. ArePassed all list (i + 1) n) same (passed_same all list rising list_rises i next low passed never)

  -- a member is one of the others exactly where the test holds
  pub takes_step : (P : Type 0) (old new : List ℕ) → TakesUp (P × (b ≡ false)) (get_or all i 0) old new → TakesUp (P × (Contains list (get_or all i 0) → ⊥)) (get_or all i 0) old new
  takes_step P old new takes = elim takes [
    | inl here ↦ inl ((here.0.0, λ c. never_both here.0.1 c), here.1)
    | inr none ↦ inr (λ p. none.0 (p.0, out p.1), none.1)
  ]
    where
      never_both : b ≡ false → Contains list (get_or all i 0) → ⊥
      never_both e c = (let P : Bool → Type 0 = λ c. IsTrue c in let fact = subst P e (test.1 (next_member all list rising list_rises i next low passed c)) in search rules)

      out_by : (v : Bool) → b ≡ v → (Contains list (get_or all i 0) → ⊥) → v ≡ false
      out_by true e never =
          let there = test.0 (let P : Bool → Type 0 = λ c. IsTrue c in subst P (sym e) (search rules)) in
          absurd (never (subst (Contains list) there.1 (Contains-get_or list next 0 there.0)))
      out_by false e never = refl

      out : (Contains list (get_or all i 0) → ⊥) → b ≡ false
      out never = (let is = out_by b refl never in is)

-- by another condition that holds where this one does
pub takes_as : (P Q : Type 0) (a : ℕ) (old new : List ℕ) → (P → Q) → (Q → P) → TakesUp P a old new → TakesUp Q a old new
takes_as P Q a old new on back takes = elim takes [ inl here ↦ inl (on here.0, here.1) | inr none ↦ inr (λ q. none.0 (back q), none.1) ]
