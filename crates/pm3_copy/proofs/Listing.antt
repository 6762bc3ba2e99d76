-- Rising lists of the members of sets.
use Rattle.std.proofs.Common.{◌≡◌, ◌<◌, ◌≤◌, ◌+◌, ◌-◌, ◌++◌, ◌⊎◌, inl, inr, ℕ, zero, suc, List, [], ◌∷◌, length, get_or, sym, arith, length-append}
use Rattle.std.proofs.Math.ListN.{get_or-append}
use Rattle.std.proofs.Math.Seq.{get_or-append_right}
use Rattle.std.specs.List.{Contains}
use Rattle.std.proofs.lemmas.Bool.{cases_eq, cases_lt}
use Rattle.std.proofs.lemmas.List.Elements.{Contains-append_left, Contains-append_right, Contains-append_cases, Contains-get_or}
use Rattle.pm3_types.specs.PassMoves.{IsRising, IsListOf}

no_member : (a : ℕ) → Contains [] a → ⊥
no_member a (k, low, is) = absurd (omega arith)

pub list_none : (P : ℕ → Type 0) → ((a : ℕ) → P a → ⊥) → IsListOf P []
list_none P never = record { rising = λ i j less low. absurd (omega arith); only = λ a is. absurd (no_member a is); all = λ a is. absurd (never a is) }

only_one : (a b : ℕ) → Contains (a ∷ []) b → b ≡ a
only_one a b (zero, low, is) = sym is
only_one a b (suc k, low, is) = absurd (omega arith)

pub list_one : (b : ℕ) → IsListOf (λ a. a ≡ b) (b ∷ [])
list_one b = record {
  rising = λ i j less low. absurd (omega arith);
  only = λ a is. only_one b a is;
  all = λ a is. (0, omega arith, sym is);
}

-- a list behind which another rises
pub list_join : (P Q R : ℕ → Type 0) (xs ys : List ℕ) → IsListOf P xs → IsListOf Q ys → ((a b : ℕ) → P a → Q b → a < b)
    → ((a : ℕ) → R a → P a ⊎ Q a) → ((a : ℕ) → P a → R a) → ((a : ℕ) → Q a → R a) → IsListOf R (xs ++ ys)
list_join P Q R xs ys first second less parts p q = record {
  rising = rises;
  only = λ a is. elim (Contains-append_cases xs ys a is) [ inl left ↦ p a (first.only a left) | inr right ↦ q a (second.only a right) ];
  all = λ a is. elim (parts a is) [ inl left ↦ Contains-append_left xs ys a (first.all a left) | inr right ↦ Contains-append_right xs ys a (second.all a right) ];
}
  where
    rises : IsRising (xs ++ ys)
    rises i j below low = elim (cases_lt j (length xs)) [
      | inl high ↦ (let a = get_or-append xs ys 0 i (omega arith) in let b = get_or-append xs ys 0 j high in let step = first.rising i j below high in omega (arith, a, b, step))
      | inr past ↦ elim (cases_lt i (length xs)) [
        | inl before ↦ (
            let a = get_or-append xs ys 0 i before in
            let b = get_or-append_right xs ys j 0 past in
            let long = length-append {A = ℕ} xs ys in
            let step = less (get_or xs i 0) (get_or ys (j - length xs) 0) (first.only _ (Contains-get_or xs i 0 before)) (second.only _ (Contains-get_or ys (j - length xs) 0 (omega arith))) in
            omega (arith, a, b, step))
        | inr behind ↦ (
            let a = get_or-append_right xs ys i 0 behind in
            let b = get_or-append_right xs ys j 0 past in
            let long = length-append {A = ℕ} xs ys in
            let step = second.rising (i - length xs) (j - length xs) (omega arith) (omega arith) in
            omega (arith, a, b, step))
      ]
    ]

-- a list of the members of a set is one of those of another with the same members
pub list_as : (P Q : ℕ → Type 0) (xs : List ℕ) → IsListOf P xs → ((a : ℕ) → P a → Q a) → ((a : ℕ) → Q a → P a) → IsListOf Q xs
list_as P Q xs list on back = record { rising = list.rising; only = λ a is. on a (list.only a is); all = λ a is. list.all a (back a is) }

at_least : (xs : List ℕ) (low : ℕ) → IsRising xs → ((i : ℕ) → i < length xs → low ≤ get_or xs i 0) → (i : ℕ) → i < length xs → low + i ≤ get_or xs i 0
at_least xs low rising from zero there = (let first = from zero there in omega arith)
at_least xs low rising from (suc i) there =
    let before = at_least xs low rising from i (omega arith) in
    let step = rising i (suc i) (omega arith) there in
    omega arith

-- numbers that rise within a range are never more than the range has
pub rising_room : (xs : List ℕ) (low n : ℕ) → IsRising xs → ((i : ℕ) → i < length xs → (low ≤ get_or xs i 0) × (get_or xs i 0 < low + n)) → length xs ≤ n
rising_room [] low n rising within = omega arith
rising_room (x ∷ xs) low n rising within =
    let last = at_least (x ∷ xs) low rising (λ i there. (within i there).0) (length xs) (omega arith) in
    let high = (within (length xs) (omega arith)).1 in
    omega arith

-- numbers that rise are distinct
pub rising_distinct : (xs : List ℕ) (i j : ℕ) → IsRising xs → i < length xs → j < length xs → get_or xs i 0 ≡ get_or xs j 0 → i ≡ j
rising_distinct xs i j rising low high same = elim (cases_eq i j) [
  | inl e ↦ e
  | inr apart ↦ elim (cases_lt i j) [
    | inl less ↦ (let more = rising i j less high in absurd (omega arith))
    | inr other ↦ (let more = rising j i (omega arith) low in absurd (omega arith))
  ]
]
