-- A pass has one list of moves.
use Rattle.std.proofs.Common.{◌≡◌, ◌<◌, ◌≤◌, ◌++◌, ◌∙◌, ◌⊎◌, inl, inr, ℕ, zero, suc, List, [], ◌∷◌, take, drop, refl, sym, arith}
use Rattle.std.proofs.lemmas.List.{get_or_default}
use Rattle.std.specs.List.{Contains}
use Rattle.pm3_types.specs.Fields.{Fields}
use Rattle.pm3_types.specs.PassMoves.{AreMoves, IsListOf, IsRising, Move, moves_of, wanted_by}
use Rattle.pm3_types.specs.PassSets.{Before}

no_member : (a : ℕ) → Contains [] a → ⊥
no_member a (k, low, is) = absurd (omega (arith, low))

-- the first number is a member, and so are those behind it
first_there : (x : ℕ) (xs : List ℕ) → Contains (x ∷ xs) x
first_there x xs = (0, omega arith, refl)

later_there : (x : ℕ) (xs : List ℕ) (a : ℕ) → Contains xs a → Contains (x ∷ xs) a
later_there x xs a (k, low, is) = (suc k, omega (arith, low), is)

either_there : (x : ℕ) (xs : List ℕ) (a : ℕ) → Contains (x ∷ xs) a → (a ≡ x) ⊎ Contains xs a
either_there x xs a (zero, low, is) = inl (sym is)
either_there x xs a (suc k, low, is) = inr (k, omega (arith, low), is)

-- the members behind the first are above it
rest_above : (x : ℕ) (xs : List ℕ) (a : ℕ) → IsRising (x ∷ xs) → Contains xs a → x < a
rest_above x xs a rising (k, low, is) =
    let step = rising 0 (suc k) (omega arith) (omega (arith, low)) in
    let same = get_or_default xs k 0 a low in
    omega (arith, step, same, is)

first_least : (x : ℕ) (xs : List ℕ) (a : ℕ) → IsRising (x ∷ xs) → Contains (x ∷ xs) a → x ≤ a
first_least x xs a rising is = of (either_there x xs a is)
  where
    of : (a ≡ x) ⊎ Contains xs a → x ≤ a
    of (inl e) = omega (arith, e)
    of (inr on) = (let above = rest_above x xs a rising on in omega (arith, above))

rest_rising : (x : ℕ) (xs : List ℕ) → IsRising (x ∷ xs) → IsRising xs
rest_rising x xs rising i j below low = rising (suc i) (suc j) (omega (arith, below)) (omega (arith, low))

-- a member behind the first of one list is behind the first of another that has the same first and all members
rest_in : (x y : ℕ) (xs ys : List ℕ) → x ≡ y → IsRising (x ∷ xs) → ((a : ℕ) → Contains (x ∷ xs) a → Contains (y ∷ ys) a) → (a : ℕ) → Contains xs a → Contains ys a
rest_in x y xs ys same rising to a is = of (either_there y ys a (to a (later_there x xs a is)))
  where
    of : (a ≡ y) ⊎ Contains ys a → Contains ys a
    of (inl e) = absurd (let above = rest_above x xs a rising is in omega (arith, above, e, same))
    of (inr on) = on

-- rising lists with the same members are equal
same_rising : (xs ys : List ℕ) → IsRising xs → IsRising ys → ((a : ℕ) → Contains xs a → Contains ys a) → ((a : ℕ) → Contains ys a → Contains xs a) → xs ≡ ys
same_rising [] [] one two to back = refl
same_rising [] (y ∷ ys) one two to back = absurd (no_member y (back y (first_there y ys)))
same_rising (x ∷ xs) [] one two to back = absurd (no_member x (to x (first_there x xs)))
same_rising (x ∷ xs) (y ∷ ys) one two to back =
    let low = first_least y ys x two (to x (first_there x xs)) in
    let high = first_least x xs y one (back y (first_there y ys)) in
    let first : x ≡ y = omega (arith, low, high) in
    let rest : xs ≡ ys = same_rising xs ys (rest_rising x xs one) (rest_rising y ys two) (rest_in x y xs ys first one to) (rest_in y x ys xs (sym first) two back) in
    λ i. first i ∷ rest i

-- a set has one rising list of its members
pub same_lists : (P : ℕ → Type 0) (xs ys : List ℕ) → IsListOf P xs → IsListOf P ys → xs ≡ ys
same_lists P xs ys one two = same_rising xs ys one.rising two.rising (λ a is. two.all a (one.only a is)) (λ a is. one.all a (two.only a is))

-- so the sets of a pass and its fresh pages tell its moves
pub same_moves : (catalog : List Fields) (base : ℕ) (before : Before) (fresh : List ℕ) (a b : List Move) → AreMoves catalog base before fresh a → AreMoves catalog base before fresh b → a ≡ b
same_moves catalog base before fresh a b one two =
    let promoted : one.promoted ≡ two.promoted = same_lists _ one.promoted two.promoted one.of_promoted two.of_promoted in
    let kept : one.kept ≡ two.kept = same_lists _ one.kept two.kept one.of_kept two.of_kept in
    one.are
    ∙ (λ i. moves_of catalog base before.space (promoted i) (take (wanted_by catalog base before.space (promoted i)) fresh) ++ moves_of catalog base before.space (kept i) (drop (wanted_by catalog base before.space (promoted i)) fresh))
    ∙ sym two.are
