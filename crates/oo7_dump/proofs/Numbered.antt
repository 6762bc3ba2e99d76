-- The number of one more address.
use Rattle.std.proofs.Common.{◌≡◌, ◌≢◌, ◌+◌, ◌++◌, ℕ, suc, false, cond, List, [], ◌∷◌, length, Some, refl, sym, ap, ◌∙◌, arith, eqb}
use Rattle.std.specs.Prelude.{◌==◌}
use Rattle.std.specs.List.{position_from}
use Rattle.std.proofs.lemmas.Bool.{cond-true, cond-false, eq-eqb, eqb-true, false_from_ne_true, false≢true, ne_eqb, or_parts}
use Rattle.pm3_types.specs.Numbering.{is_among}

unlike : (x y : ℕ) → eqb x y ≡ false → eqb y x ≡ false
unlike x y other = false_from_ne_true (eqb y x) (λ is. false≢true (sym other ∙ eq-eqb x y (sym (eqb-true y x is))))

pub place_here : (xs : List ℕ) (x i : ℕ) → is_among xs x ≡ false → position_from (λ m. m == x) i (xs ++ x ∷ []) ≡ Some (i + length xs)
place_here [] x i new =
    let none : i ≡ i + 0 = omega arith in
    cond-true (eqb x x) _ _ (eq-eqb x x refl) ∙ ap (λ (n : ℕ). Some n) none
place_here (y ∷ xs) x i new =
    let parts = or_parts (eqb x y) (is_among xs x) new in
    let sum : i + 1 + length xs ≡ i + suc (length xs) = omega arith in
    cond-false (eqb y x) _ _ (unlike x y parts.0) ∙ place_here xs x (i + 1) parts.1 ∙ ap (λ (n : ℕ). Some n) sum

pub place_other : (xs : List ℕ) (x q i : ℕ) → x ≢ q → position_from (λ m. m == q) i (xs ++ x ∷ []) ≡ position_from (λ m. m == q) i xs
place_other [] x q i apart = cond-false (eqb x q) _ _ (ne_eqb x q apart)
place_other (y ∷ xs) x q i apart = ap (cond (eqb y q) (Some i)) (place_other xs x q (i + 1) apart)
