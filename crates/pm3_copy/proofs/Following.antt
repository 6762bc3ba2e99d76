-- Where the table of moves leads.
use Rattle.std.proofs.Common.{◌≡◌, ◌≢◌, ◌<◌, ◌==◌, ◌∙◌, ◌⊎◌, inl, inr, ℕ, zero, suc, List, [], ◌∷◌, ◌++◌, length, get_or, refl, sym, arith}
use Rattle.std.specs.List.{Contains}
use Rattle.std.proofs.lemmas.Bool.{cases_eq, cond-true, cond-false, eq-eqb, ne_eqb}
use Rattle.pm3_types.specs.PassMoves.{IsRising, Move, paired, moved_by}
use Rattle.pm3_copy.specs.Tables.{new_address}

rest_rises : (x : ℕ) (xs : List ℕ) → IsRising (x ∷ xs) → IsRising xs
rest_rises x xs rising i j below low = rising (suc i) (suc j) (omega arith) (omega arith)

-- a number of the list leads to its partner
pub to_partner : (olds news : List ℕ) (i : ℕ) → IsRising olds → length news ≡ length olds → i < length olds → new_address olds news (get_or olds i 0) ≡ get_or news i 0
to_partner [] news i rising same low = absurd (omega arith)
to_partner (x ∷ xs) [] i rising same low = absurd (omega arith)
to_partner (x ∷ xs) (y ∷ ys) zero rising same low = cond-true (x == x) _ _ (eq-eqb x x refl)
to_partner (x ∷ xs) (y ∷ ys) (suc i) rising same low =
    let apart : x ≢ get_or xs i 0 = λ e. (let step = rising 0 (suc i) (omega arith) low in omega arith) in
    cond-false (x == get_or xs i 0) _ _ (ne_eqb x (get_or xs i 0) apart) ∙ to_partner xs ys i (rest_rises x xs rising) (omega arith) (omega arith)

-- every other number stays
pub stays : (olds news : List ℕ) (w : ℕ) → (Contains olds w → ⊥) → new_address olds news w ≡ w
stays [] news w never = refl
stays (x ∷ xs) [] w never = refl
stays (x ∷ xs) (y ∷ ys) w never =
    let apart : x ≢ w = λ e. never (0, omega arith, e) in
    cond-false (x == w) _ _ (ne_eqb x w apart) ∙ stays xs ys w (λ c. never (suc c.0, omega (arith, c.1), c.2))

-- the same in front of other moves
pub first_partner : (olds news : List ℕ) (ms : List Move) (w : ℕ) → length news ≡ length olds → Contains olds w → moved_by (paired olds news ++ ms) w ≡ new_address olds news w
first_partner [] news ms w same (k, low, is) = absurd (omega arith)
first_partner (x ∷ xs) [] ms w same there = absurd (omega arith)
first_partner (x ∷ xs) (y ∷ ys) ms w same there = elim (cases_eq x w) [
  | inl e ↦ cond-true (x == w) _ _ (eq-eqb x w e) ∙ sym (cond-true (x == w) _ _ (eq-eqb x w e))
  | inr apart ↦ cond-false (x == w) _ _ (ne_eqb x w apart) ∙ first_partner xs ys ms w (omega arith) (later apart there) ∙ sym (cond-false (x == w) _ _ (ne_eqb x w apart))
]
  where
    later : x ≢ w → Contains (x ∷ xs) w → Contains xs w
    later apart (zero, low, is) = absurd (apart is)
    later apart (suc k, low, is) = (k, omega arith, is)

pub passed_over : (olds news : List ℕ) (ms : List Move) (w : ℕ) → length news ≡ length olds → (Contains olds w → ⊥) → moved_by (paired olds news ++ ms) w ≡ moved_by ms w
passed_over [] news ms w same never = refl
passed_over (x ∷ xs) [] ms w same never = absurd (omega arith)
passed_over (x ∷ xs) (y ∷ ys) ms w same never =
    cond-false (x == w) _ _ (ne_eqb x w (λ e. never (0, omega arith, e))) ∙ passed_over xs ys ms w (omega arith) (λ c. never (suc c.0, omega (arith, c.1), c.2))

module _ (olds news others others_news : List ℕ) (w : ℕ) (whole : length news ≡ length olds) where
  -- what is none of the others goes where the first moves lead
  pub by_first : Contains olds w ⊎ (Contains olds w → ⊥) → (Contains others w → ⊥) → new_address olds news w ≡ moved_by (paired olds news ++ paired others others_news) w
  by_first (inl there) never = sym (first_partner olds news (paired others others_news) w whole there)
  by_first (inr away) never = stays olds news w away ∙ sym (passed_over olds news (paired others others_news) w whole away ∙ stays others others_news w never)

  -- what is none of the first goes where the others lead
  pub by_second : (Contains olds w → ⊥) → new_address others others_news w ≡ moved_by (paired olds news ++ paired others others_news) w
  by_second away = sym (passed_over olds news (paired others others_news) w whole away)
