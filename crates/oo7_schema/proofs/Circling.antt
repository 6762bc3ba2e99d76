-- A visit of parts of which each leads to the next, and the last to the first, meets all of them.
use Rattle.std.proofs.Common.{◌≡◌, ◌+◌, ◌-◌, ◌%◌, ◌<◌, ◌≤◌, ℕ, zero, suc, List, [], ◌∷◌, ◌++◌, length, Bool, true, false, sym, arith, ap, ◌∙◌, get_or, take}
use Rattle.std.specs.Prelude.{fold}
use Rattle.std.proofs.Math.Seq.{take-length}
use Rattle.pm3_types.specs.Numbering.{is_among}
use Rattle.oo7_schema.specs.Entries.{Once}
use Rattle.oo7_schema.specs.Walk.{met_once, met_under}
use Rattle.oo7_schema.proofs.KeptObjects.{joined_first}
use Rattle.oo7_schema.proofs.Pieces.{take_next, once_next}

-- what was met stays met
fold_grows : (f : List ℕ → ℕ → List ℕ) (x : ℕ) → ((met : List ℕ) (n : ℕ) → is_among met x ≡ true → is_among (f met n) x ≡ true)
    → (ns met : List ℕ) → is_among met x ≡ true → is_among (fold f met ns) x ≡ true
fold_grows f x grows [] met among = among
fold_grows f x grows (n ∷ ns) met among = fold_grows f x grows ns (f met n) (grows met n among)

met_grows : (next : ℕ → List ℕ) (x d : ℕ) (met : List ℕ) (n : ℕ) → is_among met x ≡ true → is_among (met_under next d met n) x ≡ true
met_grows next x zero met n among = among
met_grows next x (suc d) met n among = by_test (is_among met n) (met_grows next x d)
  where
    by_test : (b : Bool) → ((met2 : List ℕ) (m : ℕ) → is_among met2 x ≡ true → is_among (met_under next d met2 m) x ≡ true)
        → is_among (met_once (met_under next d) (next n) b met n) x ≡ true
    by_test true grows = among
    by_test false grows = fold_grows (met_under next d) x grows (next n) (met ++ n ∷ []) (joined_first met (n ∷ []) x among)

-- a part leads to the next one first
pub record Leads (next : ℕ → List ℕ) (parts : List ℕ) (a : ℕ) : Type 0 where
  pub others : List ℕ
  pub is : next (get_or parts a 0) ≡ get_or parts ((a + 1) % length parts) 0 ∷ others

next_place : (a n : ℕ) → suc a < n → (a + 1) % n ≡ suc a
next_place a n low = grind arith

module _ (next : ℕ → List ℕ) (parts : List ℕ) (once : Once parts) (leads : (a : ℕ) → a < length parts → Leads next parts a) (x : ℕ) (among : is_among parts x ≡ true) where
  -- one part more is met, and then those that it leads to
  goes_on : (d a : ℕ) (low : a < length parts)
      → is_among (fold (met_under next d) (met_under next d (take (suc a) parts) (get_or parts ((a + 1) % length parts) 0)) (leads a low).others) x ≡ true
      → is_among (met_under next (suc d) (take a parts) (get_or parts a 0)) x ≡ true
  goes_on d a low there =
      ap (λ (b : Bool). is_among (met_once (met_under next d) (next (get_or parts a 0)) b (take a parts) (get_or parts a 0)) x) (once_next parts a once low)
      ∙ ap (λ (ns : List ℕ). is_among (fold (met_under next d) (take a parts ++ get_or parts a 0 ∷ []) ns) x) (leads a low).is
      ∙ ap (λ (met : List ℕ). is_among (fold (met_under next d) met (get_or parts ((a + 1) % length parts) 0 ∷ (leads a low).others)) x) (sym (take_next parts a low))
      ∙ there

  all_met : (d a : ℕ) → length parts ≡ suc a + d → is_among (met_under next (suc d) (take a parts) (get_or parts a 0)) x ≡ true
  all_met zero a last =
      let low : a < length parts = omega (arith, last) in
      let whole : suc a ≡ length parts = omega (arith, last) in
      let all : is_among (take (suc a) parts) x ≡ true = ap (λ (n : ℕ). is_among (take n parts) x) whole ∙ ap (λ (ns : List ℕ). is_among ns x) (take-length parts) ∙ among in
      goes_on zero a low
      (fold_grows (met_under next 0) x (met_grows next x 0) (leads a low).others (met_under next 0 (take (suc a) parts) (get_or parts ((a + 1) % length parts) 0))
      (met_grows next x 0 (take (suc a) parts) (get_or parts ((a + 1) % length parts) 0) all))
  all_met (suc d) a last =
      let low : a < length parts = omega (arith, last) in
      let place : (a + 1) % length parts ≡ suc a = next_place a (length parts) (omega (arith, last)) in
      let later : is_among (met_under next (suc d) (take (suc a) parts) (get_or parts ((a + 1) % length parts) 0)) x ≡ true =
      ap (λ (n : ℕ). is_among (met_under next (suc d) (take (suc a) parts) (get_or parts n 0)) x) place ∙ all_met d (suc a) (omega (arith, last)) in
      goes_on (suc d) a low
      (fold_grows (met_under next (suc d)) x (met_grows next x (suc d)) (leads a low).others (met_under next (suc d) (take (suc a) parts) (get_or parts ((a + 1) % length parts) 0)) later)

  pub circle_met : (n : ℕ) → 1 ≤ n → length parts ≡ n → is_among (met_under next n [] (get_or parts 0 0)) x ≡ true
  circle_met n some long =
      let deep : n ≡ suc (n - 1) = omega arith in
      ap (λ (d : ℕ). is_among (met_under next d [] (get_or parts 0 0)) x) deep ∙ all_met (n - 1) 0 (omega (arith, long))
