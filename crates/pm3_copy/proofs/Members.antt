-- The members of sets of numbers, in order.
use Rattle.std.proofs.Common.{◌≡◌, ◌≢◌, ◌<◌, ◌≤◌, ◌+◌, ◌∙◌, inl, inr, ℕ, zero, suc, T, Bool, true, false, List, [], ◌∷◌, map, length, Some, is_some, refl, sym, ap, arith}
use Rattle.std.specs.FinMap as map_of
use Rattle.std.specs.FinMap.{FinMap, entries, entries_sorted, len-entries, get-entries}
use Rattle.std.specs.FinMap.Entries.{is_sorted, below_all, find}
use Rattle.std.specs.List.{Contains}
use Rattle.std.specs.Ordering.{nat_cmp, is_lt, eq_by_cmp}
use Rattle.std.specs.Cmp.{unsigned_tied}
use Rattle.std.proofs.lemmas.Cmp.{ranked, by_ranked}
use Rattle.std.proofs.lemmas.Bool.{cases_eq, cases_lt, and_parts, eq-eqb, ne_eqb, cond-true, cond-false, false≢true}
use Rattle.std.proofs.lemmas.List.{length-map}
use Rattle.pm3_copy.specs.Fresh.{AreLeast}

lt_from : (a b : ℕ) → is_lt (nat_cmp a b) ≡ true → a < b
lt_from a b h = by_ranked (a < b) (a ≡ b) (b < a) (nat_cmp a b) (ranked a b _ refl) (λ _ l. l) (λ e _. absurd (false≢true (sym (ap is_lt e) ∙ h))) (λ e _. absurd (false≢true (sym (ap is_lt e) ∙ h)))

holds : (b : Bool) → T b → b ≡ true
holds true is = refl
holds false is = absurd is

module _ {X : Type 0} where
  -- each key of the entries is above a number
  abbrev AreAbove : ℕ → List (ℕ × X) → Type 0
  AreAbove n [] = Unit {0}
  AreAbove n (e ∷ es) = (n < e.0) × AreAbove n es

  above : (n : ℕ) (es : List (ℕ × X)) → below_all nat_cmp n es ≡ true → AreAbove n es
  above n [] is = tt
  above n (e ∷ es) is = (let parts = and_parts (is_lt (nat_cmp n e.0)) (below_all nat_cmp n es) is in (lt_from n e.0 parts.0, above n es parts.1))

  not_found : (n q : ℕ) (es : List (ℕ × X)) → q ≤ n → AreAbove n es → is_some (find nat_cmp q es) ≡ false
  not_found n q [] low are = refl
  not_found n q (e ∷ es) low are = ap is_some (cond-false (eq_by_cmp nat_cmp q e.0) (Some e.1) (find nat_cmp q es) (unsigned_tied q e.0 ∙ ne_eqb q e.0 (λ same. omega (arith, are.0)))) ∙ not_found n q es low are.1

  found_else : (q : ℕ) (e : ℕ × X) (es : List (ℕ × X)) → q ≢ e.0 → is_some (find nat_cmp q (e ∷ es)) ≡ is_some (find nat_cmp q es)
  found_else q e es apart = ap is_some (cond-false (eq_by_cmp nat_cmp q e.0) (Some e.1) (find nat_cmp q es) (unsigned_tied q e.0 ∙ ne_eqb q e.0 apart))

  -- the keys of sorted entries are the least numbers that they have
  least_keys : (es : List (ℕ × X)) (has : ℕ → Bool) (start : ℕ) → is_sorted nat_cmp es ≡ true → ((q : ℕ) → start ≤ q → has q ≡ is_some (find nat_cmp q es)) → ((k : ℕ) → k < start → is_some (find nat_cmp k es) ≡ false)
      → AreLeast has start (map (λ e. e.0) es)
  least_keys [] has start sorted same none = tt
  least_keys (e ∷ es) has start sorted same none = (
    record {
      reached = reached;
      there = same e.0 reached ∙ here;
      least = λ q from below. same q from ∙ found_else q e es (λ equal. omega arith) ∙ not_found e.0 q es (omega arith) are;
    },
    least_keys es has (e.0 + 1) parts.1 (λ q from. same q (omega (arith, reached)) ∙ found_else q e es (λ equal. omega arith)) (λ k below. not_found e.0 k es (omega arith) are),
  )
    where
      parts : (below_all nat_cmp e.0 es ≡ true) × (is_sorted nat_cmp es ≡ true)
      parts = and_parts (below_all nat_cmp e.0 es) (is_sorted nat_cmp es) sorted

      are : AreAbove e.0 es
      are = above e.0 es parts.0

      here : is_some (find nat_cmp e.0 (e ∷ es)) ≡ true
      here = ap is_some (cond-true (eq_by_cmp nat_cmp e.0 e.0) (Some e.1) (find nat_cmp e.0 es) (unsigned_tied e.0 e.0 ∙ eq-eqb e.0 e.0 refl))

      reached : start ≤ e.0
      reached = elim (cases_lt e.0 start) [ inl low ↦ absurd (false≢true (sym (none e.0 low) ∙ here)) | inr high ↦ high ]

  found_key : (q : ℕ) (es : List (ℕ × X)) → is_some (find nat_cmp q es) ≡ true → Contains (map (λ e. e.0) es) q
  found_key q [] is = absurd (false≢true is)
  found_key q (e ∷ es) is = elim (cases_eq q e.0) [
    | inl same ↦ (0, omega arith, sym same)
    | inr apart ↦ (let later = found_key q es (sym (found_else q e es apart) ∙ is) in (suc later.0, omega (arith, later.1), later.2))
  ]

  -- those of a map, and how many there are
  pub keys_least : (m : FinMap nat_cmp X) (start : ℕ) → ((k : ℕ) → k < start → map_of.contains_key m k ≡ false) → AreLeast (map_of.contains_key m) start (map_of.keys m)
  keys_least m start none =
      least_keys (entries m) (map_of.contains_key m) start (holds (is_sorted nat_cmp (entries m)) (entries_sorted m)) (λ q from. ap is_some (get-entries m q)) (λ k below. sym (ap is_some (get-entries m k)) ∙ none k below)

  pub keys_all : (m : FinMap nat_cmp X) (q : ℕ) → map_of.contains_key m q ≡ true → Contains (map_of.keys m) q
  keys_all m q is = found_key q (entries m) (sym (ap is_some (get-entries m q)) ∙ is)

  pub keys_long : (m : FinMap nat_cmp X) → length (map_of.keys m) ≡ map_of.len m
  keys_long m = length-map (entries m) (λ e. e.0) ∙ sym (len-entries m)

-- a number of the list passes the test, and each that passes it is there
pub of_least : (has : ℕ → Bool) (start : ℕ) (list : List ℕ) (p : ℕ) → AreLeast has start list → Contains list p → has p ≡ true
of_least has start [] p are (k, low, is) = absurd (omega arith)
of_least has start (q ∷ qs) p are (zero, low, is) = ap has (sym is) ∙ are.0.there
of_least has start (q ∷ qs) p are (suc k, low, is) = of_least has (q + 1) qs p are.1 (k, omega arith, is)
