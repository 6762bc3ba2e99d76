-- The entries of a map in the order of their keys, part by part.
use Rattle.std.proofs.Common.{◌≡◌, ◌≢◌, ◌<◌, ◌≤◌, ◌+◌, ◌++◌, ◌∙◌, inl, inr, ℕ, zero, suc, T, Bool, true, false, cond, nat_lt, List, [], ◌∷◌, length, Some, None, is_some, get_or, refl, sym, ap, subst, arith}
use Rattle.std.specs.FinMap.{FinMap, entries, entries_sorted}
use Rattle.std.specs.FinMap.Entries.{is_sorted, below_all, find}
use Rattle.std.specs.Ordering.{nat_cmp, is_lt, eq_by_cmp}
use Rattle.std.specs.Cmp.{unsigned_tied}
use Rattle.std.proofs.lemmas.Cmp.{ranked, by_ranked}
use Rattle.std.proofs.lemmas.Bool.{cases_eq, cases_lt, and_parts, eq-eqb, ne_eqb, cond-true, cond-false, false≢true, lt-ltb, le-ltb}

-- each key is at least this number, and above the one before it
abbrev pub Rises : {X : Type 0} → ℕ → List (ℕ × X) → Type 0
Rises n [] = Unit {0}
Rises n (e ∷ es) = (n ≤ e.0) × Rises (e.0 + 1) es

-- the entries with keys below a number
abbrev pub below : {X : Type 0} → ℕ → List (ℕ × X) → List (ℕ × X)
below n [] = []
below n (e ∷ es) = cond (nat_lt e.0 n) (e ∷ below n es) (below n es)

lt_of : (a b : ℕ) → is_lt (nat_cmp a b) ≡ true → a < b
lt_of a b h = by_ranked (a < b) (a ≡ b) (b < a) (nat_cmp a b) (ranked a b _ refl) (λ _ l. l) (λ e _. absurd (false≢true (sym (ap is_lt e) ∙ h))) (λ e _. absurd (false≢true (sym (ap is_lt e) ∙ h)))

holds : (b : Bool) → T b → b ≡ true
holds true is = refl
holds false is = absurd is

module _ {X : Type 0} where
  raise : (n m : ℕ) (es : List (ℕ × X)) → n ≤ m → Rises m es → Rises n es
  raise n m [] low rises = tt
  raise n m (e ∷ es) low rises = (let first = rises.0 in omega (arith, low, first), rises.1)

  all_above : (n : ℕ) (es : List (ℕ × X)) → below_all nat_cmp n es ≡ true → is_sorted nat_cmp es ≡ true → Rises (n + 1) es
  all_above n [] least sorted = tt
  all_above n (e ∷ es) least sorted =
      let parts = and_parts (is_lt (nat_cmp n e.0)) (below_all nat_cmp n es) least in
      let more = and_parts (below_all nat_cmp e.0 es) (is_sorted nat_cmp es) sorted in
      (let first = lt_of n e.0 parts.0 in omega (arith, first), all_above e.0 es more.0 more.1)

  sorted_rises : (es : List (ℕ × X)) → is_sorted nat_cmp es ≡ true → Rises 0 es
  sorted_rises [] sorted = tt
  sorted_rises (e ∷ es) sorted =
      let more = and_parts (below_all nat_cmp e.0 es) (is_sorted nat_cmp es) sorted in
      (omega arith, all_above e.0 es more.0 more.1)

  -- the entries of a map rise
  pub entries_rise : (m : FinMap nat_cmp X) → Rises 0 (entries m)
  entries_rise m = sorted_rises (entries m) (holds (is_sorted nat_cmp (entries m)) (entries_sorted m))

  pub found_here : (q : ℕ) (e : ℕ × X) (es : List (ℕ × X)) → q ≡ e.0 → find nat_cmp q (e ∷ es) ≡ Some e.1
  found_here q e es same = cond-true (eq_by_cmp nat_cmp q e.0) (Some e.1) (find nat_cmp q es) (unsigned_tied q e.0 ∙ eq-eqb q e.0 same)

  pub found_else : (q : ℕ) (e : ℕ × X) (es : List (ℕ × X)) → q ≢ e.0 → find nat_cmp q (e ∷ es) ≡ find nat_cmp q es
  found_else q e es apart = cond-false (eq_by_cmp nat_cmp q e.0) (Some e.1) (find nat_cmp q es) (unsigned_tied q e.0 ∙ ne_eqb q e.0 apart)

  pub not_found : (n q : ℕ) (es : List (ℕ × X)) → q < n → Rises n es → find nat_cmp q es ≡ None
  not_found n q [] low rises = refl
  not_found n q (e ∷ es) low rises =
      let first = rises.0 in
      found_else q e es (λ same. omega (arith, low, first, same)) ∙ not_found (e.0 + 1) q es (omega (arith, low, first)) rises.1

  -- a map whose keys are from n on
  pub rises_from : (n k : ℕ) (es : List (ℕ × X)) → Rises k es → ((q : ℕ) → is_some (find nat_cmp q es) ≡ true → n ≤ q) → Rises n es
  rises_from n k [] rises from = tt
  rises_from n k (e ∷ es) rises from = (from e.0 (ap is_some (found_here e.0 e es refl)), rises.1)

  -- so many entries need so many numbers
  pub few : (n top : ℕ) (es : List (ℕ × X)) → n ≤ top → Rises n es → ((q : ℕ) → is_some (find nat_cmp q es) ≡ true → q < top) → n + length es ≤ top
  few n top [] room rises low = omega (arith, room)
  few n top (e ∷ es) room rises low =
      let here = low e.0 (ap is_some (found_here e.0 e es refl)) in
      let first = rises.0 in
      let rest = few (e.0 + 1) top es (omega (arith, here)) rises.1 (λ q is. low q (later q is)) in
      omega (arith, first, rest)
    where
      later : (q : ℕ) → is_some (find nat_cmp q es) ≡ true → is_some (find nat_cmp q (e ∷ es)) ≡ true
      later q is = elim (cases_eq q e.0) [
        | inl same ↦ ap is_some (found_here q e es same)
        | inr apart ↦ ap is_some (found_else q e es apart) ∙ is
      ]

  -- no entry is below the least key, and all are where no key is from n on
  pub below_none : (n from : ℕ) (es : List (ℕ × X)) → from ≤ n → Rises n es → below from es ≡ []
  below_none n from [] low rises = refl
  below_none n from (e ∷ es) low rises =
      let first = rises.0 in
      cond-false (nat_lt e.0 from) (e ∷ below from es) (below from es) (le-ltb e.0 from (omega (arith, low, first)))
      ∙ below_none (e.0 + 1) from es (omega (arith, low, first)) rises.1

  pub below_all_of : (from : ℕ) (es : List (ℕ × X)) → ((q : ℕ) → from ≤ q → is_some (find nat_cmp q es) ≡ false) → below from es ≡ es
  below_all_of from [] none = refl
  below_all_of from (e ∷ es) none =
      cond-true (nat_lt e.0 from) (e ∷ below from es) (below from es) (lt-ltb e.0 from low)
      ∙ ap (λ (l : List (ℕ × X)). e ∷ l) (below_all_of from es rest)
    where
      low : e.0 < from
      low = elim (cases_lt e.0 from) [
        | inl lt ↦ lt
        | inr ge ↦ absurd (false≢true (sym (none e.0 ge) ∙ ap is_some (found_here e.0 e es refl)))
      ]

      rest : (q : ℕ) → from ≤ q → is_some (find nat_cmp q es) ≡ false
      rest q ge = ap is_some (sym (found_else q e es (λ same. omega (arith, low, ge, same)))) ∙ none q ge

  -- one entry more
  none_some : (x : X) → None ≡ Some x → ⊥
  none_some x is = cc is

  some_same : (a b : X) → Some a ≡ Some b → a ≡ b
  some_same a b is = cc is

  more_later : (from page : ℕ) (x : X) (e : ℕ × X) (es : List (ℕ × X)) → e.0 < from → from ≤ page → below (page + 1) es ≡ below from es ++ (page, x) ∷ []
      → below (page + 1) (e ∷ es) ≡ below from (e ∷ es) ++ (page, x) ∷ []
  more_later from page x e es lt low rest =
      cond-true (nat_lt e.0 (page + 1)) (e ∷ below (page + 1) es) (below (page + 1) es) (lt-ltb e.0 (page + 1) (omega (arith, lt, low)))
      ∙ ap (λ (l : List (ℕ × X)). e ∷ l) rest
      ∙ ap (λ (l : List (ℕ × X)). l ++ (page, x) ∷ []) (sym (cond-true (nat_lt e.0 from) (e ∷ below from es) (below from es) (lt-ltb e.0 from lt)))

  more_here : (from page : ℕ) (x : X) (e : ℕ × X) (es : List (ℕ × X)) → from ≤ e.0 → page ≡ e.0 → e.1 ≡ x → Rises (e.0 + 1) es → below (page + 1) (e ∷ es) ≡ below from (e ∷ es) ++ (page, x) ∷ []
  more_here from page x e es ge same value rises =
      cond-true (nat_lt e.0 (page + 1)) (e ∷ below (page + 1) es) (below (page + 1) es) (lt-ltb e.0 (page + 1) (omega (arith, same)))
      ∙ ap (λ (l : List (ℕ × X)). e ∷ l) (below_none (e.0 + 1) (page + 1) es (omega (arith, same)) rises)
      ∙ (λ i. (sym same i, value i) ∷ [])
      ∙ ap (λ (l : List (ℕ × X)). l ++ (page, x) ∷ []) (sym (cond-false (nat_lt e.0 from) (e ∷ below from es) (below from es) (le-ltb e.0 from ge)
      ∙ below_none (e.0 + 1) from es (omega (arith, ge)) rises))

  more_nowhere : (from page : ℕ) (x : X) (e : ℕ × X) (es : List (ℕ × X)) → from ≤ e.0 → page ≢ e.0 → Rises (e.0 + 1) es → find nat_cmp page (e ∷ es) ≡ Some x
      → ((q : ℕ) → from ≤ q → q < page → is_some (find nat_cmp q (e ∷ es)) ≡ false) → ⊥
  more_nowhere from page x e es ge apart rises there least = elim (cases_lt e.0 page) [
    | inl lt ↦ false≢true (sym (least e.0 ge lt) ∙ ap is_some (found_here e.0 e es refl))
    | inr le ↦ none_some x (sym (found_else page e es apart ∙ not_found (e.0 + 1) page es (omega (arith, le)) rises) ∙ there)
  ]

  pub below_more : (k from page : ℕ) (x : X) (es : List (ℕ × X)) → Rises k es → find nat_cmp page es ≡ Some x → from ≤ page
      → ((q : ℕ) → from ≤ q → q < page → is_some (find nat_cmp q es) ≡ false) → below (page + 1) es ≡ below from es ++ (page, x) ∷ []
  below_more k from page x [] rises there low least = absurd (none_some x there)
  below_more k from page x (e ∷ es) rises there low least = elim (cases_lt e.0 from) [
    | inl lt ↦ more_later from page x e es lt low (below_more (e.0 + 1) from page x es rises.1
        (sym (found_else page e es (λ same. omega (arith, lt, low, same))) ∙ there) low
        (λ q ge lt'. ap is_some (sym (found_else q e es (λ same. omega (arith, lt, ge, same)))) ∙ least q ge lt'))
    | inr ge ↦ elim (cases_eq page e.0) [
      | inl same ↦ more_here from page x e es ge same (some_same e.1 x (sym (found_here page e es same) ∙ there)) rises.1
      | inr apart ↦ absurd (more_nowhere from page x e es ge apart rises.1 there least)
    ]
  ]

  pub below_few : (from : ℕ) (es : List (ℕ × X)) → length (below from es) ≤ length es
  below_few from [] = omega arith
  below_few from (e ∷ es) = elim (cases_lt e.0 from) [
    | inl lt ↦ (let same = ap length (cond-true (nat_lt e.0 from) (e ∷ below from es) (below from es) (lt-ltb e.0 from lt)) in let rest = below_few from es in omega (arith, same, rest))
    | inr ge ↦ (let same = ap length (cond-false (nat_lt e.0 from) (e ∷ below from es) (below from es) (le-ltb e.0 from ge)) in let rest = below_few from es in omega (arith, same, rest))
  ]

  -- the keys of these are below the number
  low_here : (from : ℕ) (d : ℕ × X) (e : ℕ × X) (l : List (ℕ × X)) → e.0 < from → ((j : ℕ) → j < length l → (get_or l j d).0 < from) → (j : ℕ) → j < length (e ∷ l) → (get_or (e ∷ l) j d).0 < from
  low_here from d e l lt rest zero low = lt
  low_here from d e l lt rest (suc j) low = rest j (omega (arith, low))

  low_by : (from : ℕ) (d : ℕ × X) (l m : List (ℕ × X)) → l ≡ m → ((j : ℕ) → j < length m → (get_or m j d).0 < from) → (j : ℕ) → j < length l → (get_or l j d).0 < from
  low_by from d l m same low = subst (λ (l : List (ℕ × X)). (j : ℕ) → j < length l → (get_or l j d).0 < from) (sym same) low

  pub below_low : (from : ℕ) (d : ℕ × X) (es : List (ℕ × X)) (i : ℕ) → i < length (below from es) → (get_or (below from es) i d).0 < from
  below_low from d [] i within = absurd (omega (arith, within))
  below_low from d (e ∷ es) i within = elim (cases_lt e.0 from) [
    | inl lt ↦ low_by from d (below from (e ∷ es)) (e ∷ below from es) (cond-true (nat_lt e.0 from) (e ∷ below from es) (below from es) (lt-ltb e.0 from lt))
        (low_here from d e (below from es) lt (below_low from d es)) i within
    | inr ge ↦ low_by from d (below from (e ∷ es)) (below from es) (cond-false (nat_lt e.0 from) (e ∷ below from es) (below from es) (le-ltb e.0 from ge))
        (below_low from d es) i within
  ]
