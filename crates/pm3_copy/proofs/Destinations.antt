-- On which pages the new addresses of objects lie.
use Rattle.std.proofs.Common.{◌≡◌, ◌<◌, ◌≤◌, ◌+◌, ◌∙◌, ◌⊎◌, inl, inr, ℕ, zero, suc, nat_le, List, [], ◌∷◌, ◌++◌, take, drop, length, get_or, sym, ap, subst, arith}
use Rattle.std.specs.List.{All, Contains}
use Rattle.std.proofs.lemmas.Bool.{cases_Bool, cond-true, cond-false, leb-true}
use Rattle.std.proofs.lemmas.List.{get_or_default, take-append-drop}
use Rattle.std.proofs.lemmas.List.Elements.{Contains-get_or, Contains-append_left, Contains-append_right}
use Rattle.pm3_types.specs.Layout.{address, page_in}
use Rattle.pm3_types.specs.PassMoves.{IsRising, settle, settled, paired, moved_by}
use Rattle.pm3_types.proofs.Addressing.{page_in-address}
use Rattle.pm3_copy.proofs.Following.{to_partner, first_partner, passed_over}

-- what begins a list, or is behind its first
of_cons : (x : ℕ) (xs : List ℕ) (b : ℕ) → Contains (x ∷ xs) b → (x ≡ b) ⊎ Contains xs b
of_cons x xs b (zero, low, is) = inl is
of_cons x xs b (suc k, low, is) = inr (k, omega arith, is)

later : (x : ℕ) (xs : List ℕ) (b : ℕ) → Contains xs b → Contains (x ∷ xs) b
later x xs b (k, low, is) = (suc k, omega arith, is)

rest_of : (P : ℕ → Type 0) (x : ℕ) (xs : List ℕ) → All P (x ∷ xs) → All P xs
rest_of P x xs all k d low = all (suc k) d (omega arith)

-- objects go to the page that is being filled or to one of the pages
settle_on : (base : ℕ) (sizes : List ℕ) (page end : ℕ) (pages : List ℕ) (b : ℕ) → All (λ s. 2 ≤ s) sizes → Contains (settle base sizes page end pages) b
    → ((page_in base b ≡ page) × (end < 511)) ⊎ Contains pages (page_in base b)
settle_on base [] page end pages b all (k, low, is) = absurd (omega arith)
settle_on base (s ∷ ss) page end [] b all there =
    let two : 2 ≤ s = all 0 0 (omega arith) in
    elim (cases_Bool (nat_le (end + s) 512)) [
      | inl fits ↦ (
          let low = leb-true (end + s) 512 fits in
          let is = subst (λ xs. Contains xs b) (cond-true (nat_le (end + s) 512) (address base page end ∷ settle base ss page (end + s) []) [] fits) there in
          elim (of_cons (address base page end) (settle base ss page (end + s) []) b is) [
            | inl same ↦ inl (ap (page_in base) (sym same) ∙ page_in-address base page end (omega (arith, two)), omega (arith, two))
            | inr more ↦ elim (settle_on base ss page (end + s) [] b (rest_of (λ s. 2 ≤ s) s ss all) more) [ inl here ↦ inl (here.0, omega (arith, here.1)) | inr other ↦ inr other ]
          ])
      | inr none ↦ (
          let is = subst (λ xs. Contains xs b) (cond-false (nat_le (end + s) 512) (address base page end ∷ settle base ss page (end + s) []) [] none) there in
          absurd (omega (arith, is.1)))
    ]
settle_on base (s ∷ ss) page end (p ∷ ps) b all there =
    let two : 2 ≤ s = all 0 0 (omega arith) in
    elim (cases_Bool (nat_le (end + s) 512)) [
      | inl fits ↦ (
          let low = leb-true (end + s) 512 fits in
          let is = subst (λ xs. Contains xs b) (cond-true (nat_le (end + s) 512) (address base page end ∷ settle base ss page (end + s) (p ∷ ps)) (address base p 2 ∷ settle base ss p (2 + s) ps) fits) there in
          elim (of_cons (address base page end) (settle base ss page (end + s) (p ∷ ps)) b is) [
            | inl same ↦ inl (ap (page_in base) (sym same) ∙ page_in-address base page end (omega (arith, two)), omega (arith, two))
            | inr more ↦ elim (settle_on base ss page (end + s) (p ∷ ps) b (rest_of (λ s. 2 ≤ s) s ss all) more) [ inl here ↦ inl (here.0, omega (arith, here.1)) | inr other ↦ inr other ]
          ])
      | inr none ↦ (
          let is = subst (λ xs. Contains xs b) (cond-false (nat_le (end + s) 512) (address base page end ∷ settle base ss page (end + s) (p ∷ ps)) (address base p 2 ∷ settle base ss p (2 + s) ps) none) there in
          elim (of_cons (address base p 2) (settle base ss p (2 + s) ps) b is) [
            | inl same ↦ inr (0, omega arith, sym (ap (page_in base) (sym same) ∙ page_in-address base p 2 (omega arith)))
            | inr more ↦ elim (settle_on base ss p (2 + s) ps b (rest_of (λ s. 2 ≤ s) s ss all) more) [
              | inl here ↦ inr (0, omega arith, sym here.0)
              | inr other ↦ inr (later p ps (page_in base b) other)
            ]
          ])
    ]

-- those on these pages alone lie on these pages
pub settled_on : (base : ℕ) (sizes pages : List ℕ) (b : ℕ) → All (λ s. 2 ≤ s) sizes → Contains (settled base sizes pages) b → Contains pages (page_in base b)
settled_on base sizes pages b all there = elim (settle_on base sizes 0 512 pages b all there) [ inl here ↦ absurd (omega (arith, here.1)) | inr on ↦ on ]

-- the first members of a list are on it, and so are the others
pub of_take : (n : ℕ) (xs : List ℕ) (b : ℕ) → Contains (take n xs) b → Contains xs b
of_take n xs b there = subst (λ ys. Contains ys b) (take-append-drop n xs) (Contains-append_left (take n xs) (drop n xs) b there)

pub of_drop : (n : ℕ) (xs : List ℕ) (b : ℕ) → Contains (drop n xs) b → Contains xs b
of_drop n xs b there = subst (λ ys. Contains ys b) (take-append-drop n xs) (Contains-append_right (take n xs) (drop n xs) b there)

module _ (olds news others places : List ℕ) (long : length news ≡ length olds) (others_long : length places ≡ length others) (rising : IsRising olds) (others_rise : IsRising others)
    (apart : (a : ℕ) → Contains olds a → Contains others a → ⊥) where
  -- an object of the first list goes to one of the first places, and one of the second to one of the second
  pub first_goes : (a : ℕ) → Contains olds a → Contains news (moved_by (paired olds news ++ paired others places) a)
  first_goes a (k, low, is) =
      let same : get_or olds k 0 ≡ a = get_or_default olds k 0 a low ∙ is in
      let to : moved_by (paired olds news ++ paired others places) a ≡ get_or news k 0 =
      first_partner olds news (paired others places) a long (k, low, is) ∙ ap (λ w. moved_by (paired olds news) w) (sym same) ∙ to_partner olds news k rising long low in
      subst (Contains news) (sym to) (Contains-get_or news k 0 (omega arith))

  pub second_goes : (a : ℕ) → Contains others a → Contains places (moved_by (paired olds news ++ paired others places) a)
  second_goes a (k, low, is) =
      let same : get_or others k 0 ≡ a = get_or_default others k 0 a low ∙ is in
      let to : moved_by (paired olds news ++ paired others places) a ≡ get_or places k 0 =
      passed_over olds news (paired others places) a long (λ there. apart a there (k, low, is)) ∙ ap (λ w. moved_by (paired others places) w) (sym same) ∙ to_partner others places k others_rise others_long low in
      subst (Contains places) (sym to) (Contains-get_or places k 0 (omega arith))
