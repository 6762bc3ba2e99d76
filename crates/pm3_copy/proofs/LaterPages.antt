-- The pages of a set from a number on.
use Rattle.std.proofs.Common.{◌≡◌, ◌<◌, ◌≤◌, ◌+◌, ◌-◌, ◌&&◌, ◌==◌, ◌∙◌, inl, inr, ℕ, Bool, true, false, not, nat_le, refl, sym, ap, arith}
use Rattle.std.specs.FinSet.{FinSet, contains, remove, retain, len, empty, contains-retain, contains-remove, contains-empty, len-remove, len-empty, empty_of_len, same_set, nat_cmp-IsAntisymmetric}
use Rattle.std.specs.Ordering.{nat_cmp}
use Rattle.std.specs.Cmp.{nat_cmp_total, unsigned_tied}
use Rattle.std.proofs.lemmas.Bool.{cases_eq, cases_lt, le-leb, leb-true, eq-eqb, ne_eqb, cond-true, false_from_ne_true, false≢true}
use Rattle.pm3_page.specs.Next.{IsLeast}

abbrev pub later : FinSet nat_cmp → ℕ → FinSet nat_cmp
later pages n = retain pages (λ p. nat_le n p)

has_later : (pages : FinSet nat_cmp) (n q : ℕ) → contains (later pages n) q ≡ (contains pages q && nat_le n q)
has_later pages n q = contains-retain pages (λ p. nat_le n p) q (λ x tie. ap (nat_le n) (sym (nat_cmp-IsAntisymmetric q x tie)))

and_true : (a b : Bool) → b ≡ true → (a && b) ≡ a
and_true true b is = is
and_true false b is = refl

and_false : (a b : Bool) → b ≡ false → (a && b) ≡ false
and_false true b is = is
and_false false b is = refl

has_from : (pages : FinSet nat_cmp) (n q : ℕ) → n ≤ q → contains (later pages n) q ≡ contains pages q
has_from pages n q low = has_later pages n q ∙ and_true (contains pages q) (nat_le n q) (le-leb n q low)

has_before : (pages : FinSet nat_cmp) (n q : ℕ) → q < n → contains (later pages n) q ≡ false
has_before pages n q low = has_later pages n q ∙ and_false (contains pages q) (nat_le n q) (false_from_ne_true (nat_le n q) (λ is. (let high = leb-true n q is in omega arith)))

-- at first all
pub all_later : (pages : FinSet nat_cmp) → later pages 0 ≡ pages
all_later pages = same_set nat_cmp_total nat_cmp-IsAntisymmetric (later pages 0) pages (λ q. has_from pages 0 q (omega arith))

-- at last none
pub none_later : (pages : FinSet nat_cmp) (n : ℕ) → ((q : ℕ) → n ≤ q → contains pages q ≡ false) → len (later pages n) ≡ 0
none_later pages n past =
    ap len (same_set nat_cmp_total nat_cmp-IsAntisymmetric (later pages n) empty (λ q. none q ∙ sym (contains-empty nat_cmp q))) ∙ len-empty nat_cmp
  where
    none : (q : ℕ) → contains (later pages n) q ≡ false
    none q = elim (cases_lt q n) [ inl low ↦ has_before pages n q low | inr high ↦ has_from pages n q high ∙ past q high ]

-- one less behind the least
pub one_later : (pages : FinSet nat_cmp) (n p : ℕ) → IsLeast (contains pages) n p → len (later pages (p + 1)) + 1 ≡ len (later pages n)
one_later pages n p least =
    let there : contains (later pages n) p ≡ true = has_from pages n p least.reached ∙ least.there in
    let size : len (remove (later pages n) p) ≡ len (later pages n) - 1 = len-remove nat_cmp_total (later pages n) p ∙ cond-true _ _ _ there in
    let same = ap len (same_set nat_cmp_total nat_cmp-IsAntisymmetric (later pages (p + 1)) (remove (later pages n) p) alike) in
    let some = not_empty there in
    omega (arith, size, same, some)
  where
    not_empty : contains (later pages n) p ≡ true → 0 < len (later pages n)
    not_empty there = elim (cases_eq (len (later pages n)) 0) [
      | inl none ↦ absurd (false≢true (sym (ap (λ s. contains s p) (empty_of_len (later pages n) none) ∙ contains-empty nat_cmp p) ∙ there))
      | inr some ↦ omega arith
    ]

    removed : (q : ℕ) → contains (remove (later pages n) p) q ≡ (not (q == p) && contains (later pages n) q)
    removed q = contains-remove nat_cmp_total (later pages n) p q ∙ ap (λ b. not b && contains (later pages n) q) (unsigned_tied q p)

    alike : (q : ℕ) → contains (later pages (p + 1)) q ≡ contains (remove (later pages n) p) q
    alike q = elim (cases_eq q p) [
      | inl same ↦ has_before pages (p + 1) q (omega arith) ∙ sym (removed q ∙ ap (λ b. not b && contains (later pages n) q) (eq-eqb q p same))
      | inr apart ↦ elim (cases_lt q p) [
        | inl low ↦ has_before pages (p + 1) q (omega arith) ∙ sym (removed q ∙ ap (λ b. not b && contains (later pages n) q) (ne_eqb q p apart) ∙ lower q low)
        | inr high ↦ has_from pages (p + 1) q (omega arith) ∙ sym (removed q ∙ ap (λ b. not b && contains (later pages n) q) (ne_eqb q p apart) ∙ has_from pages n q (omega (arith, least.reached)))
      ]
    ]
      where
        lower : (q : ℕ) → q < p → contains (later pages n) q ≡ false
        lower q low = elim (cases_lt q n) [ inl before ↦ has_before pages n q before | inr from ↦ has_from pages n q from ∙ least.least q from low ]
