-- The pages that are not pinned are given up.
use Rattle.std.proofs.Common.{◌≡◌, ◌<◌, ◌≤◌, ◌+◌, ◌⊎◌, ◌↔◌, inl, inr, ◌∙◌, ℕ, Bool, true, false, sym, ap, arith}
use Rattle.std.specs.Ordering.{nat_cmp}
use Rattle.std.specs.FinSet as set
use Rattle.std.specs.FinSet.{contains-empty}
use Rattle.std.proofs.lemmas.Bool.{cases_eq, cases_lt, false≢true}
use Rattle.pm3_copy.specs.Spreading.{Frees}
use Rattle.pm3_copy.proofs.Turning.{has_inserted, inserted_here, inserted_there}

pub frees_now : (pinned old : set.FinSet nat_cmp) (page : ℕ) → set.contains pinned page ≡ false → Frees pinned page old (set.insert old page)
frees_now pinned old page is = λ p. (to p, back p)
  where
    to : (p : ℕ) → set.contains (set.insert old page) p ≡ true → (set.contains old p ≡ true) ⊎ ((p ≡ page) × (set.contains pinned page ≡ false))
    to p has = elim (has_inserted old page p has) [ inl same ↦ inr (same, is) | inr was ↦ inl was ]

    back : (p : ℕ) → (set.contains old p ≡ true) ⊎ ((p ≡ page) × (set.contains pinned page ≡ false)) → set.contains (set.insert old page) p ≡ true
    back p (inl was) = inserted_there old page p was
    back p (inr here) = inserted_here old page p here.0

pub frees_nothing : (pinned old : set.FinSet nat_cmp) (page : ℕ) → set.contains pinned page ≡ true → Frees pinned page old old
frees_nothing pinned old page is = λ p. (λ was. inl was, back p)
  where
    back : (p : ℕ) → (set.contains old p ≡ true) ⊎ ((p ≡ page) × (set.contains pinned page ≡ false)) → set.contains old p ≡ true
    back p (inl was) = was
    back p (inr here) = absurd (false≢true (sym here.1 ∙ is))

-- just the pages below a number that a test has and that are not pinned
pub AreFreed : (ℕ → Bool) → set.FinSet nat_cmp → ℕ → set.FinSet nat_cmp → Type 0
AreFreed has pinned n freed = (p : ℕ) → (set.contains freed p ≡ true) ↔ ((p < n) × (has p ≡ true) × (set.contains pinned p ≡ false))

pub freed_none : (has : ℕ → Bool) (pinned : set.FinSet nat_cmp) → AreFreed has pinned 0 set.empty
unfolding AreFreed
freed_none has pinned p = (λ is. absurd (false≢true (sym (contains-empty nat_cmp p) ∙ is)), λ q. absurd (omega (arith, q.0)))

pub freed_more : (has : ℕ → Bool) (pinned old new : set.FinSet nat_cmp) (n page : ℕ) → AreFreed has pinned n old → n ≤ page → has page ≡ true → ((q : ℕ) → n ≤ q → q < page → has q ≡ false)
    → Frees pinned page old new → AreFreed has pinned (page + 1) new
unfolding AreFreed
freed_more has pinned old new n page are low is between frees p = (to, back)
  where
    to : set.contains new p ≡ true → (p < page + 1) × (has p ≡ true) × (set.contains pinned p ≡ false)
    to there = elim ((frees p).0 there) [
      | inl was ↦ (let q = (are p).0 was in (omega (arith, q.0), q.1, q.2))
      | inr here ↦ (omega (arith, here.0), ap has here.0 ∙ is, ap (set.contains pinned) here.0 ∙ here.1)
    ]

    back : (p < page + 1) × (has p ≡ true) × (set.contains pinned p ≡ false) → set.contains new p ≡ true
    back (below, there, free) = elim (cases_lt p n) [
      | inl before ↦ (frees p).1 (inl ((are p).1 (before, there, free)))
      | inr behind ↦ elim (cases_eq p page) [
        | inl same ↦ (frees p).1 (inr (same, sym (ap (set.contains pinned) same) ∙ free))
        | inr apart ↦ absurd (false≢true (sym (between p behind (omega arith)) ∙ there))
      ]
    ]

pub freed_all : (has : ℕ → Bool) (pinned freed : set.FinSet nat_cmp) (n : ℕ) → AreFreed has pinned n freed → ((q : ℕ) → n ≤ q → has q ≡ false)
    → (p : ℕ) → (set.contains freed p ≡ true) ↔ ((has p ≡ true) × (set.contains pinned p ≡ false))
unfolding AreFreed
freed_all has pinned freed n are past p = (λ is. (let q = (are p).0 is in (q.1, q.2)), λ q. (are p).1 (at_most q.0, q.0, q.1))
  where
    at_most : has p ≡ true → p < n
    at_most is = elim (cases_lt p n) [ inl low ↦ low | inr behind ↦ absurd (false≢true (sym (past p behind) ∙ is)) ]
