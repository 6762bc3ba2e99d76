-- The set of free pages, as the list that stands for it changes.
use Rattle.std.proofs.Common.{◌≡◌, ◌≢◌, ℕ, zero, suc, ◌+◌, ◌<◌, ◌≤◌, Bool, true, false, eqb, not, cond, ◌&&◌, ◌||◌, List, [], ◌∷◌, ◌++◌, Option, Some, None, length, get_or, refl, sym, ap, ◌∙◌, arith, inl, inr}
use Rattle.std.proofs.lemmas.Bool.{cases_eq, eq-eqb, ne_eqb, eqb-true}
use Rattle.std.specs.List.{filter, list_any}
use Rattle.std.specs.Ordering.{nat_cmp, eq_by_cmp}
use Rattle.std.specs.Cmp.{nat_cmp_total, unsigned_tied}
use Rattle.std.specs.FinSet as set_of
use Rattle.std.specs.FinSet.{FinSet, contains-empty, contains-insert, contains-remove, contains-union, contains-from_list_nat, from_list_push, same_set}
use Rattle.std.specs.FinMap.{nat_cmp-IsAntisymmetric}
use mathlib.Core.Bool.{true≢false}
use Rattle.pm3_page.specs.Next.{IsNext}

same : (s t : FinSet nat_cmp) → ((q : ℕ) → set_of.contains s q ≡ set_of.contains t q) → s ≡ t
same s t is = same_set nat_cmp_total nat_cmp-IsAntisymmetric s t is

pub pushed : (ks : List ℕ) (k : ℕ) → set_of.from_list {R = nat_cmp} (ks ++ k ∷ []) ≡ set_of.insert (set_of.from_list ks) k
pushed ks k = from_list_push nat_cmp_total nat_cmp-IsAntisymmetric ks k

here : (ks : List ℕ) (k q : ℕ) → set_of.contains (set_of.from_list {R = nat_cmp} (ks ++ k ∷ [])) q ≡ (eqb q k || set_of.contains (set_of.from_list {R = nat_cmp} ks) q)
here ks k q = ap (λ (s : FinSet nat_cmp). set_of.contains s q) (pushed ks k) ∙ contains-insert nat_cmp_total (set_of.from_list {R = nat_cmp} ks) k q
    ∙ ap (λ b. b || set_of.contains (set_of.from_list {R = nat_cmp} ks) q) (unsigned_tied q k)

or_swap : (a b c : Bool) → (a || (b || c)) ≡ (b || (a || c))
or_swap true true c = refl
or_swap true false c = refl
or_swap false b c = refl

or-false : (a : Bool) → (a || false) ≡ a
or-false true = refl
or-false false = refl

-- a union with a list that grows
pub union_pushed : (s : FinSet nat_cmp) (ks : List ℕ) (k : ℕ) → set_of.union s (set_of.from_list (ks ++ k ∷ [])) ≡ set_of.insert (set_of.union s (set_of.from_list ks)) k
union_pushed s ks k = ap (set_of.union s) (pushed ks k) ∙ same _ _ (λ q.
    contains-union nat_cmp_total s (set_of.insert (set_of.from_list ks) k) q
    ∙ ap (λ b. set_of.contains s q || b) (contains-insert nat_cmp_total (set_of.from_list {R = nat_cmp} ks) k q)
    ∙ or_swap (set_of.contains s q) _ (set_of.contains (set_of.from_list ks) q)
    ∙ sym (contains-insert nat_cmp_total (set_of.union s (set_of.from_list ks)) k q ∙ ap (λ b. eq_by_cmp nat_cmp q k || b) (contains-union nat_cmp_total s (set_of.from_list ks) q)))

pub union_none : (s : FinSet nat_cmp) → s ≡ set_of.union s (set_of.from_list [])
union_none s = same _ _ (λ q. sym (contains-union nat_cmp_total s set_of.empty q ∙ ap (λ b. set_of.contains s q || b) (contains-empty nat_cmp q) ∙ or-false (set_of.contains s q)))

bools : (a b d rest others : Bool) → (b ≡ true → d ≡ a) → others ≡ (d && rest) → cond a (b || others) others ≡ (d && (b || rest))
bools true true true rest others tie is = refl
bools true true false rest others tie is = absurd (true≢false (sym (tie refl)))
bools true false d rest others tie is = is
bools false true true rest others tie is = absurd (true≢false (tie refl))
bools false true false rest others tie is = is
bools false false d rest others tie is = is

any_kept : (keeps : ℕ → Bool) (q : ℕ) (ks : List ℕ) → list_any (λ y. eqb y q) (filter keeps ks) ≡ (keeps q && list_any (λ y. eqb y q) ks)
any_kept keeps q [] = none (keeps q)
  where
    none : (b : Bool) → false ≡ (b && false)
    none true = refl
    none false = refl
any_kept keeps q (k ∷ ks) = by (any_kept keeps q ks) (keeps k) refl
  where
    rest : Bool
    rest = list_any (λ y. eqb y q) ks

    others : Bool
    others = list_any (λ y. eqb y q) (filter keeps ks)

    step : (b : Bool) → keeps k ≡ b → filter keeps (k ∷ ks) ≡ cond b (k ∷ filter keeps ks) (filter keeps ks)
    step b is = ap (λ b. cond b (k ∷ filter keeps ks) (filter keeps ks)) is

    by : others ≡ (keeps q && rest) → (b : Bool) → keeps k ≡ b → list_any (λ y. eqb y q) (filter keeps (k ∷ ks)) ≡ (keeps q && list_any (λ y. eqb y q) (k ∷ ks))
    by more true is = ap (list_any (λ y. eqb y q)) (step true is) ∙ bools true (eqb k q) (keeps q) rest others (λ t. ap keeps (sym (eqb-true k q t)) ∙ is) more
    by more false is = ap (list_any (λ y. eqb y q)) (step false is) ∙ bools false (eqb k q) (keeps q) rest others (λ t. ap keeps (sym (eqb-true k q t)) ∙ is) more

and_swap : (a b : Bool) → (a && b) ≡ (b && a)
and_swap true true = refl
and_swap true false = refl
and_swap false true = refl
and_swap false false = refl

-- the pages of a list that pass a test
pub kept : (keeps : ℕ → Bool) (ks : List ℕ) (q : ℕ) → set_of.contains (set_of.from_list {R = nat_cmp} (filter keeps ks)) q ≡ (set_of.contains (set_of.from_list {R = nat_cmp} ks) q && keeps q)
kept keeps ks q = contains-from_list_nat (filter keeps ks) q ∙ any_kept keeps q ks ∙ ap (λ b. keeps q && b) (sym (contains-from_list_nat ks q)) ∙ and_swap (keeps q) (set_of.contains (set_of.from_list {R = nat_cmp} ks) q)

pub still_short : (keeps : ℕ → Bool) (ks : List ℕ) → length (filter keeps ks) ≤ length ks
still_short keeps [] = omega arith
still_short keeps (k ∷ ks) = by (still_short keeps ks) (keeps k) refl
  where
    step : (b : Bool) → keeps k ≡ b → filter keeps (k ∷ ks) ≡ cond b (k ∷ filter keeps ks) (filter keeps ks)
    step b is = ap (λ b. cond b (k ∷ filter keeps ks) (filter keeps ks)) is

    by : length (filter keeps ks) ≤ length ks → (b : Bool) → keeps k ≡ b → length (filter keeps (k ∷ ks)) ≤ length (k ∷ ks)
    by h true is = (let e = ap length (step true is) in omega arith)
    by h false is = (let e = ap length (step false is) in omega arith)

-- a list without one page
abbrev pub without : ℕ → List ℕ → List ℕ
without x ks = filter (λ p. not (eqb p x)) ks

without_step : (x k : ℕ) (ks : List ℕ) (b : Bool) → eqb k x ≡ b → without x (k ∷ ks) ≡ cond (not b) (k ∷ without x ks) (without x ks)
without_step x k ks b is = ap (λ b. cond (not b) (k ∷ without x ks) (without x ks)) is

pub removed : (x : ℕ) (ks : List ℕ) → set_of.from_list {R = nat_cmp} (without x ks) ≡ set_of.remove (set_of.from_list ks) x
removed x ks = same _ _ (λ q.
    contains-from_list_nat (without x ks) q ∙ any_kept (λ p. not (eqb p x)) q ks
    ∙ sym (contains-remove nat_cmp_total (set_of.from_list {R = nat_cmp} ks) x q ∙ ap (λ b. not b && set_of.contains (set_of.from_list {R = nat_cmp} ks) q) (unsigned_tied q x)
    ∙ ap (λ b. not (eqb q x) && b) (contains-from_list_nat ks q)))

-- it is shorter where the page was in it
pub shorter : (x : ℕ) (ks : List ℕ) (i : ℕ) → i < length ks → get_or ks i x ≡ x → length (without x ks) + 1 ≤ length ks
shorter x [] i lt is = absurd (omega arith)
shorter x (k ∷ ks) zero lt is = let e = ap length (without_step x k ks true (eq-eqb k x is)) in let h = still_short (λ p. not (eqb p x)) ks in omega arith
shorter x (k ∷ ks) (suc i) lt is = elim (cases_eq k x) [
  | inl same ↦ let e = ap length (without_step x k ks true (eq-eqb k x same)) in let h = still_short (λ p. not (eqb p x)) ks in omega arith
  | inr ne ↦ let e = ap length (without_step x k ks false (ne_eqb k x ne)) in let h = shorter x ks i (omega arith) is in omega arith
]

-- what is in a list, and what is below all of it
pub there : (x : ℕ) (ks : List ℕ) (i : ℕ) → i < length ks → get_or ks i x ≡ x → set_of.contains (set_of.from_list {R = nat_cmp} ks) x ≡ true
there x ks i lt is = contains-from_list_nat ks x ∙ any x ks i lt is
  where
    any : (x : ℕ) (ks : List ℕ) (i : ℕ) → i < length ks → get_or ks i x ≡ x → list_any (λ y. eqb y x) ks ≡ true
    any x [] i lt is = absurd (omega arith)
    any x (k ∷ ks) zero lt is = ap (λ b. b || list_any (λ y. eqb y x) ks) (eq-eqb k x is)
    any x (k ∷ ks) (suc i) lt is = ap (λ b. eqb k x || b) (any x ks i (omega arith) is) ∙ or-true (eqb k x)
      where
        or-true : (a : Bool) → (a || true) ≡ true
        or-true true = refl
        or-true false = refl

pub none_below : (ks : List ℕ) (m q : ℕ) → ((i : ℕ) → i < length ks → m ≤ get_or ks i 0) → q < m → set_of.contains (set_of.from_list {R = nat_cmp} ks) q ≡ false
none_below ks m q all lt = contains-from_list_nat ks q ∙ none ks all
  where
    none : (ks : List ℕ) → ((i : ℕ) → i < length ks → m ≤ get_or ks i 0) → list_any (λ y. eqb y q) ks ≡ false
    none [] all = refl
    none (k ∷ ks) all =
        let here : m ≤ k = all 0 (omega arith) in
        let apart : k ≢ q = λ e. omega arith in
        ap (λ b. b || list_any (λ y. eqb y q) ks) (ne_eqb k q apart) ∙ none ks (λ i lt. all (suc i) (omega arith))

pub nothing : (ks : List ℕ) (q : ℕ) → length ks ≡ 0 → set_of.contains (set_of.from_list {R = nat_cmp} ks) q ≡ false
nothing [] q e = contains-from_list_nat [] q
nothing (k ∷ ks) q e = absurd (omega arith)

-- the least page from a number on, with one page more
pub nearer_pushed : (ks : List ℕ) (k start : ℕ) (least : Option ℕ) → IsNext (λ q. eqb q k || set_of.contains (set_of.from_list {R = nat_cmp} ks) q) start least
    → IsNext (set_of.contains (set_of.from_list {R = nat_cmp} (ks ++ k ∷ []))) start least
nearer_pushed ks k start None none = λ q from. here ks k q ∙ none q from
nearer_pushed ks k start (Some least) is = record { reached = is.reached; there = here ks k least ∙ is.there; least = λ q from low. here ks k q ∙ is.least q from low }

pub none_yet : (start : ℕ) → IsNext (set_of.contains (set_of.from_list {R = nat_cmp} [])) start None
none_yet start q from = contains-from_list_nat [] q
