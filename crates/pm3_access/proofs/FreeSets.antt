-- Pages of a set that are added to others, from the least on.
use Rattle.std.proofs.Common.{◌≡◌, ◌≢◌, ℕ, zero, suc, ◌+◌, ◌-◌, ◌<◌, ◌≤◌, Bool, true, false, eqb, ltb, not, cond, ◌&&◌, ◌||◌, refl, sym, ap, ◌∙◌, arith, inl, inr}
use Rattle.std.proofs.lemmas.Bool.{cases_eq, cases_lt, eq-eqb, ne_eqb, lt-ltb, le-ltb}
use Rattle.std.specs.Ordering.{nat_cmp}
use Rattle.std.specs.Cmp.{nat_cmp_total, unsigned_tied}
use Rattle.std.specs.FinSet as set_of
use Rattle.std.specs.FinSet.{contains-empty, contains-insert, contains-remove, contains-retain, contains-union, len-remove, len-empty, empty_of_len, same_set}
use Rattle.std.specs.FinMap.{nat_cmp-IsAntisymmetric}
use mathlib.Core.Bool.{true≢false}
use Rattle.pm3_access.specs.FreeList.{Numbers}

same : (s t : Numbers) → ((q : ℕ) → set_of.contains s q ≡ set_of.contains t q) → s ≡ t
same s t is = same_set nat_cmp_total nat_cmp-IsAntisymmetric s t is

-- the pages of a set from n on
abbrev pub from : Numbers → ℕ → Numbers
from s n = set_of.retain s (λ q. not (ltb q n))

contains-from : (s : Numbers) (n q : ℕ) → set_of.contains (from s n) q ≡ (set_of.contains s q && not (ltb q n))
contains-from s n q = contains-retain s (λ q. not (ltb q n)) q (λ x t. ap (λ q. not (ltb q n)) (sym (nat_cmp-IsAntisymmetric q x t)))

contains_added : (s : Numbers) (k q : ℕ) → set_of.contains (set_of.insert s k) q ≡ (eqb q k || set_of.contains s q)
contains_added s k q = contains-insert nat_cmp_total s k q ∙ ap (λ b. b || set_of.contains s q) (unsigned_tied q k)

contains_gone : (s : Numbers) (k q : ℕ) → set_of.contains (set_of.remove s k) q ≡ (not (eqb q k) && set_of.contains s q)
contains_gone s k q = contains-remove nat_cmp_total s k q ∙ ap (λ b. not b && set_of.contains s q) (unsigned_tied q k)

positive : (s : Numbers) (k n : ℕ) → set_of.contains s k ≡ true → set_of.len s ≡ n → 0 < n
positive s k zero is e = absurd (true≢false (sym is ∙ ap (λ s. set_of.contains s k) (empty_of_len s e) ∙ contains-empty nat_cmp k))
positive s k (suc n) is e = omega arith

len_gone : (s : Numbers) (k : ℕ) → set_of.contains s k ≡ true → set_of.len (set_of.remove s k) + 1 ≡ set_of.len s
len_gone s k is =
    let less : set_of.len (set_of.remove s k) ≡ set_of.len s - 1 = len-remove nat_cmp_total s k ∙ ap (λ b. cond b (set_of.len s - 1) (set_of.len s)) is in
    let some : 0 < set_of.len s = positive s k (set_of.len s) is refl in
    omega arith

-- the pages of the set below n were added, and there is room for the others
pub record IsAddedTo (first : Numbers) (first_room : ℕ) (more pages : Numbers) (room n : ℕ) : Type 0 where
  pub members : (q : ℕ) → set_of.contains pages q ≡ (set_of.contains first q || (set_of.contains more q && ltb q n))
  pub left : room + set_of.len more ≡ first_room + set_of.len (from more n)

and-true : (b : Bool) → b ≡ (b && true)
and-true true = refl
and-true false = refl

and-false : (b : Bool) → (b && false) ≡ false
and-false true = refl
and-false false = refl

or-false : (b : Bool) → b ≡ (b || false)
or-false true = refl
or-false false = refl

or-true : (b : Bool) → true ≡ (b || true)
or-true true = refl
or-true false = refl

pub added_none : (first : Numbers) (first_room : ℕ) (more : Numbers) → IsAddedTo first first_room more first first_room 0
added_none first first_room more = record {
  members = λ q. or-false (set_of.contains first q) ∙ ap (λ b. set_of.contains first q || b) (sym (ap (λ b. set_of.contains more q && b) (le-ltb q 0 (omega arith)) ∙ and-false (set_of.contains more q)));
  left = ap (λ s. first_room + set_of.len s) (same more (from more 0) (λ q.
      and-true (set_of.contains more q) ∙ ap (λ b. set_of.contains more q && not b) (sym (le-ltb q 0 (omega arith))) ∙ sym (contains-from more 0 q)));
}

-- where no page of the set is between, only the page itself is passed
passed : (more : Numbers) (n page q : ℕ) (f : Bool → Bool) → n ≤ page → ((q : ℕ) → n ≤ q → q < page → set_of.contains more q ≡ false) → q ≢ page
    → (set_of.contains more q && f (ltb q n)) ≡ (set_of.contains more q && f (ltb q (page + 1)))
passed more n page q f le none ne = elim (cases_lt q n) [
  | inl lt ↦ ap (λ b. set_of.contains more q && f b) (lt-ltb q n lt ∙ sym (lt-ltb q (page + 1) (omega arith)))
  | inr ge ↦ elim (cases_lt q page) [
    | inl lt ↦ ap (λ b. b && f (ltb q n)) (none q ge lt) ∙ sym (ap (λ b. b && f (ltb q (page + 1))) (none q ge lt))
    | inr above ↦ ap (λ b. set_of.contains more q && f b) (le-ltb q n ge ∙ sym (le-ltb q (page + 1) (omega arith)))
  ]
]

from_behind : (more : Numbers) (n page : ℕ) → n ≤ page → ((q : ℕ) → n ≤ q → q < page → set_of.contains more q ≡ false) → from more (page + 1) ≡ set_of.remove (from more n) page
from_behind more n page le none = same _ _ (λ q. elim (cases_eq q page) [
  | inl is ↦ contains-from more (page + 1) q ∙ ap (λ b. set_of.contains more q && not b) (lt-ltb q (page + 1) (omega arith)) ∙ and-false (set_of.contains more q)
      ∙ sym (contains_gone (from more n) page q ∙ ap (λ b. not b && set_of.contains (from more n) q) (eq-eqb q page is))
  | inr ne ↦ contains-from more (page + 1) q ∙ sym (passed more n page q not le none ne)
      ∙ sym (contains_gone (from more n) page q ∙ ap (λ b. not b && set_of.contains (from more n) q) (ne_eqb q page ne) ∙ contains-from more n q)
])

-- a page of the set is still to come
pub still_room : (first : Numbers) (first_room : ℕ) (more pages : Numbers) (room n page : ℕ) → n ≤ page → set_of.contains more page ≡ true → set_of.len more ≤ first_room
    → IsAddedTo first first_room more pages room n → 0 < room
still_room first first_room more pages room n page le is fits added =
    let here : set_of.contains (from more n) page ≡ true = contains-from more n page ∙ ap (λ b. b && not (ltb page n)) is ∙ ap not (le-ltb page n le) in
    let some : 0 < set_of.len (from more n) = positive (from more n) page (set_of.len (from more n)) here refl in
    let left = added.left in
    omega arith

pub added_more : (first : Numbers) (first_room : ℕ) (more pages : Numbers) (room n page : ℕ) (pages' : Numbers) (room' : ℕ) → n ≤ page → set_of.contains more page ≡ true
    → ((q : ℕ) → n ≤ q → q < page → set_of.contains more q ≡ false) → pages' ≡ set_of.insert pages page → room' + 1 ≡ room
    → IsAddedTo first first_room more pages room n → IsAddedTo first first_room more pages' room' (page + 1)
added_more first first_room more pages room n page pages' room' le is none put less added =
    let here : set_of.contains (from more n) page ≡ true = contains-from more n page ∙ ap (λ b. b && not (ltb page n)) is ∙ ap not (le-ltb page n le) in
    let short : set_of.len (from more (page + 1)) + 1 ≡ set_of.len (from more n) = ap (λ s. set_of.len s + 1) (from_behind more n page le none) ∙ len_gone (from more n) page here in
    let left = added.left in
    record {
      members = λ q. ap (λ s. set_of.contains s q) put ∙ contains_added pages page q ∙ elim (cases_eq q page) [
        | inl same ↦ ap (λ b. b || set_of.contains pages q) (eq-eqb q page same) ∙ or-true (set_of.contains first q)
            ∙ ap (λ b. set_of.contains first q || b) (sym (ap (λ b. b && ltb q (page + 1)) (ap (set_of.contains more) same ∙ is) ∙ lt-ltb q (page + 1) (omega arith)))
        | inr ne ↦ ap (λ b. b || set_of.contains pages q) (ne_eqb q page ne) ∙ added.members q
            ∙ ap (λ b. set_of.contains first q || b) (passed more n page q (λ b. b) le none ne)
      ];
      left = omega arith;
    }

pub record IsAdded (first : Numbers) (first_room : ℕ) (more pages : Numbers) (room : ℕ) : Type 0 where
  pub all : pages ≡ set_of.union first more
  pub rest : room + set_of.len more ≡ first_room

pub added_all : (first : Numbers) (first_room : ℕ) (more pages : Numbers) (room n : ℕ) → ((q : ℕ) → n ≤ q → set_of.contains more q ≡ false) → IsAddedTo first first_room more pages room n
    → IsAdded first first_room more pages room
added_all first first_room more pages room n none added =
    let nothing : from more n ≡ set_of.empty = same _ _ (λ q. contains-from more n q ∙ elim (cases_lt q n) [
      | inl lt ↦ ap (λ b. set_of.contains more q && not b) (lt-ltb q n lt) ∙ and-false (set_of.contains more q)
      | inr ge ↦ ap (λ b. b && not (ltb q n)) (none q ge)
    ] ∙ sym (contains-empty nat_cmp q)) in
    let short : set_of.len (from more n) ≡ 0 = ap set_of.len nothing ∙ len-empty nat_cmp in
    let left = added.left in
    record {
      all = same _ _ (λ q. added.members q ∙ ap (λ b. set_of.contains first q || b) (elim (cases_lt q n) [
        | inl lt ↦ ap (λ b. set_of.contains more q && b) (lt-ltb q n lt) ∙ sym (and-true (set_of.contains more q))
        | inr ge ↦ ap (λ b. b && ltb q n) (none q ge) ∙ sym (none q ge)
      ]) ∙ sym (contains-union nat_cmp_total first more q));
      rest = omega arith;
    }
