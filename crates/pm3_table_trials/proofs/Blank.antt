-- Homes that are filled one by one.
use Rattle.std.proofs.Common.{◌≡◌, ℕ, zero, suc, ◌+◌, ◌-◌, ◌<◌, ◌≤◌, List, [], ◌∷◌, ◌++◌, length, length-append, get_or, replicate, Option, None, Some, refl, sym, ap, ◌∙◌, arith}
use Rattle.std.proofs.Math.ListN.{set}
use Rattle.std.proofs.lemmas.List.{length-replicate, replicate-append-replicate}
use Rattle.pm3_table_trials.specs.declared.tallies.Tally.{Tally}
use Rattle.pm3_table_trials.specs.Filled.{blank, filled, first_of_used}

next_is_none : (n m : ℕ) → get_or (filled n (suc m)) n None ≡ None
next_is_none zero m = refl
next_is_none (suc n) m = next_is_none n m

next_is_set : (n m : ℕ) → set (filled n (suc m)) n (Some blank) ≡ filled (suc n) m
next_is_set zero m = refl
next_is_set (suc n) m = ap (λ (l : List (Option Tally)). Some blank ∷ l) (next_is_set n m)

-- the next home can be set
pub next_set : (n m : ℕ) → 0 < m → set (filled n m) n (Some blank) ≡ filled (n + 1) (m - 1)
next_set n m some_left =
    let one : m ≡ suc (m - 1) = omega (arith, some_left) in
    let up : suc n ≡ n + 1 = omega arith in
    ap (λ (k : ℕ). set (filled n k) n (Some blank)) one ∙ (next_is_set n (m - 1) ∙ ap (λ (k : ℕ). filled k (m - 1)) up)

pub next_empty : (n m : ℕ) → 0 < m → get_or (filled n m) n None ≡ None
next_empty n m some_left =
    let one : m ≡ suc (m - 1) = omega (arith, some_left) in
    ap (λ (k : ℕ). get_or (filled n k) n None) one ∙ next_is_none n (m - 1)

-- in a list behind another
set_past : (xs ys : List (Option Tally)) (n : ℕ) (y : Option Tally) → set (xs ++ ys) (length xs + n) y ≡ xs ++ set ys n y
set_past [] ys n y = ap (λ (k : ℕ). set ys k y) (let e : 0 + n ≡ n = omega arith in e)
set_past (x ∷ xs) ys n y =
    let up : length (x ∷ xs) + n ≡ suc (length xs + n) = omega arith in
    ap (λ (k : ℕ). set (x ∷ (xs ++ ys)) k y) up ∙ ap (λ (l : List (Option Tally)). x ∷ l) (set_past xs ys n y)

get_past : (xs ys : List (Option Tally)) (n : ℕ) → get_or (xs ++ ys) (length xs + n) None ≡ get_or ys n None
get_past [] ys n = ap (λ (k : ℕ). get_or ys k None) (let e : 0 + n ≡ n = omega arith in e)
get_past (x ∷ xs) ys n =
    let up : length (x ∷ xs) + n ≡ suc (length xs + n) = omega arith in
    ap (λ (k : ℕ). get_or (x ∷ (xs ++ ys)) k None) up ∙ get_past xs ys n

pub filled_long : (n m : ℕ) → length (filled n m) ≡ n + m
filled_long n m = length-append (replicate n (Some blank)) (replicate m None) ∙ (λ i. length-replicate n (Some blank) i + length-replicate {A = Option Tally} m None i)

front_long : (used : ℕ) → used ≤ 16 → length (filled used (16 - used)) ≡ 16
front_long used low = filled_long used (16 - used) ∙ omega (arith, low)

-- the homes once the pages and so many spaces are set
abbrev pub spaced : ℕ → ℕ → List (Option Tally)
spaced used n = filled used (16 - used) ++ filled n (33 - n)

pub spaced_long : (used n : ℕ) → used ≤ 16 → n ≤ 33 → length (spaced used n) ≡ 49
spaced_long used n low below = let a = front_long used low in let b = filled_long n (33 - n) in
    length-append (filled used (16 - used)) (filled n (33 - n)) ∙ omega (arith, a, b, below)

pub spaced_set : (used n at : ℕ) → used ≤ 16 → n < 33 → at ≡ 16 + n → set (spaced used n) at (Some blank) ≡ spaced used (n + 1)
spaced_set used n at low below is =
    let a = front_long used low in
    let here : at ≡ length (filled used (16 - used)) + n = omega (arith, is, a) in
    ap (λ (k : ℕ). set (spaced used n) k (Some blank)) here
    ∙ (set_past (filled used (16 - used)) (filled n (33 - n)) n (Some blank)
    ∙ ap (λ (l : List (Option Tally)). filled used (16 - used) ++ l) (next_set n (33 - n) (omega (arith, below)) ∙ ap (filled (n + 1)) (omega arith)))

pub spaced_empty : (used n at : ℕ) → used ≤ 16 → n < 33 → at ≡ 16 + n → get_or (spaced used n) at None ≡ None
spaced_empty used n at low below is =
    let a = front_long used low in
    let here : at ≡ length (filled used (16 - used)) + n = omega (arith, is, a) in
    ap (λ (k : ℕ). get_or (spaced used n) k None) here
    ∙ (get_past (filled used (16 - used)) (filled n (33 - n)) n ∙ next_empty n (33 - n) (omega (arith, below)))

append_nil : {A : Type 0} (xs : List A) → xs ++ [] ≡ xs
append_nil [] = refl
append_nil (x ∷ xs) = ap (λ l. x ∷ l) (append_nil xs)

append_assoc : {A : Type 0} (xs ys zs : List A) → (xs ++ ys) ++ zs ≡ xs ++ (ys ++ zs)
append_assoc [] ys zs = refl
append_assoc (x ∷ xs) ys zs = ap (λ l. x ∷ l) (append_assoc xs ys zs)

-- before the first space, and with all
pub spaced_none : (used : ℕ) → used ≤ 16 → filled used (49 - used) ≡ spaced used 0
spaced_none used low =
    ap (λ (l : List (Option Tally)). replicate used (Some blank) ++ l)
    (ap (λ (k : ℕ). replicate {A = Option Tally} k None) (let e : 49 - used ≡ 16 - used + 33 = omega (arith, low) in e) ∙ sym (replicate-append-replicate {A = Option Tally} (16 - used) 33 None))
    ∙ sym (append_assoc (replicate used (Some blank)) (replicate (16 - used) None) (replicate 33 None))

pub spaced_all : (used : ℕ) → spaced used 33 ≡ first_of_used used
spaced_all used = ap (λ (l : List (Option Tally)). filled used (16 - used) ++ l) (append_nil (replicate 33 (Some blank)))
