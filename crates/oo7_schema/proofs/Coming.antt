-- Entries that come into a list and go from it.
use Rattle.std.proofs.Common.{◌≡◌, ◌+◌, ◌-◌, ◌%◌, ◌≤◌, ℕ, List, [], ◌∷◌, Bool, true, false, cond, refl, sym, arith, ap, ◌∙◌, leb}
use Rattle.std.specs.Prelude.{◌==◌, ◌&&◌, ◌||◌}
use Rattle.std.specs.List.{AllByRecursion}
use Rattle.std.proofs.lemmas.Bool.Decides.{nat_tests}
use Rattle.oo7_schema.specs.Entries.{Entry, objects, with_entry, without_entry, has_entry, AreRising, times}
use Rattle.oo7_schema.specs.Traversals.{turned}
use Rattle.oo7_schema.specs.EntryLaws.{EntriesCome, EntriesGo, EntriesComeAndGo, TurnsWithin, DatesTurn}
use Rattle.oo7_schema.proofs.Deciding.{times_cons}
use Rattle.oo7_schema.proofs.Testing.{itself, same_number, at_most, and_second, first_fails, second_fails}

more : (a b : ℕ) → leb a b ≡ false → b ≤ a
more a b is = grind (arith, nat_tests)

-- keys that are at least one key
abbrev AreFrom : ℕ → List Entry → Type 0
AreFrom low es = AllByRecursion (λ (later : Entry). low ≤ later.0) es

from_with : (low key n : ℕ) (es : List Entry) → low ≤ key → AreFrom low es → AreFrom low (with_entry key n es)
from_with low key n [] less from = (less, tt)
from_with low key n (e ∷ es) less from = by_test (leb e.0 key) (from_with low key n es less from.1)
  where
    by_test : (b : Bool) → AllByRecursion (λ (later : Entry). low ≤ later.0) (with_entry key n es)
        → AllByRecursion (λ (later : Entry). low ≤ later.0) (cond b (e ∷ with_entry key n es) ((key, n) ∷ e ∷ es))
    by_test true rest = (from.0, rest)
    by_test false rest = (less, from)

from_without : (low key n : ℕ) (es : List Entry) → AreFrom low es → AreFrom low (without_entry key n es)
from_without low key n [] from = tt
from_without low key n (e ∷ es) from = by_test (e.0 == key && e.1 == n) (from_without low key n es from.1)
  where
    by_test : (b : Bool) → AllByRecursion (λ (later : Entry). low ≤ later.0) (without_entry key n es)
        → AllByRecursion (λ (later : Entry). low ≤ later.0) (cond b es (e ∷ without_entry key n es))
    by_test true rest = from.1
    by_test false rest = (from.0, rest)

from_lower : (low key : ℕ) (es : List Entry) → low ≤ key → AreFrom key es → AreFrom low es
from_lower low key [] less from = tt
from_lower low key (e ∷ es) less from =
    let here : key ≤ e.0 = from.0 in
    (omega arith, from_lower low key es less from.1)

rising_with : (key n : ℕ) (es : List Entry) → AreRising es → AreRising (with_entry key n es)
rising_with key n [] rising = (tt, tt)
rising_with key n (e ∷ es) rising = by_test (leb e.0 key) refl (rising_with key n es rising.1)
  where
    by_test : (b : Bool) → leb e.0 key ≡ b → AreRising (with_entry key n es) → AreRising (cond b (e ∷ with_entry key n es) ((key, n) ∷ e ∷ es))
    by_test true is rest = (from_with e.0 key n es (at_most e.0 key is) rising.0, rest)
    by_test false is rest = ((more e.0 key is, from_lower key e.0 es (more e.0 key is) rising.0), rising)

rising_without : (key n : ℕ) (es : List Entry) → AreRising es → AreRising (without_entry key n es)
rising_without key n [] rising = tt
rising_without key n (e ∷ es) rising = by_test (e.0 == key && e.1 == n) (rising_without key n es rising.1)
  where
    by_test : (b : Bool) → AreRising (without_entry key n es) → AreRising (cond b es (e ∷ without_entry key n es))
    by_test true rest = rising.1
    by_test false rest = (from_without e.0 key n es rising.0, rest)

one_time : (m n : ℕ) → times m (n ∷ []) ≡ cond (n == m) 1 0
one_time m n = times_cons m n [] ∙ omega arith

counted_with : (key n : ℕ) (es : List Entry) (m : ℕ) → times m (objects (with_entry key n es)) ≡ times m (objects es) + times m (n ∷ [])
counted_with key n [] m = omega arith
counted_with key n (e ∷ es) m = by_test (leb e.0 key) (counted_with key n es m)
  where
    by_test : (b : Bool) → times m (objects (with_entry key n es)) ≡ times m (objects es) + times m (n ∷ []) → times m (objects (cond b (e ∷ with_entry key n es) ((key, n) ∷ e ∷ es))) ≡ times m (objects (e ∷ es)) + times m (n ∷ [])
    by_test true rest =
        omega (arith, rest, times_cons m e.1 (objects (with_entry key n es)), times_cons m e.1 (objects es))
    by_test false rest = omega (arith, times_cons m n (objects (e ∷ es)), one_time m n)

counted_without : (key n : ℕ) (es : List Entry) → has_entry key n es ≡ true → (m : ℕ) → times m (objects (without_entry key n es)) + times m (n ∷ []) ≡ times m (objects es)
counted_without key n [] has m = cc
counted_without key n (e ∷ es) has m = by_test (e.0 == key && e.1 == n) refl (λ later. counted_without key n es later m)
  where
    by_test : (b : Bool) → (e.0 == key && e.1 == n) ≡ b
        → (has_entry key n es ≡ true → times m (objects (without_entry key n es)) + times m (n ∷ []) ≡ times m (objects es)) → times m (objects (cond b es (e ∷ without_entry key n es))) + times m (n ∷ []) ≡ times m (objects (e ∷ es))
    by_test true is known =
        let same : e.1 ≡ n = same_number e.1 n (and_second (e.0 == key) (e.1 == n) is) in
        let head : times m (e.1 ∷ []) ≡ times m (n ∷ []) = ap (λ (x : ℕ). times m (x ∷ [])) same in
        omega (arith, head, times_cons m e.1 (objects es), one_time m e.1)
    by_test false is known =
        let later : has_entry key n es ≡ true = ap (λ (b : Bool). b || has_entry key n es) (sym is) ∙ has in
        let rest : times m (objects (without_entry key n es)) + times m (n ∷ []) ≡ times m (objects es) = known later in
        omega (arith, rest, times_cons m e.1 (objects (without_entry key n es)), times_cons m e.1 (objects es))

absent_without : (key n : ℕ) (es : List Entry) → has_entry key n es ≡ false → without_entry key n es ≡ es
absent_without key n [] absent = refl
absent_without key n (e ∷ es) absent =
    ap (λ (b : Bool). cond b es (e ∷ without_entry key n es)) (first_fails (e.0 == key && e.1 == n) (has_entry key n es) absent)
    ∙ ap (λ (rest : List Entry). e ∷ rest) (absent_without key n es (second_fails (e.0 == key && e.1 == n) (has_entry key n es) absent))

pub entries_come : EntriesCome
entries_come = λ key n es. record { rising = rising_with key n es; counted = counted_with key n es }

pub entries_go : EntriesGo
entries_go = λ key n es. record { rising = rising_without key n es; counted = counted_without key n es; absent = absent_without key n es }

here_goes : (key n : ℕ) (es : List Entry) → without_entry key n ((key, n) ∷ es) ≡ es
here_goes key n es = ap (λ (b : Bool). cond b es ((key, n) ∷ without_entry key n es)) (λ i. itself key i && itself n i)

come_and_go : (key n : ℕ) (es : List Entry) → has_entry key n es ≡ false → without_entry key n (with_entry key n es) ≡ es
come_and_go key n [] absent = here_goes key n []
come_and_go key n (e ∷ es) absent =
    by_test (leb e.0 key) (come_and_go key n es (second_fails (e.0 == key && e.1 == n) (has_entry key n es) absent))
  where
    by_test : (b : Bool) → without_entry key n (with_entry key n es) ≡ es → without_entry key n (cond b (e ∷ with_entry key n es) ((key, n) ∷ e ∷ es)) ≡ e ∷ es
    by_test true rest =
        ap (λ (b : Bool). cond b (with_entry key n es) (e ∷ without_entry key n (with_entry key n es))) (first_fails (e.0 == key && e.1 == n) (has_entry key n es) absent)
        ∙ ap (λ (others : List Entry). e ∷ others) rest
    by_test false rest = here_goes key n (e ∷ es)

pub entries_come_and_go : EntriesComeAndGo
entries_come_and_go = come_and_go

turned_even : (date : ℕ) → (date % 2 == 0) ≡ true → turned date ≡ date - 1
turned_even date is = ap (λ (b : Bool). cond b (date - 1) (date + 1)) is

turned_odd : (date : ℕ) → (date % 2 == 0) ≡ false → turned date ≡ date + 1
turned_odd date is = ap (λ (b : Bool). cond b (date - 1) (date + 1)) is

zero_test : (n : ℕ) → n ≡ 0 → (n == 0) ≡ true
zero_test n is = grind (arith, nat_tests)

one_test : (n : ℕ) → 1 ≤ n → (n == 0) ≡ false
one_test n is = grind (arith, nat_tests)

not_zero : (n : ℕ) → (n == 0) ≡ false → 1 ≤ n
not_zero n is = grind (arith, nat_tests)

pub dates_turn : DatesTurn
dates_turn date some most = by_test (date % 2 == 0) refl
  where
    by_test : (b : Bool) → (date % 2 == 0) ≡ b → TurnsWithin date
    by_test true is =
        let even : date % 2 ≡ 0 = same_number (date % 2) 0 is in
        let down : turned date ≡ date - 1 = turned_even date is in
        let odd : (turned date % 2 == 0) ≡ false = one_test (turned date % 2) (omega (arith, even, down)) in
        let up : turned (turned date) ≡ turned date + 1 = turned_odd (turned date) odd in
        record { some = omega (arith, even, down); most = omega (arith, even, down); back = up ∙ omega (arith, even, down) }
    by_test false is =
        let odd : 1 ≤ date % 2 = not_zero (date % 2) is in
        let up : turned date ≡ date + 1 = turned_odd date is in
        let even : (turned date % 2 == 0) ≡ true = zero_test (turned date % 2) (omega (arith, odd, up)) in
        let down : turned (turned date) ≡ turned date - 1 = turned_even (turned date) even in
        record { some = omega (arith, up); most = omega (arith, odd, up); back = down ∙ omega (arith, up) }
