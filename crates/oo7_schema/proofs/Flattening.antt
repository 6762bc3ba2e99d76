-- Lists that are joined from what each of several numbers gives.
use Rattle.std.proofs.Common.{◌≡◌, ◌+◌, ◌<◌, ◌≤◌, ℕ, zero, suc, List, [], ◌∷◌, ◌++◌, length, Bool, true, false, Option, None, Some, is_some, refl, sym, arith, ap, ◌∙◌, map, take, drop, get_or}
use Rattle.std.specs.Prelude.{◌==◌, flat_map}
use Rattle.std.specs.List.{AllByRecursion, range_with_len}
use Rattle.std.proofs.lemmas.List.{map-append}
use Rattle.pm3_types.specs.Record.{Record}
use Rattle.pm3_types.specs.Numbering.{is_among}
use Rattle.oo7_schema.specs.Entries.{times, Once}
use Rattle.oo7_schema.specs.Sized.{object_named}
use Rattle.oo7_schema.proofs.Testing.{itself, test_false, first_fails, second_fails}
use Rattle.oo7_schema.proofs.Pieces.{all_together, once_head, once_tail, times_take, times_drop}
use Rattle.oo7_schema.proofs.Making.{Placed}
use Rattle.oo7_schema.proofs.Naming.{named, placed_again}

pub map_flat : {X : Type 0} (h : X → ℕ) (make : ℕ → List X) (ks : List ℕ) → map h (flat_map make ks) ≡ flat_map (λ (k : ℕ). map h (make k)) ks
map_flat h make [] = refl
map_flat h make (k ∷ ks) = map-append h (make k) (flat_map make ks) ∙ ap (λ (ns : List ℕ). map h (make k) ++ ns) (map_flat h make ks)

pub flat_each : {X : Type 0} (f h : ℕ → List X) → ((k : ℕ) → f k ≡ h k) → (ks : List ℕ) → flat_map f ks ≡ flat_map h ks
flat_each f h same [] = refl
flat_each f h same (k ∷ ks) = λ i. same k i ++ flat_each f h same ks i

-- where the numbers are below a bound
flat_from : {X : Type 0} (f h : ℕ → List X) (most s n : ℕ) → s + n ≤ most → ((k : ℕ) → k < most → f k ≡ h k) → flat_map f (range_with_len s n) ≡ flat_map h (range_with_len s n)
flat_from f h most s zero low same = refl
flat_from f h most s (suc n) low same = λ i. same s (omega arith) i ++ flat_from f h most (s + 1) n (omega arith) same i

pub flat_below : {X : Type 0} (f h : ℕ → List X) (n : ℕ) → ((k : ℕ) → k < n → f k ≡ h k) → flat_map f (range_with_len 0 n) ≡ flat_map h (range_with_len 0 n)
flat_below f h n same = flat_from f h n 0 n (omega arith) same

all_from_below : {X : Type 0} (P : X → Type 0) (make : ℕ → List X) (most s n : ℕ) → s + n ≤ most → ((k : ℕ) → k < most → AllByRecursion P (make k)) → AllByRecursion P (flat_map make (range_with_len s n))
all_from_below P make most s zero low each = tt
all_from_below P make most s (suc n) low each = all_together P (make s) (flat_map make (range_with_len (s + 1) n)) (each s (omega arith)) (all_from_below P make most (s + 1) n (omega arith) each)

pub all_below : {X : Type 0} (P : X → Type 0) (make : ℕ → List X) (n : ℕ) → ((k : ℕ) → k < n → AllByRecursion P (make k)) → AllByRecursion P (flat_map make (range_with_len 0 n))
all_below P make n each = all_from_below P make n 0 n (omega arith) each

-- what one name of each number has
pub flat_singles : (own : ℕ → List ℕ) (h : ℕ → ℕ) (ks : List ℕ) → flat_map own (flat_map (λ (k : ℕ). h k ∷ []) ks) ≡ flat_map (λ (k : ℕ). own (h k)) ks
flat_singles own h [] = refl
flat_singles own h (k ∷ ks) = ap (λ (ns : List ℕ). own (h k) ++ ns) (flat_singles own h ks)

single_piece : (xs : List ℕ) (i : ℕ) → i < length xs → get_or xs i 0 ∷ [] ≡ take 1 (drop i xs)
single_piece [] i low = absurd (omega arith)
single_piece (x ∷ xs) zero low = refl
single_piece (x ∷ xs) (suc i) low = single_piece xs i (omega arith)

pub times_one : (x : ℕ) (xs : List ℕ) (i : ℕ) → i < length xs → times x (get_or xs i 0 ∷ []) ≤ times x xs
times_one x xs i low =
    let piece : times x (get_or xs i 0 ∷ []) ≡ times x (take 1 (drop i xs)) = ap (times x) (single_piece xs i low) in
    omega (arith, piece, times_take x 1 (drop i xs), times_drop x i xs)

-- the objects of a list, each under a name of its own
named_first : (o : ℕ × Record) (os : List (ℕ × Record)) → object_named (o ∷ os) o.0 ≡ Some o.1
named_first o os = by_test (o.0 == o.0) (itself o.0)
  where
    by_test : (b : Bool) → b ≡ true → elim b [ true ↦ Some o.1 | false ↦ object_named os o.0 ] ≡ Some o.1
    by_test true is = refl
    by_test false is = cc

named_later : (o : ℕ × Record) (os : List (ℕ × Record)) (n : ℕ) → (n == o.0) ≡ false → object_named (o ∷ os) n ≡ object_named os n
named_later o os n other = by_test (n == o.0) other
  where
    by_test : (b : Bool) → b ≡ false → elim b [ true ↦ Some o.1 | false ↦ object_named os n ] ≡ object_named os n
    by_test true is = cc
    by_test false is = refl

pub named_off : (os : List (ℕ × Record)) (n : ℕ) → is_among (named os) n ≡ false → object_named os n ≡ None
named_off [] n off = refl
named_off (o ∷ os) n off = named_later o os n (first_fails (n == o.0) (is_among (named os) n) off) ∙ named_off os n (second_fails (n == o.0) (is_among (named os) n) off)

pub named_there : (os : List (ℕ × Record)) (n : ℕ) → is_some (object_named os n) ≡ true → is_among (named os) n ≡ true
named_there os n some = by_test (is_among (named os) n) refl
  where
    by_test : (b : Bool) → is_among (named os) n ≡ b → is_among (named os) n ≡ true
    by_test true among = among
    by_test false off = cc (some, ap (λ (o : Option Record). is_some o) (named_off os n off))

pub named_at : (os : List (ℕ × Record)) → Once (named os) → AllByRecursion (Placed (object_named os)) os
named_at [] once = tt
named_at (o ∷ os) once = (
  named_first o os,
  placed_again (object_named os) (object_named (o ∷ os)) os
      (λ n among. named_later o os n (test_false n o.0 (λ same. cc (once_head o.0 (named os) once, ap (is_among (named os)) (sym same) ∙ among)))) (named_at os (once_tail o.0 (named os) once)),
)
