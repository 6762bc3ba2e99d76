-- Lists by their places, and pieces of lists.
use Rattle.std.proofs.Common.{◌≡◌, ◌+◌, ◌*◌, ◌<◌, ◌≤◌, ℕ, zero, suc, List, [], ◌∷◌, ◌++◌, length, Bool, true, false, refl, sym, arith, ap, subst, ◌∙◌, map, get_or, take, drop, replicate, append_assoc, take-append-drop}
use Rattle.std.specs.Prelude.{◌==◌, flat_map}
use Rattle.std.specs.List.{AllByRecursion, concat, range_with_len}
use Rattle.std.proofs.Math.Nat.{suc-mul, zero-mul}
use Rattle.std.proofs.Math.Seq.{drop-append-add}
use Rattle.pm3_types.specs.Numbering.{is_among}
use Rattle.oo7_schema.specs.Entries.{times, Once}
use Rattle.oo7_schema.proofs.Testing.{itself, or_first, or_second}
use Rattle.oo7_schema.proofs.Holding.{in_front, no_less, among_counted, times_join}

pub all_first : {X : Type 0} (P : X → Type 0) (xs ys : List X) → AllByRecursion P (xs ++ ys) → AllByRecursion P xs
all_first P [] ys all = tt
all_first P (x ∷ xs) ys all = (all.0, all_first P xs ys all.1)

pub all_second : {X : Type 0} (P : X → Type 0) (xs ys : List X) → AllByRecursion P (xs ++ ys) → AllByRecursion P ys
all_second P [] ys all = all
all_second P (x ∷ xs) ys all = all_second P xs ys all.1

-- what holds of all that is made from numbers in order holds of what each makes
pub all_mapped : {X : Type 0} (P : X → Type 0) (make : ℕ → X) (s n : ℕ) → AllByRecursion P (map make (range_with_len s n)) → (i : ℕ) → i < n → P (make (s + i))
all_mapped P make s zero all i low = absurd (omega arith)
all_mapped P make s (suc n) all zero low = let at : s ≡ s + 0 = omega arith in subst (λ (k : ℕ). P (make k)) at all.0
all_mapped P make s (suc n) all (suc i) low =
    let at : s + 1 + i ≡ s + suc i = omega arith in
    subst (λ (k : ℕ). P (make k)) at (all_mapped P make (s + 1) n all.1 i (omega arith))

pub all_flat_mapped : {X : Type 0} (P : X → Type 0) (make : ℕ → List X) (s n : ℕ) → AllByRecursion P (flat_map make (range_with_len s n)) → (i : ℕ) → i < n → AllByRecursion P (make (s + i))
all_flat_mapped P make s zero all i low = absurd (omega arith)
all_flat_mapped P make s (suc n) all zero low =
    let at : s ≡ s + 0 = omega arith in
    subst (λ (k : ℕ). AllByRecursion P (make k)) at (all_first P (make s) (flat_map make (range_with_len (s + 1) n)) all)
all_flat_mapped P make s (suc n) all (suc i) low =
    let at : s + 1 + i ≡ s + suc i = omega arith in
    subst (λ (k : ℕ). AllByRecursion P (make k)) at (all_flat_mapped P make (s + 1) n (all_second P (make s) (flat_map make (range_with_len (s + 1) n)) all) i (omega arith))

pub all_made : {X : Type 0} (P : X → Type 0) (make : ℕ → X) (n : ℕ) → AllByRecursion P (map make (range_with_len 0 n)) → (i : ℕ) → i < n → P (make i)
all_made P make n all i low = let at : 0 + i ≡ i = omega arith in subst (λ (k : ℕ). P (make k)) at (all_mapped P make 0 n all i low)

pub all_flat_made : {X : Type 0} (P : X → Type 0) (make : ℕ → List X) (n : ℕ) → AllByRecursion P (flat_map make (range_with_len 0 n)) → (i : ℕ) → i < n → AllByRecursion P (make i)
all_flat_made P make n all i low = let at : 0 + i ≡ i = omega arith in subst (λ (k : ℕ). AllByRecursion P (make k)) at (all_flat_mapped P make 0 n all i low)

pub all_together : {X : Type 0} (P : X → Type 0) (xs ys : List X) → AllByRecursion P xs → AllByRecursion P ys → AllByRecursion P (xs ++ ys)
all_together P [] ys first second = second
all_together P (x ∷ xs) ys first second = (first.0, all_together P xs ys first.1 second)

pub all_makes : {X : Type 0} (P : X → Type 0) (make : ℕ → X) → ((i : ℕ) → P (make i)) → (s n : ℕ) → AllByRecursion P (map make (range_with_len s n))
all_makes P make each s zero = tt
all_makes P make each s (suc n) = (each s, all_makes P make each (s + 1) n)

pub all_flat_makes : {X : Type 0} (P : X → Type 0) (make : ℕ → List X) → ((i : ℕ) → AllByRecursion P (make i)) → (s n : ℕ) → AllByRecursion P (flat_map make (range_with_len s n))
all_flat_makes P make each s zero = tt
all_flat_makes P make each s (suc n) = all_together P (make s) (flat_map make (range_with_len (s + 1) n)) (each s) (all_flat_makes P make each (s + 1) n)

pub all_places : (P : ℕ → Type 0) (xs : List ℕ) → ((i : ℕ) → i < length xs → P (get_or xs i 0)) → AllByRecursion P xs
all_places P [] each = tt
all_places P (x ∷ xs) each = (each 0 (omega arith), all_places P xs (λ i low. each (suc i) (omega arith)))

-- what is made by places from a list's numbers is the list
pub by_places : (make : ℕ → ℕ) (s : ℕ) (xs : List ℕ) → ((i : ℕ) → i < length xs → make (s + i) ≡ get_or xs i 0) → map make (range_with_len s (length xs)) ≡ xs
by_places make s [] each = refl
by_places make s (x ∷ xs) each =
    let first : make s ≡ x = ap make (omega arith) ∙ each 0 (omega arith) in
    λ i. first i ∷ by_places make (s + 1) xs (λ k low. ap make (omega arith) ∙ each (suc k) (omega arith)) i

-- fields as they are written out
pub written_out : (fields : List ℕ) (n : ℕ) → length fields ≡ n → fields ≡ map (λ (i : ℕ). get_or fields i 0) (range_with_len 0 n)
written_out fields n long =
    sym (by_places (λ (i : ℕ). get_or fields i 0) 0 fields (λ i low. let at : 0 + i ≡ i = omega arith in ap (λ (k : ℕ). get_or fields k 0) at))
    ∙ ap (λ (k : ℕ). map (λ (i : ℕ). get_or fields i 0) (range_with_len 0 k)) long

pub among_get : (xs : List ℕ) (i : ℕ) → i < length xs → is_among xs (get_or xs i 0) ≡ true
among_get [] i low = absurd (omega arith)
among_get (x ∷ xs) zero low = or_first (x == x) (is_among xs x) (itself x)
among_get (x ∷ xs) (suc i) low = or_second (get_or xs i 0 == x) (is_among xs (get_or xs i 0)) (among_get xs i (omega arith))

-- a name stands in a piece of a list no more often than in the list
pub times_take : (n k : ℕ) (xs : List ℕ) → times n (take k xs) ≤ times n xs
times_take n k xs = let both : times n (take k xs ++ drop k xs) ≡ times n xs = ap (times n) (take-append-drop k xs) in omega (arith, both, times_join n (take k xs) (drop k xs))

pub times_drop : (n k : ℕ) (xs : List ℕ) → times n (drop k xs) ≤ times n xs
times_drop n k xs = let both : times n (take k xs ++ drop k xs) ≡ times n xs = ap (times n) (take-append-drop k xs) in omega (arith, both, times_join n (take k xs) (drop k xs))

pub not_counted : (n : ℕ) (ms : List ℕ) → times n ms ≡ 0 → is_among ms n ≡ false
not_counted n ms none = by_test (is_among ms n) refl
  where
    by_test : (b : Bool) → is_among ms n ≡ b → is_among ms n ≡ false
    by_test true among = absurd (omega (arith, among_counted n ms among, none))
    by_test false among = among

pub take_next : (xs : List ℕ) (i : ℕ) → i < length xs → take (suc i) xs ≡ take i xs ++ get_or xs i 0 ∷ []
take_next [] i low = absurd (omega arith)
take_next (x ∷ xs) zero low = refl
take_next (x ∷ xs) (suc i) low = ap (λ (ys : List ℕ). x ∷ ys) (take_next xs i (omega arith))

-- in a list without repeats what comes next was not there before
pub once_next : (xs : List ℕ) (i : ℕ) → Once xs → i < length xs → is_among (take i xs) (get_or xs i 0) ≡ false
once_next xs i once low =
    let most = once (get_or xs i 0) in
    let next : times (get_or xs i 0) (take (suc i) xs) ≡ times (get_or xs i 0) (take i xs ++ get_or xs i 0 ∷ []) = ap (times (get_or xs i 0)) (take_next xs i low) in
    not_counted (get_or xs i 0) (take i xs) (omega (
      arith,
      most,
      next,
      times_take (get_or xs i 0) (suc i) xs,
      times_join (get_or xs i 0) (take i xs) (get_or xs i 0 ∷ []),
      in_front (get_or xs i 0) (get_or xs i 0) [] refl,
    ))

pub once_head : (x : ℕ) (xs : List ℕ) → Once (x ∷ xs) → is_among xs x ≡ false
once_head x xs once = let most = once x in not_counted x xs (omega (arith, most, in_front x x xs refl))

pub once_tail : (x : ℕ) (xs : List ℕ) → Once (x ∷ xs) → Once xs
once_tail x xs once n = let most = once n in omega (arith, most, no_less n x xs)

-- a list goes on with another one
pub record Ahead (xs zs : List ℕ) : Type 0 where
  pub rest : List ℕ
  pub is : zs ≡ xs ++ rest

-- behind some of several equal blocks comes the next one, and behind all what stands behind them
pub blocks_past : (xs ys : List ℕ) (n : ℕ) → drop (n * length xs) (concat (replicate n xs) ++ ys) ≡ ys
blocks_past xs ys zero = ap (λ (k : ℕ). drop k ys) (zero-mul (length xs))
blocks_past xs ys (suc n) =
    let split : suc n * length xs ≡ length xs + n * length xs = omega (arith, suc-mul n (length xs)) in
    (λ i. drop (split i) (append_assoc xs (concat (replicate n xs)) ys i)) ∙ drop-append-add xs (concat (replicate n xs) ++ ys) (n * length xs) ∙ blocks_past xs ys n

pub blocks_ahead : (xs ys : List ℕ) (n a : ℕ) → a < n → Ahead xs (drop (a * length xs) (concat (replicate n xs) ++ ys))
blocks_ahead xs ys zero a low = absurd (omega arith)
blocks_ahead xs ys (suc n) zero low = record {
  rest = concat (replicate n xs) ++ ys;
  is = ap (λ (k : ℕ). drop k (concat (replicate (suc n) xs) ++ ys)) (zero-mul (length xs)) ∙ append_assoc xs (concat (replicate n xs)) ys;
}
blocks_ahead xs ys (suc n) (suc a) low =
    let split : suc a * length xs ≡ length xs + a * length xs = omega (arith, suc-mul a (length xs)) in
    let later : Ahead xs (drop (a * length xs) (concat (replicate n xs) ++ ys)) = blocks_ahead xs ys n a (omega arith) in
    record {
      rest = later.rest;
      is = (λ i. drop (split i) (append_assoc xs (concat (replicate n xs)) ys i)) ∙ drop-append-add xs (concat (replicate n xs) ++ ys) (a * length xs) ∙ later.is;
    }
