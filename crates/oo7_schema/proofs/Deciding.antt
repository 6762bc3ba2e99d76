-- Facts about objects and lists that are written out, by tests that compute.
use Rattle.std.proofs.Common.{◌≡◌, ◌+◌, ◌<◌, ◌≤◌, ℕ, zero, suc, List, [], ◌∷◌, length, Bool, true, false, cond, Option, None, Some, IsTrue, ◌⊎◌, inl, inr, refl, sym, arith, ap, subst, ◌∙◌, leb, nat_lt}
use Rattle.std.specs.Prelude.{◌==◌, ◌&&◌, All}
use Rattle.std.specs.List.{slice_get, list_all, AllByRecursion}
use Rattle.std.proofs.lemmas.List.Sums.{sum_by-cons}
use Rattle.pm3_types.specs.declared.type_map.Tail.{Tail}
use Rattle.pm3_types.specs.declared.type_map.Tail.TheVariants.{Empty, Refs, Bytes}
use Rattle.pm3_types.specs.Fields.{Fields, has_bytes}
use Rattle.pm3_types.specs.Record.{Record, Fits}
use Rattle.oo7_schema.specs.Lookup.{Look, listed_schema}
use Rattle.oo7_schema.specs.Entries.{Entry, AreRising, times, Once}
use Rattle.oo7_schema.specs.Nodes.{IsOf}
use Rattle.oo7_schema.specs.Sized.{object_named}
use Rattle.oo7_schema.proofs.Testing.{same_number, at_most, below, and_first, and_second}

abbrev tail_test : Tail → List ℕ → Bool
tail_test Empty tail = length tail == 0
tail_test Refs tail = true
tail_test Bytes tail = list_all (λ (b : ℕ). nat_lt b 256) tail

abbrev pub fits_test : Option Fields → Record → Bool
fits_test None r = false
fits_test (Some map) r = length r.fields == map.count && tail_test map.tail r.tail

no_tail : (t : Tail) (tail : List ℕ) → tail_test t tail ≡ true → t ≡ Empty → length tail ≡ 0
no_tail Empty tail is empty = same_number (length tail) 0 is
no_tail Refs tail is empty = cc
no_tail Bytes tail is empty = cc

all_bytes : (tail : List ℕ) → list_all (λ (b : ℕ). nat_lt b 256) tail ≡ true → All (λ b. b < 256) tail
all_bytes [] is k d less = absurd (omega arith)
all_bytes (b ∷ tail) is zero d less = below b 256 (and_first (nat_lt b 256) (list_all (λ (x : ℕ). nat_lt x 256) tail) is)
all_bytes (b ∷ tail) is (suc k) d less = all_bytes tail (and_second (nat_lt b 256) (list_all (λ (x : ℕ). nat_lt x 256) tail) is) k d (omega arith)

bytes_tail : (t : Tail) (tail : List ℕ) → tail_test t tail ≡ true → IsTrue (has_bytes t) → All (λ b. b < 256) tail
bytes_tail Empty tail is kind = cc
bytes_tail Refs tail is kind = cc
bytes_tail Bytes tail is kind = all_bytes tail is

fits_by : (catalog : List Fields) (r : Record) (o : Option Fields) → slice_get catalog r.ty ≡ o → fits_test o r ≡ true → Fits catalog r
fits_by catalog r None of is = cc
fits_by catalog r (Some map) of is = record {
  map = map;
  of = of;
  fields = same_number (length r.fields) map.count (and_first (length r.fields == map.count) (tail_test map.tail r.tail) is);
  tail = no_tail map.tail r.tail (and_second (length r.fields == map.count) (tail_test map.tail r.tail) is);
  bytes = bytes_tail map.tail r.tail (and_second (length r.fields == map.count) (tail_test map.tail r.tail) is);
}

abbrev pub of_test : ℕ → Option Record → Bool
of_test class None = false
of_test class (Some r) = r.ty == class && fits_test (slice_get listed_schema r.ty) r

of_by : (look : Look) (class n : ℕ) (o : Option Record) → look n ≡ o → of_test class o ≡ true → IsOf look class n
of_by look class n None is test = cc
of_by look class n (Some r) is test = record {
  object = r;
  is = is;
  of = same_number r.ty class (and_first (r.ty == class) (fits_test (slice_get listed_schema r.ty) r) test);
  fits = fits_by listed_schema r (slice_get listed_schema r.ty) refl (and_second (r.ty == class) (fits_test (slice_get listed_schema r.ty) r) test);
}

-- an object is of a class where a test says so
pub is_of : (look : Look) (class n : ℕ) → of_test class (look n) ≡ true → IsOf look class n
is_of look class n test = of_by look class n (look n) refl test

named_by : (catalog : List Fields) (b : Bool) (o : ℕ × Record) (os : List (ℕ × Record)) (n : ℕ) (r : Record) → fits_test (slice_get catalog o.1.ty) o.1 ≡ true
    → (object_named os n ≡ Some r → Fits catalog r) → elim b [ true ↦ Some o.1 | false ↦ object_named os n ] ≡ Some r → Fits catalog r
named_by catalog true o os n r test later is =
    let same : o.1 ≡ r = cc in
    subst (λ (s : Record). Fits catalog s) same (fits_by catalog o.1 (slice_get catalog o.1.ty) refl test)
named_by catalog false o os n r test later is = later is

-- each object of a list fits where a test says so of all
pub all_fit : (catalog : List Fields) (os : List (ℕ × Record)) → list_all (λ (o : ℕ × Record). fits_test (slice_get catalog o.1.ty) o.1) os ≡ true
    → (n : ℕ) (r : Record) → object_named os n ≡ Some r → Fits catalog r
all_fit catalog [] test n r is = cc
all_fit catalog (o ∷ os) test n r is =
    named_by catalog (n == o.0) o os n r
    (and_first (fits_test (slice_get catalog o.1.ty) o.1) (list_all (λ (q : ℕ × Record). fits_test (slice_get catalog q.1.ty) q.1) os) test)
    (all_fit catalog os (and_second (fits_test (slice_get catalog o.1.ty) o.1) (list_all (λ (q : ℕ × Record). fits_test (slice_get catalog q.1.ty) q.1) os) test) n r) is

pub times_cons : (n m : ℕ) (ms : List ℕ) → times n (m ∷ ms) ≡ cond (m == n) 1 0 + times n ms
times_cons n m ms = sum_by-cons (λ (x : ℕ). cond (x == n) 1 0) m ms

-- what a list doesn't hold passes no test of it, and what it holds passes each
none_or_passes : (p : ℕ → Bool) (n : ℕ) (ms : List ℕ) → list_all p ms ≡ true → (times n ms ≡ 0) ⊎ (p n ≡ true)
none_or_passes p n [] all = inl refl
none_or_passes p n (m ∷ ms) all =
    by_test (m == n) refl (none_or_passes p n ms (and_second (p m) (list_all p ms) all))
  where
    by_test : (b : Bool) → (m == n) ≡ b → (times n ms ≡ 0) ⊎ (p n ≡ true) → (times n (m ∷ ms) ≡ 0) ⊎ (p n ≡ true)
    by_test true here rest = inr (ap p (sym (same_number m n here)) ∙ and_first (p m) (list_all p ms) all)
    by_test false here (inr passes) = inr passes
    by_test false here (inl none) = inl (times_cons n m ms ∙ (λ i. cond (here i) 1 0 + none i))

-- no name stands twice in a list where a test says so of each that stands in it
pub once_by : (ns : List ℕ) → list_all (λ (n : ℕ). leb (times n ns) 1) ns ≡ true → Once ns
once_by ns test n = elim (none_or_passes (λ (m : ℕ). leb (times m ns) 1) n ns test) [
  | inl none ↦ omega (arith, none)
  | inr passes ↦ at_most (times n ns) 1 passes
]

abbrev pub rising_test : List Entry → Bool
rising_test [] = true
rising_test (e ∷ es) = list_all (λ (later : Entry). leb e.0 later.0) es && rising_test es

all_later : (key : ℕ) (es : List Entry) → list_all (λ (later : Entry). leb key later.0) es ≡ true → AllByRecursion (λ (later : Entry). key ≤ later.0) es
all_later key [] test = tt
all_later key (e ∷ es) test = (
  at_most key e.0 (and_first (leb key e.0) (list_all (λ (later : Entry). leb key later.0) es) test),
  all_later key es (and_second (leb key e.0) (list_all (λ (later : Entry). leb key later.0) es) test),
)

-- keys rise where a test says so
pub rising_by : (es : List Entry) → rising_test es ≡ true → AreRising es
rising_by [] test = tt
rising_by (e ∷ es) test = (
  all_later e.0 es (and_first (list_all (λ (later : Entry). leb e.0 later.0) es) (rising_test es) test),
  rising_by es (and_second (list_all (λ (later : Entry). leb e.0 later.0) es) (rising_test es) test),
)
