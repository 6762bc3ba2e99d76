-- Lists of entries that hold just some objects, and what becomes of them where objects come and go.
use Rattle.std.proofs.Common.{◌≡◌, ◌+◌, ◌≤◌, ℕ, suc, List, [], ◌∷◌, ◌++◌, Bool, true, false, cond, refl, sym, arith, ap, ◌∙◌, map, leb}
use Rattle.std.specs.Prelude.{◌==◌, ◌&&◌, ◌||◌, fold, flat_map, zip}
use Rattle.std.specs.List.{AllByRecursion}
use Rattle.std.proofs.lemmas.Bool.Decides.{nat_tests}
use Rattle.std.proofs.lemmas.List.Sums.{sum_by-append}
use Rattle.pm3_types.specs.Numbering.{is_among}
use Rattle.oo7_schema.specs.Entries.{Entry, objects, with_entry, without_entry, has_entry, times, Once, Holds}
use Rattle.oo7_schema.proofs.Testing.{itself, same_number, turned_test, test_false, at_most, or_first, or_second, and_second}
use Rattle.oo7_schema.proofs.Deciding.{times_cons}
use Rattle.oo7_schema.proofs.Coming.{entries_come, entries_go}

-- a name in front counts once more, and any other name no less
pub in_front : (n m : ℕ) (ms : List ℕ) → m ≡ n → times n (m ∷ ms) ≡ suc (times n ms)
in_front n m ms same =
    let here : (m == n) ≡ true = ap (λ (k : ℕ). k == n) same ∙ itself n in
    times_cons n m ms ∙ ap (λ (b : Bool). cond b 1 0 + times n ms) here ∙ omega arith

pub no_less : (n m : ℕ) (ms : List ℕ) → times n ms ≤ times n (m ∷ ms)
no_less n m ms = omega (arith, times_cons n m ms)

pub counted_among : (n : ℕ) (ms : List ℕ) → 1 ≤ times n ms → is_among ms n ≡ true
counted_among n [] some = absurd (omega arith)
counted_among n (m ∷ ms) some = by_test (n == m) refl (counted_among n ms)
  where
    by_test : (b : Bool) → (n == m) ≡ b → (1 ≤ times n ms → is_among ms n ≡ true) → is_among (m ∷ ms) n ≡ true
    by_test true is later = or_first (n == m) (is_among ms n) is
    by_test false is later =
        let apart : (m == n) ≡ false = turned_test n m is in
        let none : times n (m ∷ ms) ≡ 0 + times n ms = times_cons n m ms ∙ ap (λ (b : Bool). cond b 1 0 + times n ms) apart in
        or_second (n == m) (is_among ms n) (later (omega (arith, none)))

pub among_counted : (n : ℕ) (ms : List ℕ) → is_among ms n ≡ true → 1 ≤ times n ms
among_counted n [] is = cc
among_counted n (m ∷ ms) is = by_test (m == n) refl (among_counted n ms)
  where
    by_test : (b : Bool) → (m == n) ≡ b → (is_among ms n ≡ true → 1 ≤ times n ms) → 1 ≤ times n (m ∷ ms)
    by_test true here later = omega (arith, in_front n m ms (same_number m n here))
    by_test false here later =
        let other : (n == m) ≡ false = turned_test m n here in
        let more : 1 ≤ times n ms = later (ap (λ (b : Bool). b || is_among ms n) (sym other) ∙ is) in
        omega (arith, more, no_less n m ms)

-- keys under another reading of the same objects
pub keys_again : (key key2 : ℕ → ℕ) (es : List Entry) → ((n : ℕ) → 1 ≤ times n (objects es) → key2 n ≡ key n)
    → AllByRecursion (λ (e : Entry). e.0 ≡ key e.1) es → AllByRecursion (λ (e : Entry). e.0 ≡ key2 e.1) es
keys_again key key2 [] same keys = tt
keys_again key key2 (e ∷ es) same keys = (
  keys.0 ∙ sym (same e.1 (omega (arith, in_front e.1 e.1 (objects es) refl))),
  keys_again key key2 es (λ n some. same n (omega (arith, some, no_less n e.1 (objects es)))) keys.1,
)

pub holds_again : (key key2 : ℕ → ℕ) (ns : List ℕ) (es : List Entry) → ((n : ℕ) → is_among ns n ≡ true → key2 n ≡ key n) → Holds key ns es → Holds key2 ns es
holds_again key key2 ns es same holds = record {
  same = holds.same;
  keys = keys_again key key2 es (λ n some. same n (counted_among n ns (omega (arith, some, holds.same n)))) holds.keys;
  rising = holds.rising;
}

pub zip_halves : (es : List Entry) → zip (map (λ (e : Entry). e.0) es) (map (λ (e : Entry). e.1) es) ≡ es
zip_halves [] = refl
zip_halves (e ∷ es) = λ i. e ∷ zip_halves es i

-- where an object stands among the entries, it stands under its key
pub has_by : (key : ℕ → ℕ) (p : ℕ) (es : List Entry) → AllByRecursion (λ (e : Entry). e.0 ≡ key e.1) es → 1 ≤ times p (objects es) → has_entry (key p) p es ≡ true
has_by key p [] keys some = absurd (omega arith)
has_by key p (e ∷ es) keys some = by_test (e.1 == p) refl (has_by key p es keys.1)
  where
    by_test : (b : Bool) → (e.1 == p) ≡ b → (1 ≤ times p (objects es) → has_entry (key p) p es ≡ true) → has_entry (key p) p (e ∷ es) ≡ true
    by_test true is later =
        let same : e.1 ≡ p = same_number e.1 p is in
        let under : (e.0 == key p) ≡ true = ap (λ (k : ℕ). k == key p) (keys.0 ∙ ap key same) ∙ itself (key p) in
        or_first (e.0 == key p && e.1 == p) (has_entry (key p) p es) (λ i. (under ∙ refl) i && is i)
    by_test false is later =
        let fewer : times p (objects (e ∷ es)) ≡ 0 + times p (objects es) = times_cons p e.1 (objects es) ∙ ap (λ (b : Bool). cond b 1 0 + times p (objects es)) is in
        or_second (e.0 == key p && e.1 == p) (has_entry (key p) p es) (later (omega (arith, fewer)))

pub keys_without : (key : ℕ → ℕ) (k n : ℕ) (es : List Entry) → AllByRecursion (λ (e : Entry). e.0 ≡ key e.1) es → AllByRecursion (λ (e : Entry). e.0 ≡ key e.1) (without_entry k n es)
keys_without key k n [] keys = tt
keys_without key k n (e ∷ es) keys = by_test (e.0 == k && e.1 == n) (keys_without key k n es keys.1)
  where
    by_test : (b : Bool) → AllByRecursion (λ (d : Entry). d.0 ≡ key d.1) (without_entry k n es) → AllByRecursion (λ (d : Entry). d.0 ≡ key d.1) (cond b es (e ∷ without_entry k n es))
    by_test true rest = keys.1
    by_test false rest = (keys.0, rest)

pub keys_with : (key : ℕ → ℕ) (k n : ℕ) (es : List Entry) → k ≡ key n → AllByRecursion (λ (e : Entry). e.0 ≡ key e.1) es → AllByRecursion (λ (e : Entry). e.0 ≡ key e.1) (with_entry k n es)
keys_with key k n [] here keys = (here, tt)
keys_with key k n (e ∷ es) here keys = by_test (leb e.0 k) (keys_with key k n es here keys.1)
  where
    by_test : (b : Bool) → AllByRecursion (λ (d : Entry). d.0 ≡ key d.1) (with_entry k n es) → AllByRecursion (λ (d : Entry). d.0 ≡ key d.1) (cond b (e ∷ with_entry k n es) ((k, n) ∷ e ∷ es))
    by_test true rest = (keys.0, rest)
    by_test false rest = (here, keys)

-- how often a name stands in lists that are joined, and in front of a list
pub times_join : (n : ℕ) (xs ys : List ℕ) → times n (xs ++ ys) ≡ times n xs + times n ys
times_join n xs ys = sum_by-append (λ (m : ℕ). cond (m == n) 1 0) xs ys

pub times_front : (n m : ℕ) (ms : List ℕ) → times n (m ∷ ms) ≡ times n (m ∷ []) + times n ms
times_front n m ms = times_join n (m ∷ []) ms

-- lists of the same objects hold what each other holds
pub holds_alike : (key : ℕ → ℕ) (ms ns : List ℕ) (es : List Entry) → ((n : ℕ) → times n ms ≡ times n ns) → Holds key ms es → Holds key ns es
holds_alike key ms ns es same holds = record { same = λ n. holds.same n ∙ same n; keys = holds.keys; rising = holds.rising }

-- an object less, and one more
pub holds_without : (key : ℕ → ℕ) (k p : ℕ) (ns : List ℕ) (es : List Entry) → has_entry k p es ≡ true → Holds key (p ∷ ns) es → Holds key ns (without_entry k p es)
holds_without key k p ns es has holds = record {
  same = λ n. omega (arith, (entries_go k p es).counted has n, holds.same n, times_front n p ns);
  keys = keys_without key k p es holds.keys;
  rising = (entries_go k p es).rising holds.rising;
}

pub holds_with : (key : ℕ → ℕ) (p : ℕ) (ns : List ℕ) (es : List Entry) → Holds key ns es → Holds key (p ∷ ns) (with_entry (key p) p es)
holds_with key p ns es holds = record {
  same = λ n. omega (arith, (entries_come (key p) p es).counted n, holds.same n, times_front n p ns);
  keys = keys_with key (key p) p es refl holds.keys;
  rising = (entries_come (key p) p es).rising holds.rising;
}

pub holds_less : (key : ℕ → ℕ) (ps ns : List ℕ) (es : List Entry) → Holds key (ps ++ ns) es → Holds key ns (fold (λ (fs : List Entry) (p : ℕ). without_entry (key p) p fs) es ps)
holds_less key [] ns es holds = holds
holds_less key (p ∷ ps) ns es holds =
    let there : 1 ≤ times p (objects es) = omega (arith, holds.same p, in_front p p (ps ++ ns) refl) in
    holds_less key ps ns (without_entry (key p) p es) (holds_without key (key p) p (ps ++ ns) es (has_by key p es holds.keys there) holds)

pub holds_more : (key : ℕ → ℕ) (ps ns : List ℕ) (es : List Entry) → Holds key ns es → Holds key (ps ++ ns) (fold (λ (fs : List Entry) (p : ℕ). with_entry (key p) p fs) es ps)
holds_more key [] ns es holds = holds
holds_more key (p ∷ ps) ns es holds =
    holds_alike key (ps ++ (p ∷ ns)) (p ∷ (ps ++ ns)) (fold (λ (fs : List Entry) (q : ℕ). with_entry (key q) q fs) (with_entry (key p) p es) ps)
    (λ n. omega (arith, times_join n ps (p ∷ ns), times_front n p ns, times_front n p (ps ++ ns), times_join n ps ns))
    (holds_more key ps (p ∷ ns) (with_entry (key p) p es) (holds_with key p ns es holds))

-- what the objects of entries have is what one of them has and what the others have
pub taken_out : (own : ℕ → List ℕ) (k c : ℕ) (es : List Entry) → has_entry k c es ≡ true → (n : ℕ)
    → times n (flat_map own (objects es)) ≡ times n (own c ++ flat_map own (objects (without_entry k c es)))
taken_out own k c [] has n = cc
taken_out own k c (e ∷ es) has n = by_test (e.0 == k && e.1 == c) refl (λ later. taken_out own k c es later n)
  where
    by_test : (b : Bool) → (e.0 == k && e.1 == c) ≡ b
        → (has_entry k c es ≡ true → times n (flat_map own (objects es)) ≡ times n (own c ++ flat_map own (objects (without_entry k c es))))
        → times n (own e.1 ++ flat_map own (objects es)) ≡ times n (own c ++ flat_map own (objects (cond b es (e ∷ without_entry k c es))))
    by_test true is known = ap (λ (x : ℕ). times n (own x ++ flat_map own (objects es))) (same_number e.1 c (and_second (e.0 == k) (e.1 == c) is))
    by_test false is known =
        let rest = known (ap (λ (b : Bool). b || has_entry k c es) (sym is) ∙ has) in
        omega (
          arith,
          rest,
          times_join n (own e.1) (flat_map own (objects es)),
          times_join n (own c) (flat_map own (objects (without_entry k c es))),
          times_join n (own c) (own e.1 ++ flat_map own (objects (without_entry k c es))),
          times_join n (own e.1) (flat_map own (objects (without_entry k c es))),
        )

-- and so where an object comes
pub put_in : (own : ℕ → List ℕ) (k c : ℕ) (es : List Entry) (n : ℕ) → times n (flat_map own (objects (with_entry k c es))) ≡ times n (own c ++ flat_map own (objects es))
put_in own k c [] n = refl
put_in own k c (e ∷ es) n = by_test (leb e.0 k) (put_in own k c es n)
  where
    by_test : (b : Bool) → times n (flat_map own (objects (with_entry k c es))) ≡ times n (own c ++ flat_map own (objects es))
        → times n (flat_map own (objects (cond b (e ∷ with_entry k c es) ((k, c) ∷ e ∷ es)))) ≡ times n (own c ++ (own e.1 ++ flat_map own (objects es)))
    by_test true rest = omega (
      arith,
      rest,
      times_join n (own e.1) (flat_map own (objects (with_entry k c es))),
      times_join n (own c) (flat_map own (objects es)),
      times_join n (own c) (own e.1 ++ flat_map own (objects es)),
      times_join n (own e.1) (flat_map own (objects es)),
    )
    by_test false rest = refl

-- what holds of the objects of entries holds of them without one, and with one of which it holds
pub all_without : (P : ℕ → Type 0) (k c : ℕ) (es : List Entry) → AllByRecursion P (objects es) → AllByRecursion P (objects (without_entry k c es))
all_without P k c [] all = tt
all_without P k c (e ∷ es) all = by_test (e.0 == k && e.1 == c) (all_without P k c es all.1)
  where
    by_test : (b : Bool) → AllByRecursion P (objects (without_entry k c es)) → AllByRecursion P (objects (cond b es (e ∷ without_entry k c es)))
    by_test true rest = all.1
    by_test false rest = (all.0, rest)

pub all_with : (P : ℕ → Type 0) (k c : ℕ) (es : List Entry) → P c → AllByRecursion P (objects es) → AllByRecursion P (objects (with_entry k c es))
all_with P k c [] here all = (here, tt)
all_with P k c (e ∷ es) here all = by_test (leb e.0 k) (all_with P k c es here all.1)
  where
    by_test : (b : Bool) → AllByRecursion P (objects (with_entry k c es)) → AllByRecursion P (objects (cond b (e ∷ with_entry k c es) ((k, c) ∷ e ∷ es)))
    by_test true rest = (all.0, rest)
    by_test false rest = (here, all)

-- lists of one object for each are a list
pub map_as_flat : (h : ℕ → ℕ) (ns : List ℕ) → map h ns ≡ flat_map (λ (n : ℕ). h n ∷ []) ns
map_as_flat h [] = refl
map_as_flat h (n ∷ ns) = λ i. h n ∷ map_as_flat h ns i

pub self_as_flat : (ns : List ℕ) → ns ≡ flat_map (λ (n : ℕ). n ∷ []) ns
self_as_flat [] = refl
self_as_flat (n ∷ ns) = λ i. n ∷ self_as_flat ns i

-- no name stands twice among fewer
pub once_less : (ms ns all : List ℕ) → ((n : ℕ) → times n all ≡ times n (ms ++ ns)) → Once all → Once ns
once_less ms ns all same once n = let most = once n in omega (arith, most, same n, times_join n ms ns)

-- what one list has, another has that is without one name, where it isn't this name
pub still_among : (c n : ℕ) (all ns : List ℕ) → ((m : ℕ) → times m all ≡ times m (c ∷ ns)) → (n ≡ c → ⊥) → is_among all n ≡ true → is_among ns n ≡ true
still_among c n all ns same other among =
    let apart : (c == n) ≡ false = test_false c n (λ equal. other (sym equal)) in
    let none : times n (c ∷ ns) ≡ 0 + times n ns = times_cons n c ns ∙ ap (λ (b : Bool). cond b 1 0 + times n ns) apart in
    counted_among n ns (omega (arith, none, same n, among_counted n all among))

pub still_there : (c n : ℕ) (all ns : List ℕ) → ((m : ℕ) → times m all ≡ times m (c ∷ ns)) → is_among ns n ≡ true → is_among all n ≡ true
still_there c n all ns same among = counted_among n all (omega (arith, same n, among_counted n ns among, no_less n c ns))

-- one name stands in its list once
pub one_of : (m : ℕ) → Once (m ∷ [])
one_of m n = by_test (m == n) refl
  where
    by_test : (b : Bool) → (m == n) ≡ b → times n (m ∷ []) ≤ 1
    by_test true is = omega (arith, in_front n m [] (same_number m n is))
    by_test false is =
        let none : times n (m ∷ []) ≡ 0 + times n [] = times_cons n m [] ∙ ap (λ (b : Bool). cond b 1 0 + times n []) is in
        omega (arith, none)

none : (n : ℕ) → leb 1 n ≡ false → n ≡ 0
none n is = grind (arith, nat_tests)

-- no name stands twice in two lists together of which none has a name of the other
pub joined_once : (ms ns all : List ℕ) → ((n : ℕ) → times n all ≡ times n (ms ++ ns)) → Once ms → Once ns → ((n : ℕ) → is_among ns n ≡ true → is_among ms n ≡ true → ⊥) → Once all
joined_once ms ns all same first second apart n = by_test (leb 1 (times n ns)) refl (leb 1 (times n ms)) refl
  where
    one : times n ms ≤ 1
    one = first n

    other : times n ns ≤ 1
    other = second n

    by_test : (b : Bool) → leb 1 (times n ns) ≡ b → (t : Bool) → leb 1 (times n ms) ≡ t → times n all ≤ 1
    by_test true here true there = absurd (apart n (counted_among n ns (at_most 1 (times n ns) here)) (counted_among n ms (at_most 1 (times n ms) there)))
    by_test true here false there = omega (arith, other, none (times n ms) there, same n, times_join n ms ns)
    by_test false here t there = omega (arith, one, none (times n ns) here, same n, times_join n ms ns)

-- and so where several go or come
pub all_less : (P : ℕ → Type 0) (key : ℕ → ℕ) (ps : List ℕ) (es : List Entry) → AllByRecursion P (objects es) → AllByRecursion P (objects (fold (λ (fs : List Entry) (p : ℕ). without_entry (key p) p fs) es ps))
all_less P key [] es all = all
all_less P key (p ∷ ps) es all = all_less P key ps (without_entry (key p) p es) (all_without P (key p) p es all)

pub all_more : (P : ℕ → Type 0) (key : ℕ → ℕ) (ps : List ℕ) (es : List Entry) → AllByRecursion P ps → AllByRecursion P (objects es) → AllByRecursion P (objects (fold (λ (fs : List Entry) (p : ℕ). with_entry (key p) p fs) es ps))
all_more P key [] es new all = all
all_more P key (p ∷ ps) es new all = all_more P key ps (with_entry (key p) p es) new.1 (all_with P (key p) p es new.0 all)
