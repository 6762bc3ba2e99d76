-- Parts of a design that are written out, by tests that compute.
use Rattle.std.proofs.Common.{◌≡◌, ◌+◌, ◌-◌, ◌<◌, ◌≤◌, ◌^◌, ℕ, zero, suc, List, [], ◌∷◌, length, Bool, true, ◌⊎◌, inl, inr, refl, sym, arith, ap, subst, ◌∙◌, leb, nat_lt}
use Rattle.std.specs.Prelude.{◌==◌, ◌&&◌, ◌||◌, ◌≢◌}
use Rattle.std.specs.List.{AllByRecursion, list_all, range_with_len}
use Rattle.std.proofs.lemmas.List.{append-nil}
use Rattle.pm3_types.specs.Numbering.{is_among}
use Rattle.oo7_schema.specs.Lookup.{Look, word, reference, items}
use Rattle.oo7_schema.specs.Entries.{Entry, AreRising, Once}
use Rattle.oo7_schema.specs.Nodes.{IsLeaf, IsRoot, IsChain, IsIndex, entry_at, leaf_entries, leaves_of, nodes_of, held, first_of}
use Rattle.oo7_schema.specs.Members.{places, root_part, document_of, build_date, x_of, y_of}
use Rattle.oo7_schema.specs.Walk.{parts_of}
use Rattle.oo7_schema.specs.Designs.{IsBase, IsAssembly, IsConnection, IsAtomic, IsDocument, IsComposite}
use Rattle.oo7_schema.proofs.Testing.{same_number, at_most, below, and_first, and_second, or_cases}
use Rattle.oo7_schema.proofs.Deciding.{of_test, is_of}
use Rattle.oo7_schema.proofs.Holding.{one_of}

-- all tests of a list hold
abbrev Hold : List Bool → Bool
Hold tests = list_all (λ (b : Bool). b) tests

each_holds : (tests : List Bool) → Hold tests ≡ true → AllByRecursion (λ (b : Bool). b ≡ true) tests
each_holds [] all = tt
each_holds (b ∷ tests) all = (and_first b (Hold tests) all, each_holds tests (and_second b (Hold tests) all))

all_by : {X : Type 0} (test : X → Bool) (P : X → Type 0) → ((x : X) → test x ≡ true → P x) → (xs : List X) → list_all test xs ≡ true → AllByRecursion P xs
all_by test P decides [] all = tt
all_by test P decides (x ∷ xs) all = (decides x (and_first (test x) (list_all test xs) all), all_by test P decides xs (and_second (test x) (list_all test xs) all))

abbrev base_test : Look → List ℕ → ℕ → Bool
base_test look parts n = Hold (of_test 3 (look n) ∷ list_all (λ (c : ℕ). c == 0 || is_among parts c) (places look n) ∷ [])

base_by : (look : Look) (parts : List ℕ) (n : ℕ) → base_test look parts n ≡ true → IsBase look parts n
base_by look parts n test =
    let each = each_holds (of_test 3 (look n) ∷ list_all (λ (c : ℕ). c == 0 || is_among parts c) (places look n) ∷ []) test in
    record {
      is = is_of look 3 n each.0;
      uses = all_by (λ (c : ℕ). c == 0 || is_among parts c) (λ (c : ℕ). (c ≡ 0) ⊎ (is_among parts c ≡ true))
          (λ c is. elim (or_cases (c == 0) (is_among parts c) is) [ inl nil ↦ inl (same_number c 0 nil) | inr among ↦ inr among ]) (places look n) each.1.0;
    }

abbrev pub assembly_test : Look → List ℕ → ℕ → ℕ → Bool
assembly_test look parts zero n = base_test look parts n
assembly_test look parts (suc k) n = of_test 2 (look n) && list_all (assembly_test look parts k) (places look n)

pub assembly_by : (look : Look) (parts : List ℕ) (k n : ℕ) → assembly_test look parts k n ≡ true → IsAssembly look parts k n
assembly_by look parts zero n test = base_by look parts n test
assembly_by look parts (suc k) n test = (
  is_of look 2 n (and_first (of_test 2 (look n)) (list_all (assembly_test look parts k) (places look n)) test),
  all_by (assembly_test look parts k) (IsAssembly look parts k) (assembly_by look parts k) (places look n) (and_second (of_test 2 (look n)) (list_all (assembly_test look parts k) (places look n)) test),
)

abbrev connection_tests : Look → List ℕ → ℕ → List Bool
connection_tests look parts n = of_test 7 (look n) ∷ is_among parts (reference look n 2) ∷ is_among parts (reference look n 3) ∷ []

connection_by : (look : Look) (parts : List ℕ) (n : ℕ) → Hold (connection_tests look parts n) ≡ true → IsConnection look parts n
connection_by look parts n test =
    let each = each_holds (connection_tests look parts n) test in
    record { is = is_of look 7 n each.0; from = each.1.0; to = each.1.1.0 }

abbrev atomic_tests : Look → ℕ → ℕ → List Bool
atomic_tests look c n =
    of_test 6 (look n) ∷ (reference look n 5 == c) ∷ leb 1 (build_date look n) ∷ leb (build_date look n) (2 ^ 64 - 2) ∷ nat_lt (x_of look n) 100000
    ∷ nat_lt (y_of look n) 100000 ∷ list_all (λ (k : ℕ). Hold (connection_tests look (items look c) k)) (items look n) ∷ []

atomic_by : (look : Look) (c n : ℕ) → Hold (atomic_tests look c n) ≡ true → IsAtomic look c n
atomic_by look c n test =
    let each = each_holds (atomic_tests look c n) test in
    record {
      is = is_of look 6 n each.0;
      part = same_number (reference look n 5) c each.1.0;
      dated = at_most 1 (build_date look n) each.1.1.0;
      early = at_most (build_date look n) (2 ^ 64 - 2) each.1.1.1.0;
      x = below (x_of look n) 100000 each.1.1.1.1.0;
      y = below (y_of look n) 100000 each.1.1.1.1.1.0;
      connections = all_by (λ (k : ℕ). Hold (connection_tests look (items look c) k)) (IsConnection look (items look c)) (connection_by look (items look c)) (items look n) each.1.1.1.1.1.1.0;
    }

abbrev composite_tests : Look → ℕ → ℕ → List Bool
composite_tests look atomics n =
    of_test 4 (look n) ∷ (length (items look n) == atomics) ∷ list_all (λ (p : ℕ). Hold (atomic_tests look n p)) (items look n) ∷ is_among (items look n) (root_part look n)
    ∷ list_all (λ (p : ℕ). is_among (parts_of look atomics n) p) (items look n) ∷ []

pub composite_by : (look : Look) (atomics n : ℕ) → IsDocument look n (document_of look n) → Hold (composite_tests look atomics n) ≡ true → IsComposite look atomics n
composite_by look atomics n document test =
    let each = each_holds (composite_tests look atomics n) test in
    record {
      is = is_of look 4 n each.0;
      document = document;
      count = same_number (length (items look n)) atomics each.1.0;
      parts = all_by (λ (p : ℕ). Hold (atomic_tests look n p)) (IsAtomic look n) (atomic_by look n) (items look n) each.1.1.0;
      root = each.1.1.1.0;
      reached = all_by (λ (p : ℕ). is_among (parts_of look atomics n) p) (λ (p : ℕ). is_among (parts_of look atomics n) p ≡ true) (λ p is. is) (items look n) each.1.1.1.1.0;
    }

-- a place of a leaf is used, or empty
abbrev place_test : Look → ℕ → ℕ → Bool
place_test look n k = nat_lt k (word look n 0) || ((entry_at look n k).0 == 0 && (entry_at look n k).1 == 0)

abbrev leaf_tests : Look → ℕ → List Bool
leaf_tests look n = of_test 9 (look n) ∷ leb 1 (word look n 0) ∷ leb (word look n 0) 15 ∷ list_all (place_test look n) (range_with_len 0 15) ∷ []

leaf_by : (look : Look) (n : ℕ) → Hold (leaf_tests look n) ≡ true → IsLeaf look n
leaf_by look n test =
    let each = each_holds (leaf_tests look n) test in
    record {
      is = is_of look 9 n each.0;
      some = at_most 1 (word look n 0) each.1.0;
      most = at_most (word look n 0) 15 each.1.1.0;
      unused = λ k from less. (let place : k ≡ 0 + k = omega arith in empty k from (ap (place_test look n) place ∙ at 0 15 each.1.1.1.0 k less));
    }
  where
    at : (s count : ℕ) → list_all (place_test look n) (range_with_len s count) ≡ true → (k : ℕ) → k < count → place_test look n (s + k) ≡ true
    at s zero all k less = absurd (omega arith)
    at s (suc count) all zero less =
        let here : s + 0 ≡ s = omega arith in
        ap (place_test look n) here ∙ and_first (place_test look n s) (list_all (place_test look n) (range_with_len (s + 1) count)) all
    at s (suc count) all (suc k) less =
        let here : s + suc k ≡ s + 1 + k = omega arith in
        ap (place_test look n) here ∙ at (s + 1) count (and_second (place_test look n s) (list_all (place_test look n) (range_with_len (s + 1) count)) all) k (omega arith)

    empty : (k : ℕ) → word look n 0 ≤ k → place_test look n k ≡ true → entry_at look n k ≡ (0, 0)
    empty k from test = elim (or_cases (nat_lt k (word look n 0)) ((entry_at look n k).0 == 0 && (entry_at look n k).1 == 0) test) [
      | inl used ↦ absurd (omega (arith, below k (word look n 0) used, from))
      | inr none ↦
          let key : (entry_at look n k).0 ≡ 0 = same_number (entry_at look n k).0 0 (and_first ((entry_at look n k).0 == 0) ((entry_at look n k).1 == 0) none) in
          let object : (entry_at look n k).1 ≡ 0 = same_number (entry_at look n k).1 0 (and_second ((entry_at look n k).0 == 0) ((entry_at look n k).1 == 0) none) in
          λ i. (key i, object i)
    ]

-- a tree whose root is a leaf
abbrev low_tests : Look → ℕ → List Entry → List Bool
low_tests look tree es =
    of_test 11 (look tree) ∷ (word look tree 0 == 1) ∷ (word look tree 1 == length es) ∷ leb (length es) 4194304 ∷ Hold (leaf_tests look (reference look tree 2))
    ∷ (reference look (reference look tree 2) 1 == 0) ∷ nat_lt 0 (reference look tree 2) ∷ []

pub low_index : (look : Look) (tree : ℕ) (es : List Entry) → Hold (low_tests look tree es) ≡ true → es ≡ leaf_entries look (reference look tree 2) → AreRising es → IsIndex look tree es
low_index look tree es test entries rising =
    let each = each_holds (low_tests look tree es) test in
    let one : word look tree 0 ≡ 1 = same_number (word look tree 0) 1 each.1.0 in
    let leaf : ℕ = reference look tree 2 in
    record {
      is = is_of look 11 tree each.0;
      height = omega (arith, one);
      count = same_number (word look tree 1) (length es) each.1.1.0;
      most = at_most (length es) 4194304 each.1.1.1.0;
      root = subst (λ (h : ℕ). IsRoot look h leaf) (sym one) (leaf_by look leaf each.1.1.1.1.0);
      entries = subst (λ (h : ℕ). es ≡ held look (leaves_of look h leaf)) (sym one) (entries ∙ sym (append-nil (leaf_entries look leaf)));
      rising = rising;
      chain = subst (λ (h : ℕ). IsChain look (first_of (leaves_of look h leaf)) (leaves_of look h leaf)) (sym one) (refl, not_nil leaf each.1.1.1.1.1.1.0, same_number (reference look leaf 1) 0 each.1.1.1.1.1.0);
      once = subst (λ (h : ℕ). Once (nodes_of look h leaf)) (sym one) (one_of leaf);
    }
  where
    not_nil : (n : ℕ) → nat_lt 0 n ≡ true → n ≢ 0
    not_nil n some = λ nil. absurd (omega (arith, below 0 n some, nil))
