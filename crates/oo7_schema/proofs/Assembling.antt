-- The assemblies of a build form a tree.
use Rattle.std.proofs.Common.{◌≡◌, ◌+◌, ◌*◌, ◌^◌, ◌≤◌, ℕ, zero, suc, List, [], ◌∷◌, ◌++◌, length, None, Some, refl, sym, arith, ap, subst, ◌∙◌, take, drop, get_or, get_or-drop, length-drop, drop-drop}
use Rattle.std.specs.Prelude.{flat_map, slice_index}
use Rattle.std.specs.List.{AllByRecursion}
use Rattle.std.proofs.Math.Nat.{pow-suc}
use Rattle.std.proofs.Math.Seq.{take-add}
use Rattle.std.proofs.lemmas.List.{append-nil, map-append}
use Rattle.pm3_types.specs.Fields.{is_reference}
use Rattle.pm3_types.specs.Record.{Record}
use Rattle.oo7_schema.specs.Lookup.{Look}
use Rattle.oo7_schema.specs.Walk.{assemblies_under}
use Rattle.oo7_schema.specs.Sized.{assembly_count, assembly_draws, assembly_objects}
use Rattle.oo7_schema.specs.Designs.{IsAssembly}
use Rattle.oo7_schema.proofs.Counting.{assemblies_are_counted}
use Rattle.oo7_schema.proofs.Deciding.{of_test, is_of}
use Rattle.oo7_schema.proofs.KeptObjects.{places_in}
use Rattle.oo7_schema.proofs.Rebasing.{base_of}
use Rattle.oo7_schema.proofs.Pieces.{all_first, all_second}
use Rattle.oo7_schema.proofs.Making.{Placed}
use Rattle.oo7_schema.proofs.Naming.{named}
use Rattle.oo7_schema.proofs.Linking.{NilOr}
use Rattle.oo7_schema.proofs.MadeNames.{at_place}

-- one more than thrice as many as on the level below
nowhere : Look
nowhere n = None

pub next_count : (k : ℕ) → assembly_count (suc k) ≡ suc (assembly_count k + (assembly_count k + assembly_count k))
next_count k =
    let odd : 2 * length (assemblies_under nowhere k 0) + 1 ≡ 3 ^ (k + 1) = assemblies_are_counted nowhere k 0 in
    let power : 3 ^ (suc k + 1) ≡ 3 ^ (k + 1) * 3 = (let more : suc k + 1 ≡ suc (k + 1) = omega arith in ap (λ (m : ℕ). 3 ^ m) more ∙ pow-suc 3 (k + 1)) in
    omega (arith, odd, power)

-- the first names of the three assemblies below one
pub first_below : (names : List ℕ) (j k : ℕ) → slice_index (drop (1 + j * assembly_count k) names) 0 ≡ slice_index names (1 + j * assembly_count k)
first_below names j k =
    let at : 1 + j * assembly_count k + 0 ≡ 1 + j * assembly_count k = omega arith in
    get_or-drop (1 + j * assembly_count k) names 0 0 ∙ ap (λ (n : ℕ). get_or names n 0) at

-- what stands below an assembly, by its place among the three
abbrev below : List ℕ → ℕ → ℕ → List ℕ → List ℕ → ℕ → List (ℕ × Record)
below parts k id names nums j = assembly_objects parts k (id + 1 + j * assembly_count k) (drop (1 + j * assembly_count k) names) (drop (1 + j * assembly_draws k) nums)

abbrev complex : ℕ → ℕ → ℕ → ℕ → ℕ → Record
complex id date first second third = record { ty = 2; fields = id ∷ date ∷ first ∷ second ∷ third ∷ []; tail = [] }

complex_places : (id date first second third : ℕ) → places_in (Some (complex id date first second third)) ≡ first ∷ second ∷ third ∷ []
unfolding is_reference
complex_places id date first second third = refl

module _ (look : Look) (parts cs : List ℕ) (inside : (n : ℕ) → NilOr parts n → NilOr cs n) where
  pub assembly_made : (k id : ℕ) (names nums : List ℕ) → AllByRecursion (Placed look) (assembly_objects parts k id names nums) → IsAssembly look cs k (slice_index names 0)
  assembly_made zero id names nums placed = base_of (NilOr parts) look cs (slice_index names 0) inside (record {
    id = id;
    date = 1000 + slice_index nums 0;
    one = slice_index parts (slice_index nums 1);
    two = slice_index parts (slice_index nums 2);
    three = slice_index parts (slice_index nums 3);
    is = placed.0;
    first = at_place parts (slice_index nums 1);
    second = at_place parts (slice_index nums 2);
    third = at_place parts (slice_index nums 3);
  })
  assembly_made (suc k) id names nums placed =
      let first = all_first (Placed look) (below parts k id names nums 0) (below parts k id names nums 1 ++ (below parts k id names nums 2 ++ [])) placed.1 in
      let rest = all_second (Placed look) (below parts k id names nums 0) (below parts k id names nums 1 ++ (below parts k id names nums 2 ++ [])) placed.1 in
      let second = all_first (Placed look) (below parts k id names nums 1) (below parts k id names nums 2 ++ []) rest in
      let third = all_first (Placed look) (below parts k id names nums 2) [] (all_second (Placed look) (below parts k id names nums 1) (below parts k id names nums 2 ++ []) rest) in (
        is_of look 2 (slice_index names 0) (ap (of_test 2) placed.0),
        subst (λ (ns : List ℕ). AllByRecursion (IsAssembly look cs k) ns)
            (sym (ap places_in placed.0
            ∙ complex_places id (1000 + slice_index nums 0) (slice_index names (1 + 0 * assembly_count k)) (slice_index names (1 + 1 * assembly_count k)) (slice_index names (1 + 2 * assembly_count k)))) (
              subst (IsAssembly look cs k) (first_below names 0 k) (assembly_made k (id + 1 + 0 * assembly_count k) (drop (1 + 0 * assembly_count k) names) (drop (1 + 0 * assembly_draws k) nums) first),
              (
                subst (IsAssembly look cs k) (first_below names 1 k) (assembly_made k (id + 1 + 1 * assembly_count k) (drop (1 + 1 * assembly_count k) names) (drop (1 + 1 * assembly_draws k) nums) second),
                (
                  subst (IsAssembly look cs k) (first_below names 2 k) (assembly_made k (id + 1 + 2 * assembly_count k) (drop (1 + 2 * assembly_count k) names) (drop (1 + 2 * assembly_draws k) nums) third),
                  tt,
                ),
              ),
            ),
      )

three_named : (xs ys zs : List (ℕ × Record)) → named (xs ++ (ys ++ (zs ++ []))) ≡ named xs ++ (named ys ++ (named zs ++ []))
three_named xs ys zs =
    map-append (λ (o : ℕ × Record). o.0) xs (ys ++ (zs ++ []))
    ∙ ap (λ (ns : List ℕ). named xs ++ ns) (map-append (λ (o : ℕ × Record). o.0) ys (zs ++ []) ∙ ap (λ (ns : List ℕ). named ys ++ ns) (map-append (λ (o : ℕ × Record). o.0) zs []))

-- the assemblies under one are those that were made with it
pub under_made : (look : Look) (parts : List ℕ) (k id : ℕ) (names nums : List ℕ) → AllByRecursion (Placed look) (assembly_objects parts k id names nums)
    → assemblies_under look k (slice_index names 0) ≡ named (assembly_objects parts k id names nums)
under_made look parts zero id names nums placed = refl
under_made look parts (suc k) id names nums placed =
    let first = all_first (Placed look) (below parts k id names nums 0) (below parts k id names nums 1 ++ (below parts k id names nums 2 ++ [])) placed.1 in
    let rest = all_second (Placed look) (below parts k id names nums 0) (below parts k id names nums 1 ++ (below parts k id names nums 2 ++ [])) placed.1 in
    let second = all_first (Placed look) (below parts k id names nums 1) (below parts k id names nums 2 ++ []) rest in
    let third = all_first (Placed look) (below parts k id names nums 2) [] (all_second (Placed look) (below parts k id names nums 1) (below parts k id names nums 2 ++ []) rest) in
    ap (λ (ns : List ℕ). slice_index names 0 ∷ flat_map (assemblies_under look k) ns)
    (ap places_in placed.0
    ∙ complex_places id (1000 + slice_index nums 0) (slice_index names (1 + 0 * assembly_count k)) (slice_index names (1 + 1 * assembly_count k)) (slice_index names (1 + 2 * assembly_count k)))
    ∙ (λ i. slice_index names 0
    ∷ ((ap (assemblies_under look k) (sym (first_below names 0 k)) ∙ under_made look parts k (id + 1 + 0 * assembly_count k) (drop (1 + 0 * assembly_count k) names) (drop (1 + 0 * assembly_draws k) nums) first) i
    ++ ((ap (assemblies_under look k) (sym (first_below names 1 k)) ∙ under_made look parts k (id + 1 + 1 * assembly_count k) (drop (1 + 1 * assembly_count k) names) (drop (1 + 1 * assembly_draws k) nums) second) i
    ++ ((ap (assemblies_under look k) (sym (first_below names 2 k)) ∙ under_made look parts k (id + 1 + 2 * assembly_count k) (drop (1 + 2 * assembly_count k) names) (drop (1 + 2 * assembly_draws k) nums) third) i ++ []))))
    ∙ ap (λ (ns : List ℕ). slice_index names 0 ∷ ns) (sym (three_named (below parts k id names nums 0) (below parts k id names nums 1) (below parts k id names nums 2)))

-- they have the names in order
abbrev Named : List ℕ → ℕ → Type 0
Named parts k = (id : ℕ) (names nums : List ℕ) → assembly_count k ≤ length names → named (assembly_objects parts k id names nums) ≡ take (assembly_count k) names

pub assemblies_named : (parts : List ℕ) (k id : ℕ) (names nums : List ℕ) → assembly_count k ≤ length names → named (assembly_objects parts k id names nums) ≡ take (assembly_count k) names
assemblies_named parts zero id [] nums enough = absurd (omega arith)
assemblies_named parts zero id (n ∷ names) nums enough = refl
assemblies_named parts (suc k) id [] nums enough = absurd (omega (arith, next_count k))
assemblies_named parts (suc k) id (n ∷ names) nums enough =
    let m : ℕ = assembly_count k in
    let known : Named parts k = assemblies_named parts k in
    three_named_here ∙ (λ i. n ∷ (piece known 0 0 (omega arith) (omega (arith, next_count k, enough)) i ++ (piece known 1 m (omega arith) (omega (arith, next_count k, enough)) i ++ (piece known 2 (m + m) (omega arith) (omega (arith, next_count k, enough)) i ++ []))))
    ∙ ap (λ (ns : List ℕ). n ∷ (take m names ++ (take m (drop m names) ++ ns))) (append-nil (take m (drop (m + m) names)) ∙ ap (take m) (sym (drop-drop m m names)))
    ∙ ap (λ (ns : List ℕ). n ∷ (take m names ++ ns)) (sym (take-add m m (drop m names)))
    ∙ ap (λ (ns : List ℕ). n ∷ ns) (sym (take-add m (m + m) names)) ∙ ap (λ (c : ℕ). take c (n ∷ names)) (sym (next_count k))
  where
    three_named_here : named (assembly_objects parts (suc k) id (n ∷ names) nums)
        ≡ n ∷ (named (below parts k id (n ∷ names) nums 0) ++ (named (below parts k id (n ∷ names) nums 1) ++ (named (below parts k id (n ∷ names) nums 2) ++ [])))
    three_named_here = ap (λ (ns : List ℕ). n ∷ ns) (three_named (below parts k id (n ∷ names) nums 0) (below parts k id (n ∷ names) nums 1) (below parts k id (n ∷ names) nums 2))

    piece : Named parts k → (j at : ℕ) → j * assembly_count k ≡ at → at + assembly_count k ≤ length names → named (below parts k id (n ∷ names) nums j) ≡ take (assembly_count k) (drop at names)
    piece known j at is enough2 =
        let place : 1 + j * assembly_count k ≡ suc at = omega (arith, is) in
        let long : length (drop (1 + j * assembly_count k) (n ∷ names)) ≡ length (drop at names) = ap (λ (i : ℕ). length (drop i (n ∷ names))) place in
        known (id + 1 + j * assembly_count k) (drop (1 + j * assembly_count k) (n ∷ names)) (drop (1 + j * assembly_draws k) nums) (omega (arith, long, length-drop at names, enough2))
        ∙ ap (λ (i : ℕ). take (assembly_count k) (drop i (n ∷ names))) place

pub some_assemblies : (k : ℕ) → 1 ≤ assembly_count k
some_assemblies zero = omega arith
some_assemblies (suc k) = omega (arith, next_count k)
