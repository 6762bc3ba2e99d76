-- How many changes, objects and assemblies there are.
use Rattle.std.proofs.Common.{◌≡◌, ◌+◌, ◌*◌, ◌/◌, ◌^◌, ◌<◌, ◌≤◌, ℕ, zero, suc, List, [], ◌∷◌, ◌++◌, length, Bool, true, false, cond, refl, sym, arith, ap, ◌∙◌, map, take, drop, replicate, length-append}
use Rattle.std.specs.Prelude.{flat_map}
use Rattle.std.specs.List.{concat, range_with_len}
use Rattle.std.proofs.Math.Nat.{pow-suc, suc-mul, zero-mul}
use Rattle.std.proofs.lemmas.List.{length-map, length-take}
use Rattle.oo7_schema.specs.declared.sizes.Params.{Params}
use Rattle.oo7_schema.specs.Lookup.{Look, reference}
use Rattle.oo7_schema.specs.Members.{params_in, greatest_composite, design_root, root_part}
use Rattle.oo7_schema.specs.Walk.{bases_under, assemblies_under, depth_of, walk, all_parts}
use Rattle.oo7_schema.specs.Texts.{repeated, document_line, chunk_count, chunk_objects}
use Rattle.oo7_schema.specs.Draws.{begun}
use Rattle.oo7_schema.specs.Composites.{composite_object, document_object, part_object, connection_objects, chunk_names, objects_in}
use Rattle.oo7_schema.specs.Changes.{Course, has_room, inserted, insertions}
use Rattle.oo7_schema.specs.CountLaws.{ChangesAreCounted, BasesAreCounted, AssembliesAreCounted, DocumentsAreLong, ObjectsAreCounted, InsertMakesFew, InsertMakesFive}

four_times : (ps : List ℕ) → length (flat_map (λ (p : ℕ). replicate 4 p) ps) ≡ 4 * length ps
four_times [] = refl
four_times (p ∷ ps) = omega (arith, four_times ps)

pub changes_are_counted : ChangesAreCounted
changes_are_counted = λ g. record { a = length-map (walk g) (root_part g.look); b = refl; c = four_times (all_parts g) }

three_parts : {X : Type 0} (xs ys zs : List X) → length (xs ++ (ys ++ (zs ++ []))) ≡ length xs + (length ys + length zs)
three_parts xs ys zs = simp length-append (omega arith)

bases_counted : (look : Look) (k n : ℕ) → length (bases_under look k n) ≡ 3 ^ k
bases_counted look zero n = refl
bases_counted look (suc k) n =
    three_parts (bases_under look k (reference look n 2)) (bases_under look k (reference look n 3)) (bases_under look k (reference look n 4))
    ∙ (λ i. bases_counted look k (reference look n 2) i + (bases_counted look k (reference look n 3) i + bases_counted look k (reference look n 4) i))
    ∙ thrice (3 ^ k) ∙ sym (pow-suc 3 k)
  where
    thrice : (m : ℕ) → m + (m + m) ≡ m * 3
    thrice m = omega arith

pub bases_are_counted : BasesAreCounted
bases_are_counted = λ g. bases_counted g.look (depth_of g) (design_root g)

pub assemblies_are_counted : AssembliesAreCounted
assemblies_are_counted look zero n = refl
assemblies_are_counted look (suc k) n =
    let three = three_parts (assemblies_under look k (reference look n 2)) (assemblies_under look k (reference look n 3)) (assemblies_under look k (reference look n 4)) in
    let power : 3 ^ (suc k + 1) ≡ 3 ^ (k + 1) * 3 = ap (λ (m : ℕ). 3 ^ m) (omega arith) ∙ pow-suc 3 (k + 1) in
    omega (arith, three, power, assemblies_are_counted look k (reference look n 2), assemblies_are_counted look k (reference look n 3), assemblies_are_counted look k (reference look n 4))

pub repeated_length : (line : List ℕ) (m : ℕ) → length (concat (replicate m line)) ≡ m * length line
repeated_length line zero = sym (zero-mul (length line))
repeated_length line (suc m) = length-append line (concat (replicate m line)) ∙ ap (λ (k : ℕ). length line + k) (repeated_length line m) ∙ omega (arith, suc-mul m (length line))

pub documents_are_long : DocumentsAreLong
documents_are_long = λ k count.
    let long : length (concat (replicate (count / 52 + 1) (document_line k))) ≡ (count / 52 + 1) * 52 = repeated_length (document_line k) (count / 52 + 1) in
    length-take count (concat (replicate (count / 52 + 1) (document_line k))) ∙ omega (arith, long)

range_long : (a n : ℕ) → length (range_with_len a n) ≡ n
range_long a zero = refl
range_long a (suc n) = ap (λ (k : ℕ). suc k) (range_long (a + 1) n)

mapped_long : {X : Type 0} (h : ℕ → X) (n : ℕ) → length (map h (range_with_len 0 n)) ≡ n
mapped_long h n = length-map (range_with_len 0 n) h ∙ range_long 0 n

flat_long : {X : Type 0} (h : ℕ → List X) (each : ℕ) → ((a : ℕ) → length (h a) ≡ each) → (ns : List ℕ) → length (flat_map h ns) ≡ length ns * each
flat_long h each long [] = sym (zero-mul each)
flat_long h each long (n ∷ ns) =
    length-append (h n) (flat_map h ns) ∙ (λ i. long n i + flat_long h each long ns i) ∙ omega (arith, suc-mul (length ns) each)

pub objects_are_counted : ObjectsAreCounted
objects_are_counted = λ p k names nums.
    let parts = mapped_long (part_object p k names nums) p.atomics in
    let connections : length (flat_map (connection_objects p names nums) (range_with_len 0 p.atomics)) ≡ p.atomics * p.connections =
    flat_long (connection_objects p names nums) p.connections (λ a. mapped_long _ p.connections) (range_with_len 0 p.atomics)
    ∙ ap (λ (n : ℕ). n * p.connections) (range_long 0 p.atomics) in
    let chunks : length (chunk_objects (chunk_names p names) (repeated (document_line k) p.document)) ≡ chunk_count p.document =
    mapped_long _ (chunk_count (length (repeated (document_line k) p.document))) ∙ ap chunk_count (documents_are_long k p.document) in
    let first = length-append ((composite_object p k names nums ∷ document_object p k names ∷ map (part_object p k names nums) (range_with_len 0 p.atomics)) ++ flat_map (connection_objects p names nums) (range_with_len 0 p.atomics))
    (chunk_objects (chunk_names p names) (repeated (document_line k) p.document)) in
    let second = length-append (composite_object p k names nums ∷ document_object p k names ∷ map (part_object p k names nums) (range_with_len 0 p.atomics)) (flat_map (connection_objects p names nums) (range_with_len 0 p.atomics)) in
    first ∙ ap (λ (n : ℕ). n + length (chunk_objects (chunk_names p names) (repeated (document_line k) p.document))) second
    ∙ (λ i. suc (suc (parts i)) + connections i + chunks i) ∙ regroup p.atomics (p.atomics * p.connections) (chunk_count p.document)
  where
    regroup : (a b c : ℕ) → suc (suc a) + b + c ≡ 2 + a + b + c
    regroup a b c = omega arith

few_by : (b : Bool) (s t : Course) (n : ℕ) → s.parts ≤ n → t.parts ≤ n → (cond b s t).parts ≤ n
few_by true s t n here else = here
few_by false s t n here else = else

insertions_few : (p : Params) (tries k : ℕ) (names : List ℕ) (s : Course) → (insertions p tries k names s).parts ≤ s.parts + tries * p.atomics
insertions_few p zero k names s = omega arith
insertions_few p (suc tries) k names s =
    let rest : (insertions p tries (k + 1) (drop (objects_in p) names) (inserted p k (take (objects_in p) names) s)).parts ≤ s.parts + p.atomics + tries * p.atomics =
    insertions_few p tries (k + 1) (drop (objects_in p) names) (inserted p k (take (objects_in p) names) s) in
    let all : suc tries * p.atomics ≡ p.atomics + tries * p.atomics = omega (arith, suc-mul tries p.atomics) in
    few_by (has_room p k) (insertions p tries (k + 1) (drop (objects_in p) names) (inserted p k (take (objects_in p) names) s)) s (s.parts + suc tries * p.atomics)
    (omega (arith, rest, all)) (omega arith)

pub insert_makes_few : InsertMakesFew
insert_makes_few = λ g choice names.
    let most = insertions_few (params_in g) 5 (greatest_composite g + 1) names (record { design = g; draws = begun choice 7; parts = 0 }) in
    omega (arith, most)

insertions_all : (p : Params) (tries k : ℕ) (names : List ℕ) (s : Course) → ((i : ℕ) → i < tries → has_room p (k + i) ≡ true)
    → (insertions p tries k names s).parts ≡ s.parts + tries * p.atomics
insertions_all p zero k names s room = omega arith
insertions_all p (suc tries) k names s room =
    let here : has_room p k ≡ true = ap (has_room p) (omega arith) ∙ room 0 (omega arith) in
    let rest : (insertions p tries (k + 1) (drop (objects_in p) names) (inserted p k (take (objects_in p) names) s)).parts ≡ s.parts + p.atomics + tries * p.atomics =
    insertions_all p tries (k + 1) (drop (objects_in p) names) (inserted p k (take (objects_in p) names) s)
    (λ i less. ap (has_room p) (omega arith) ∙ room (suc i) (omega arith)) in
    let all : suc tries * p.atomics ≡ p.atomics + tries * p.atomics = omega (arith, suc-mul tries p.atomics) in
    ap (λ (b : Bool). (cond b (insertions p tries (k + 1) (drop (objects_in p) names) (inserted p k (take (objects_in p) names) s)) s).parts) here ∙ omega (arith, rest, all)

pub insert_makes_five : InsertMakesFive
insert_makes_five = λ g choice names room.
    insertions_all (params_in g) 5 (greatest_composite g + 1) names (record { design = g; draws = begun choice 7; parts = 0 }) room ∙ omega arith
