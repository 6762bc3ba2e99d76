-- The design of a size and a seed, by the draws that a build makes. The names are any: the reading doesn't show them.
use Rattle.std.specs.Prelude.{ℕ, zero, suc, ◌+◌, ◌-◌, ◌*◌, ◌/◌, ◌==◌, ◌^◌, List, [], ◌∷◌, ◌++◌, cond, map, drop, replicate, length, fold, true, false, slice_index, flat_map, None, Some}
use Rattle.std.specs.List.{concat, range_with_len}
use Rattle.pm3_types.specs.Record.{Record}
use Rattle.oo7_schema.specs.declared.sizes.Params.{Params}
use Rattle.oo7_schema.specs.Sizes.{params_of, size_at}
use Rattle.oo7_schema.specs.Lookup.{Look}
use Rattle.oo7_schema.specs.Entries.{Entry, with_entry, list_record}
use Rattle.oo7_schema.specs.Flat.{Flat, Reading, reading_of}
use Rattle.oo7_schema.specs.Draws.{begun, drawn}
use Rattle.oo7_schema.specs.Texts.{repeated, manual_line, chunk_count, chunk_objects}
use Rattle.oo7_schema.specs.Composites.{composite_bounds, composite_objects, objects_in}

-- how many assemblies stand under one with k levels below it, itself among them, and how many draws make them
abbrev pub assembly_count : ℕ → ℕ
assembly_count k = (3 ^ (k + 1) - 1) / 2

abbrev pub assembly_draws : ℕ → ℕ
assembly_draws k = assembly_count k + 3 * 3 ^ k

-- the bounds of these draws: each assembly's date, and then a base's three composite parts, or its children
abbrev pub assembly_bounds : ℕ → ℕ → List ℕ
assembly_bounds composites zero = 1000 ∷ replicate 3 composites
assembly_bounds composites (suc k) = 1000 ∷ concat (replicate 3 (assembly_bounds composites k))

-- an assembly with k levels below it and all under it, each before those under it, ids going up from `id`; `parts` names the
-- composite parts
abbrev pub assembly_objects : List ℕ → ℕ → ℕ → List ℕ → List ℕ → List (ℕ × Record)
assembly_objects parts zero id names nums = (
  slice_index names 0,
  record {
    ty = 3;
    fields = id ∷ (1000 + slice_index nums 0) ∷ map (λ (place : ℕ). slice_index parts (slice_index nums place)) (1 ∷ 2 ∷ 3 ∷ []);
    tail = [];
  },
) ∷ []
assembly_objects parts (suc k) id names nums = (
  slice_index names 0,
  record {
    ty = 2;
    fields = id ∷ (1000 + slice_index nums 0) ∷ map (λ (j : ℕ). slice_index names (1 + j * assembly_count k)) (0 ∷ 1 ∷ 2 ∷ []);
    tail = [];
  },
)
    ∷ flat_map (λ (j : ℕ). assembly_objects parts k (id + 1 + j * assembly_count k) (drop (1 + j * assembly_count k) names) (drop (1 + j * assembly_draws k) nums))
    (0 ∷ 1 ∷ 2 ∷ [])

-- the names: four trees, the module and the manual, the assemblies, the manual's chunks, and the objects of composite part k,
-- counted from 0
abbrev pub assembly_names : Params → List ℕ
assembly_names p = range_with_len 7 (assembly_count (p.levels - 1))

abbrev pub manual_names : Params → List ℕ
manual_names p = range_with_len (7 + assembly_count (p.levels - 1)) (chunk_count p.manual)

abbrev pub names_of_composite : Params → ℕ → List ℕ
names_of_composite p k = range_with_len (7 + assembly_count (p.levels - 1) + chunk_count p.manual + k * objects_in p) (objects_in p)

-- the bounds of all draws of a build
abbrev pub build_bounds : Params → List ℕ
build_bounds p = concat (replicate p.composites (composite_bounds p)) ++ assembly_bounds p.composites (p.levels - 1)

-- of all numbers drawn, those of composite part k, counted from 0, and those of the assemblies
abbrev pub composite_draws : Params → List ℕ → ℕ → List ℕ
composite_draws p nums k = drop (k * length (composite_bounds p)) nums

abbrev pub composites_made : Params → List ℕ → List (ℕ × Record)
composites_made p nums = flat_map (λ (k : ℕ). composite_objects p (k + 1) (names_of_composite p k) (composite_draws p nums k)) (range_with_len 0 p.composites)

abbrev pub assemblies_made : Params → List ℕ → List (ℕ × Record)
assemblies_made p nums =
    assembly_objects (map (λ (k : ℕ). slice_index (names_of_composite p k) 0) (range_with_len 0 p.composites)) (p.levels - 1) 1 (assembly_names p)
    (composite_draws p nums p.composites)

-- the entries of the objects of a class in a list, under their words f, in the order of the list where keys are equal
abbrev pub entered : ℕ → ℕ → List (ℕ × Record) → List Entry
entered class f [] = []
entered class f (o ∷ os) = cond (o.1.ty == class) ((slice_index o.1.fields f, o.0) ∷ entered class f os) (entered class f os)

-- entries in the order of their keys
abbrev pub in_order : List Entry → List Entry
in_order es = fold (λ (sorted : List Entry) (e : Entry). with_entry e.0 e.1 sorted) [] es

abbrev pub tree_made : ℕ → ℕ → List (ℕ × Record) → Record
tree_made class f os = list_record (in_order (entered class f os))

-- the module of a size, and its manual
abbrev pub module_made : ℕ → Params → Record
module_made number p = record {
  ty = 0;
  fields = 1 ∷ number ∷ p.composites * p.atomics ∷ p.composites ∷ assembly_count (p.levels - 1) ∷ 6 ∷ 7 ∷ [];
  tail = [];
}

abbrev pub manual_made : Params → Record
manual_made p = record {
  ty = 1;
  fields = p.manual ∷ slice_index (manual_names p) 0 ∷ slice_index (manual_names p) (chunk_count p.manual - 1) ∷ [];
  tail = [];
}

-- all objects of a build
abbrev pub objects_made : ℕ → Params → List ℕ → List (ℕ × Record)
objects_made number p nums =
    let parts = composites_made p nums in
    (1, tree_made 6 0 parts) ∷ (2, tree_made 6 2 parts) ∷ (3, tree_made 5 0 parts) ∷ (4, tree_made 4 0 parts)
    ∷ (5, module_made number p) ∷ (6, manual_made p)
    ∷ assemblies_made p nums ++ chunk_objects (manual_names p) (repeated manual_line p.manual) ++ parts

-- the first object with a name
abbrev pub object_named : List (ℕ × Record) → Look
object_named [] n = None
object_named (o ∷ os) n = elim (n == o.0) [ true ↦ Some o.1 | false ↦ object_named os n ]

-- the design of a size, by its number, and a seed
abbrev pub design : ℕ → ℕ → Flat
design number seed =
    let p = params_of (size_at number) in
    record { look = object_named (objects_made number p (drawn (build_bounds p) (begun seed 7))); roots = 5 ∷ 1 ∷ 2 ∷ 3 ∷ 4 ∷ replicate 11 0 }

-- how many objects a build makes
abbrev pub objects_built : Params → ℕ
objects_built p = 6 + assembly_count (p.levels - 1) + chunk_count p.manual + p.composites * objects_in p

-- the reading of a design
abbrev pub design_reading : ℕ → ℕ → Reading
design_reading number seed = reading_of (design number seed) (objects_built (params_of (size_at number)))
