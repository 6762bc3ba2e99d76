-- What a design is.
use Rattle.std.specs.Prelude.{ℕ, zero, suc, ◌≡◌, ◌⊎◌, ◌-◌, ◌^◌, ◌<◌, ◌≤◌, List, map, drop, length, replicate, true, None, Some, slice_index, flat_map}
use Rattle.std.specs.List.{AllByRecursion}
use Rattle.std.specs.FinMap.{get}
use Rattle.pm3_types.specs.Record.{Record, Fits}
use Rattle.pm3_types.specs.Graph.{Part}
use Rattle.pm3_types.specs.Numbering.{is_among}
use Rattle.oo7_schema.specs.Schema.{schema}
use Rattle.oo7_schema.specs.Lookup.{Look, word, reference, items}
use Rattle.oo7_schema.specs.Entries.{objects, Holds, Once, list_record, entries_at}
use Rattle.oo7_schema.specs.Nodes.{IsOf, IsIndex, tree_nodes}
use Rattle.oo7_schema.specs.Flat.{Flat, flat, index, roots_of, tree_slots}
use Rattle.oo7_schema.specs.Members.{module_of, size_number, params_in, greatest_atomic, greatest_composite, manual_of, design_root, places, document_of, root_part, part_of, build_date, x_of, y_of}
use Rattle.oo7_schema.specs.Walk.{assemblies_under, depth_of, parts_of}
use Rattle.oo7_schema.specs.Texts.{HasText}
use Rattle.oo7_schema.specs.Changes.{most_composites, most_atomics}

-- the composite parts of a design, their documents and their atomic parts, as the list of entries by composite id tells them
abbrev pub composites : Flat → List ℕ
composites g = objects (index g 4)

abbrev pub documents : Flat → List ℕ
documents g = map (document_of g.look) (composites g)

abbrev pub atomics : Flat → List ℕ
atomics g = flat_map (items g.look) (composites g)

-- the module: its size, and the bounds of the ids
pub record IsModule (g : Flat) : Type 0 where
  pub is : IsOf g.look 0 (module_of g)
  pub size : size_number g < 5
  pub some_atomic : 1 ≤ greatest_atomic g
  pub few_atomic : greatest_atomic g ≤ most_atomics
  pub some_composite : 1 ≤ greatest_composite g
  pub few_composite : greatest_composite g ≤ most_composites

-- the manual, whose text ends in its last chunk
pub record IsManual (look : Look) (n : ℕ) : Type 0 where
  pub is : IsOf look 1 n
  pub text : HasText look (word look n 0) (reference look n 1) (reference look n 2)

-- a base assembly, whose parts are nil or among these
pub record IsBase (look : Look) (parts : List ℕ) (n : ℕ) : Type 0 where
  pub is : IsOf look 3 n
  pub uses : AllByRecursion (λ (c : ℕ). (c ≡ 0) ⊎ (is_among parts c ≡ true)) (places look n)

-- an assembly with k levels of assemblies below it
abbrev pub IsAssembly : Look → List ℕ → ℕ → ℕ → Type 0
IsAssembly look parts zero n = IsBase look parts n
IsAssembly look parts (suc k) n = IsOf look 2 n × AllByRecursion (IsAssembly look parts k) (places look n)

-- a connection between two of these atomic parts
pub record IsConnection (look : Look) (parts : List ℕ) (n : ℕ) : Type 0 where
  pub is : IsOf look 7 n
  pub from : is_among parts (reference look n 2) ≡ true
  pub to : is_among parts (reference look n 3) ≡ true

-- an atomic part of the composite part c, connected to others of it
pub record IsAtomic (look : Look) (c n : ℕ) : Type 0 where
  pub is : IsOf look 6 n
  pub part : reference look n 5 ≡ c
  pub dated : 1 ≤ build_date look n
  pub early : build_date look n ≤ 2 ^ 64 - 2
  pub x : x_of look n < 100000
  pub y : y_of look n < 100000
  pub connections : AllByRecursion (IsConnection look (items look c)) (items look n)

-- the document of the composite part c, with its text
pub record IsDocument (look : Look) (c n : ℕ) : Type 0 where
  pub is : IsOf look 5 n
  pub part : part_of look n ≡ c
  pub last : ℕ
  pub text : HasText look (word look n 1) (reference look n 3) last

-- a composite part of so many atomic parts, which are just those that connections reach from its root part
pub record IsComposite (look : Look) (atomics n : ℕ) : Type 0 where
  pub is : IsOf look 4 n
  pub document : IsDocument look n (document_of look n)
  pub count : length (items look n) ≡ atomics
  pub parts : AllByRecursion (IsAtomic look n) (items look n)
  pub root : is_among (items look n) (root_part look n) ≡ true
  pub reached : AllByRecursion (λ (p : ℕ). is_among (parts_of look atomics n) p ≡ true) (items look n)

-- an object is a tree as a list, and no more
abbrev pub IsList : Look → ℕ → Type 0
IsList look t = look t ≡ Some (list_record (entries_at look t))

-- a graph whose trees are lists is a design
pub record IsFlatDesign (g : Flat) : Type 0 where
  pub nil : g.look 0 ≡ None
  pub slots : drop 5 g.roots ≡ replicate 11 0
  pub apart : Once (tree_slots g.roots)
  pub lists : AllByRecursion (IsList g.look) (tree_slots g.roots)
  pub head : IsModule g
  pub manual : IsManual g.look (manual_of g)
  pub assemblies : IsAssembly g.look (composites g) (depth_of g) (design_root g)
  pub tree : Once (assemblies_under g.look (depth_of g) (design_root g))
  pub parts : AllByRecursion (IsComposite g.look (params_in g).atomics) (composites g)
  pub once_composites : Once (composites g)
  pub once_documents : Once (documents g)
  pub once_atomics : Once (atomics g)
  pub by_id : Holds (λ (n : ℕ). word g.look n 0) (atomics g) (index g 1)
  pub by_date : Holds (build_date g.look) (atomics g) (index g 2)
  pub by_title : Holds (λ (n : ℕ). word g.look n 0) (documents g) (index g 3)
  pub by_composite : Holds (λ (n : ℕ). word g.look n 0) (composites g) (index g 4)

-- a graph is a design: with its trees as lists it is one, and these trees hold these lists and share no node
pub record IsDesignIn (look : Look) (roots : List ℕ) : Type 0 where
  pub fits : (n : ℕ) (r : Record) → look n ≡ Some r → Fits schema r
  pub design : IsFlatDesign (flat look roots)
  pub trees : (slot : ℕ) → 1 ≤ slot → slot ≤ 4 → IsIndex look (slice_index roots slot) (index (flat look roots) slot)
  pub apart : Once (flat_map (tree_nodes look) (tree_slots roots))

abbrev pub IsDesign : Part → Type 0
IsDesign g = IsDesignIn (get g.records) (roots_of g)
