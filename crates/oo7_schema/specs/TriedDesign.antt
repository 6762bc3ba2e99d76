-- A small design written out by hand, with its trees, on which the definitions are tried: two composite parts of four atomic
-- parts, each with one connection to the next, and thirteen assemblies.
use Rattle.std.specs.Prelude.{ℕ, ◌-◌, List, [], ◌∷◌, ◌++◌, codes, length, replicate}
use Rattle.std.specs.List.{range_with_len}
use Rattle.pm3_types.specs.Record.{Record}
use Rattle.oo7_schema.specs.declared.jobs.Job.{Job}
use Rattle.oo7_schema.specs.Flat.{Flat, flat, Reading, reading_of}
use Rattle.oo7_schema.specs.Jobs.{job_named}
use Rattle.oo7_schema.specs.Sized.{object_named}

-- an object of a class without a tail
abbrev pub plain : ℕ → List ℕ → Record
plain class fields = record { ty = class; fields = fields; tail = [] }

-- a leaf with these keys and values, and none behind it
abbrev pub only_leaf : List ℕ → List ℕ → Record
only_leaf keys values = plain 9 (length keys ∷ 0 ∷ keys ++ replicate (15 - length keys) 0 ++ values ++ replicate (15 - length values) 0)

-- a tree of one leaf
abbrev pub low_tree : ℕ → ℕ → Record
low_tree count leaf = plain 11 (1 ∷ count ∷ leaf ∷ [])

abbrev pub tried_trees : List (ℕ × Record)
tried_trees =
    (11, low_tree 8 21) ∷ (12, low_tree 8 22) ∷ (13, low_tree 2 23) ∷ (14, low_tree 2 24)
    ∷ (21, only_leaf (1 ∷ 2 ∷ 3 ∷ 4 ∷ 5 ∷ 6 ∷ 7 ∷ 8 ∷ []) (61 ∷ 62 ∷ 63 ∷ 64 ∷ 71 ∷ 72 ∷ 73 ∷ 74 ∷ []))
    ∷ (22, only_leaf (1200 ∷ 1900 ∷ 1903 ∷ 1990 ∷ 1995 ∷ 1995 ∷ 1999 ∷ 2001 ∷ []) (71 ∷ 73 ∷ 64 ∷ 74 ∷ 61 ∷ 62 ∷ 72 ∷ 63 ∷ []))
    ∷ (23, only_leaf (1 ∷ 2 ∷ []) (53 ∷ 54 ∷ [])) ∷ (24, only_leaf (1 ∷ 2 ∷ []) (51 ∷ 52 ∷ [])) ∷ []

abbrev pub tried_assemblies : List (ℕ × Record)
tried_assemblies =
    (31, plain 2 (1 ∷ 1500 ∷ 32 ∷ 36 ∷ 40 ∷ []))
    ∷ (32, plain 2 (2 ∷ 1500 ∷ 33 ∷ 34 ∷ 35 ∷ []))
    ∷ (33, plain 3 (3 ∷ 1500 ∷ 51 ∷ 52 ∷ 0 ∷ [])) ∷ (34, plain 3 (4 ∷ 1500 ∷ 51 ∷ 51 ∷ 51 ∷ [])) ∷ (35, plain 3 (5 ∷ 1500 ∷ 0 ∷ 0 ∷ 0 ∷ []))
    ∷ (36, plain 2 (6 ∷ 1500 ∷ 37 ∷ 38 ∷ 39 ∷ []))
    ∷ (37, plain 3 (7 ∷ 1500 ∷ 52 ∷ 0 ∷ 0 ∷ [])) ∷ (38, plain 3 (8 ∷ 1500 ∷ 0 ∷ 0 ∷ 52 ∷ [])) ∷ (39, plain 3 (9 ∷ 1500 ∷ 0 ∷ 0 ∷ 0 ∷ []))
    ∷ (40, plain 2 (10 ∷ 1500 ∷ 41 ∷ 42 ∷ 43 ∷ []))
    ∷ (41, plain 3 (11 ∷ 1500 ∷ 0 ∷ 0 ∷ 0 ∷ [])) ∷ (42, plain 3 (12 ∷ 1500 ∷ 0 ∷ 0 ∷ 0 ∷ [])) ∷ (43, plain 3 (13 ∷ 1500 ∷ 0 ∷ 0 ∷ 0 ∷ [])) ∷ []

abbrev pub chunk_of : List ℕ → Record
chunk_of bytes = record { ty = 8; fields = 0 ∷ []; tail = bytes }

abbrev pub tried_composites : List (ℕ × Record)
tried_composites =
    (51, record { ty = 4; fields = 1 ∷ 2000 ∷ 53 ∷ 61 ∷ []; tail = 61 ∷ 62 ∷ 63 ∷ 64 ∷ [] })
    ∷ (52, record { ty = 4; fields = 2 ∷ 1000 ∷ 54 ∷ 73 ∷ []; tail = 71 ∷ 72 ∷ 73 ∷ 74 ∷ [] })
    ∷ (53, plain 5 (1 ∷ 3 ∷ 51 ∷ 55 ∷ [])) ∷ (54, plain 5 (2 ∷ 3 ∷ 52 ∷ 56 ∷ []))
    ∷ (55, chunk_of (codes "one")) ∷ (56, chunk_of (codes "two")) ∷ []

-- an atomic part of a composite part with one connection
abbrev pub atomic_of : ℕ → ℕ → ℕ → ℕ → ℕ → ℕ → Record
atomic_of id date x y composite connection = record { ty = 6; fields = id ∷ 0 ∷ date ∷ x ∷ y ∷ composite ∷ []; tail = connection ∷ [] }

abbrev pub connected : ℕ → ℕ → Record
connected from to = plain 7 (0 ∷ 1 ∷ from ∷ to ∷ [])

abbrev pub tried_parts : List (ℕ × Record)
tried_parts =
    (61, atomic_of 1 1995 10 1 51 81) ∷ (62, atomic_of 2 1995 20 2 51 82) ∷ (63, atomic_of 3 2001 30 3 51 83) ∷ (64, atomic_of 4 1903 40 4 51 84)
    ∷ (71, atomic_of 5 1200 50 5 52 91) ∷ (72, atomic_of 6 1999 60 6 52 92) ∷ (73, atomic_of 7 1900 70 7 52 93) ∷ (74, atomic_of 8 1990 80 8 52 94)
    ∷ (81, connected 61 62) ∷ (82, connected 62 63) ∷ (83, connected 63 64) ∷ (84, connected 64 61)
    ∷ (91, connected 71 72) ∷ (92, connected 72 73) ∷ (93, connected 73 74) ∷ (94, connected 74 71) ∷ []

abbrev pub tried_objects : List (ℕ × Record)
tried_objects =
    (1, plain 0 (1 ∷ 0 ∷ 8 ∷ 2 ∷ 13 ∷ 2 ∷ 31 ∷ [])) ∷ (2, plain 1 (3 ∷ 3 ∷ 3 ∷ [])) ∷ (3, chunk_of (codes "I I"))
    ∷ tried_trees ++ tried_assemblies ++ tried_composites ++ tried_parts

abbrev pub tried_roots : List ℕ
tried_roots = 1 ∷ 11 ∷ 12 ∷ 13 ∷ 14 ∷ replicate 11 0

-- the design with its trees as lists
abbrev pub tried_design : Flat
tried_design = flat (object_named tried_objects) tried_roots

-- names that it has not
abbrev pub free_names : List ℕ
free_names = range_with_len 1000 100

-- what a job answers of it, and what it leaves
abbrev pub answered : Job → Flat → ℕ
answered job g = (job_named job free_names g).answer

abbrev pub left_by : Job → Flat
left_by job = (job_named job free_names tried_design).left

-- its reading
abbrev pub tried_reading : Reading
tried_reading = reading_of tried_design (length tried_objects)
