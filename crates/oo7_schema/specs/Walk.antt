-- The walk over the assemblies, and the parts that one visit of a composite part meets.
use Rattle.std.specs.Prelude.{ℕ, zero, suc, ◌-◌, ◌==◌, List, [], ◌∷◌, ◌++◌, Bool, true, false, not, filter, fold, flat_map}
use Rattle.pm3_types.specs.Numbering.{is_among}
use Rattle.oo7_schema.specs.Lookup.{Look}
use Rattle.oo7_schema.specs.Flat.{Flat}
use Rattle.oo7_schema.specs.Members.{params_in, design_root, places, root_part, neighbours}

-- the base assemblies k levels under an assembly, in order
abbrev pub bases_under : Look → ℕ → ℕ → List ℕ
bases_under look zero n = n ∷ []
bases_under look (suc k) n = flat_map (bases_under look k) (places look n)

-- an assembly and all that stand under it, down to k levels, each before those under it
abbrev pub assemblies_under : Look → ℕ → ℕ → List ℕ
assemblies_under look zero n = n ∷ []
assemblies_under look (suc k) n = n ∷ flat_map (assemblies_under look k) (places look n)

-- the parts to which a base assembly refers, by its places
abbrev pub parts_at : Look → ℕ → List ℕ
parts_at look base = filter (λ (n : ℕ). not (n == 0)) (places look base)

-- how many levels of complex assemblies a design has
abbrev pub depth_of : Flat → ℕ
depth_of g = (params_in g).levels - 1

-- all base assemblies, and all visits of composite parts, in order
abbrev pub bases : Flat → List ℕ
bases g = bases_under g.look (depth_of g) (design_root g)

abbrev pub walk : Flat → List ℕ
walk g = flat_map (parts_at g.look) (bases g)

-- a part that was met before is not met again; another one is, and then what `step` meets from each to which it leads
abbrev pub met_once : (List ℕ → ℕ → List ℕ) → List ℕ → Bool → List ℕ → ℕ → List ℕ
met_once step next true met n = met
met_once step next false met n = fold step (met ++ n ∷ []) next

-- the parts met once n and what it leads to have been met, depth first, no deeper than d; `next` says where a part leads
abbrev pub met_under : (ℕ → List ℕ) → ℕ → List ℕ → ℕ → List ℕ
met_under next zero met n = met
met_under next (suc d) met n = met_once (met_under next d) (next n) (is_among met n) met n

-- the parts of a visit of a composite part with so many atomic parts
abbrev pub parts_of : Look → ℕ → ℕ → List ℕ
parts_of look atomics c = met_under (neighbours look) atomics [] (root_part look c)

-- the parts of all visits, in order
abbrev pub all_parts : Flat → List ℕ
all_parts g = flat_map (parts_of g.look (params_in g).atomics) (walk g)
