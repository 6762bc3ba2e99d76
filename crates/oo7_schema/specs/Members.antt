-- The places of a design's objects, by their names.
use Rattle.std.specs.Prelude.{ℕ, List, [], ◌∷◌, map, slice_index}
use Rattle.oo7_schema.specs.declared.sizes.Params.{Params}
use Rattle.oo7_schema.specs.Sizes.{params_of, size_at}
use Rattle.oo7_schema.specs.Lookup.{Look, word, reference, items}
use Rattle.oo7_schema.specs.Flat.{Flat}

-- the module, and what its words say
abbrev pub module_of : Flat → ℕ
module_of g = slice_index g.roots 0

abbrev pub size_number : Flat → ℕ
size_number g = word g.look (module_of g) 1

abbrev pub params_in : Flat → Params
params_in g = params_of (size_at (size_number g))

abbrev pub greatest_atomic : Flat → ℕ
greatest_atomic g = word g.look (module_of g) 2

abbrev pub greatest_composite : Flat → ℕ
greatest_composite g = word g.look (module_of g) 3

-- the manual, and the assembly at the top
abbrev pub manual_of : Flat → ℕ
manual_of g = reference g.look (module_of g) 5

abbrev pub design_root : Flat → ℕ
design_root g = reference g.look (module_of g) 6

-- what stands at the three places of an assembly
abbrev pub places : Look → ℕ → List ℕ
places look n = reference look n 2 ∷ reference look n 3 ∷ reference look n 4 ∷ []

-- the date of an assembly or of a composite part
abbrev pub date_of : Look → ℕ → ℕ
date_of look n = word look n 1

-- the document and the root part of a composite part
abbrev pub document_of : Look → ℕ → ℕ
document_of look c = reference look c 2

abbrev pub root_part : Look → ℕ → ℕ
root_part look c = reference look c 3

-- the composite part of a document
abbrev pub part_of : Look → ℕ → ℕ
part_of look d = reference look d 2

-- the date, x and y of an atomic part
abbrev pub build_date : Look → ℕ → ℕ
build_date look p = word look p 2

abbrev pub x_of : Look → ℕ → ℕ
x_of look p = word look p 3

abbrev pub y_of : Look → ℕ → ℕ
y_of look p = word look p 4

-- where the connections of an atomic part lead, in the order of its tail
abbrev pub neighbours : Look → ℕ → List ℕ
neighbours look p = map (λ (connection : ℕ). reference look connection 3) (items look p)
