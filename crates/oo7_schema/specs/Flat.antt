-- A graph with its four trees as lists, and its reading: that form with numbers for names. In neither is a cutting of nodes.
use Rattle.std.specs.Prelude.{ℕ, zero, suc, List, [], ◌∷◌, cond, map, take, drop, Option, None, Some, unwrap_or, slice_index, option_to_list, flat_map}
use Rattle.std.specs.List.{slice_get}
use Rattle.std.specs.FinMap.{get, len}
use Rattle.pm3_types.specs.Record.{Record}
use Rattle.pm3_types.specs.Graph.{Part}
use Rattle.pm3_types.specs.Fields.{Fields, is_reference, has_refs}
use Rattle.pm3_types.specs.Numbering.{is_among, met_from, number_of}
use Rattle.oo7_schema.specs.Lookup.{Look, listed_schema, put}
use Rattle.oo7_schema.specs.Entries.{Entry, list_record, entries_at}
use Rattle.oo7_schema.specs.Nodes.{tree_entries}

-- objects by their names, and the names in the sixteen root slots
pub record Flat : Type 0 where
  pub look : Look
  pub roots : List ℕ

-- the trees of a design stand in the slots 1 to 4
abbrev pub tree_slots : List ℕ → List ℕ
tree_slots roots = take 4 (drop 1 roots)

-- an object, unless it is a leaf, an inner node or a tree
abbrev pub unless_node : Option Record → Option Record
unless_node None = None
unless_node (Some r) = cond (is_among (9 ∷ 10 ∷ 11 ∷ []) r.ty) None (Some r)

-- the objects of a graph, with the trees of its slots as lists and without nodes
abbrev pub listed : Look → List ℕ → Look
listed look roots n = cond (is_among (tree_slots roots) n) (Some (list_record (tree_entries look n))) (unless_node (look n))

abbrev pub flat : Look → List ℕ → Flat
flat look roots = record { look = listed look roots; roots = roots }

-- the entries of the tree in a slot
abbrev pub index : Flat → ℕ → List Entry
index g slot = entries_at g.look (slice_index g.roots slot)

abbrev pub with_look : Flat → Look → Flat
with_look g look = record { look = look; roots = g.roots }

-- with these entries in the tree of a slot
abbrev pub with_index : Flat → ℕ → List Entry → Flat
with_index g slot es = with_look g (put g.look (slice_index g.roots slot) (list_record es))

-- objects in order, object i under the number i + 1, and the numbers in the root slots; 0 is nil
pub record Reading : Type 0 where
  pub objects : List Record
  pub roots : List ℕ

-- the number of a name that was met, and 0 for each other
abbrev pub number : List ℕ → ℕ → ℕ
number met n = unwrap_or (number_of met n) 0

-- fields from f on, with numbers for names
abbrev pub numbered_fields : List ℕ → Fields → ℕ → List ℕ → List ℕ
numbered_fields met map f [] = []
numbered_fields met map f (v ∷ vs) = cond (is_reference map f) (number met v) v ∷ numbered_fields met map (suc f) vs

abbrev pub numbered_by : List ℕ → Option Fields → Record → Record
numbered_by met None r = r
numbered_by met (Some m) r =
    record r { fields = numbered_fields met m 0 r.fields; tail = cond (has_refs m.tail) (map (number met) r.tail) r.tail }

-- an object with numbers for names
abbrev pub numbered : List ℕ → Record → Record
numbered met r = numbered_by met (slice_get listed_schema r.ty) r

-- the objects of these names, with numbers for names
abbrev pub numbered_objects : Look → List ℕ → List ℕ → List Record
numbered_objects look met ns = map (numbered met) (flat_map (λ (n : ℕ). option_to_list (look n)) ns)

-- the reading of a graph with lists, where so many looks find all that is reached
abbrev pub reading_of : Flat → ℕ → Reading
reading_of g count =
    let met = met_from listed_schema g.look count g.roots in
    record { objects = numbered_objects g.look met met; roots = map (number met) g.roots }

-- the roots of a graph
abbrev pub roots_of : Part → List ℕ
roots_of g = unwrap_or g.roots []

abbrev pub flat_part : Part → Flat
flat_part g = flat (get g.records) (roots_of g)

-- the reading of a graph: no more objects are reached than there are
abbrev pub reading : Part → Reading
reading g = reading_of (flat_part g) (len g.records)

-- the object of a number, counted from 1
abbrev pub object_of : List Record → Look
object_of objects zero = None
object_of objects (suc k) = slice_get objects k

-- a reading as a graph with lists whose names are its numbers
abbrev pub flat_of : Reading → Flat
flat_of r = record { look = object_of r.objects; roots = r.roots }
