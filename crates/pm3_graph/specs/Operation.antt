-- What an operation does to a graph or a part of one.
use Rattle.std.specs.Prelude.{ℕ, ◌≡◌, ◌<◌, ◌^◌, ◌==◌, ◌||◌, List, [], ◌∷◌, Bool, true, false, Option, None, Some, is_some, Result, Ok, Err, slice_get, slice_index, slice_set, replicate}
use Rattle.std.specs.FinMap.{get, insert, empty}
use Rattle.pm3_types.specs.declared.type_map.Tail.TheVariants.{Empty}
use Rattle.pm3_types.specs.declared.places.Place.{Place}
use Rattle.pm3_types.specs.declared.places.Place.TheVariants as places
use Rattle.pm3_types.specs.Fields.{Fields}
use Rattle.pm3_types.specs.Record.{Record, Fits, blank}
use Rattle.pm3_types.specs.Places.{is_place, value_at, with_value}
use Rattle.pm3_types.specs.Graph.{Part}
use Rattle.pm3_graph.specs.declared.operations.Op.{Op}
use Rattle.pm3_graph.specs.declared.operations.Op.TheVariants.{New, Word, SetWord, Reference, SetReference, TailRef, SetTailRef, Byte, SetByte, Root, SetRoot}
use Rattle.pm3_graph.specs.declared.operations.PlainFault.{PlainFault}
use Rattle.pm3_graph.specs.declared.operations.PlainFault.TheVariants.{Taken, NoRecord, NoPlace}

-- the graph with this record under this name
abbrev pub with_record : Part → ℕ → Record → Part
with_record g name r = record { records = insert g.records name r; roots = g.roots }

-- the graph with this name in a root slot
abbrev pub with_root : Part → List ℕ → ℕ → ℕ → Part
with_root g names slot to = record { records = g.records; roots = Some (slice_set names slot to) }

-- an answer and the graph after the step, or why there is no step
abbrev pub Outcome : Type 0
Outcome = Result (ℕ × Part) PlainFault

-- a step where the place is there
abbrev pub step_if : Bool → ℕ → Part → Outcome
step_if true answer h = Ok (answer, h)
step_if false answer h = Err NoPlace

-- a read leaves the graph and answers the value at its place
abbrev pub read_of : List Fields → Part → ℕ → Place → Option Record → Outcome
read_of catalog g name place None = Err (NoRecord name)
read_of catalog g name place (Some r) = step_if (is_place catalog r place) (value_at r place) g

-- a write changes that one place and answers 0
abbrev pub write_of : List Fields → Part → ℕ → Place → ℕ → Option Record → Outcome
write_of catalog g name place v None = Err (NoRecord name)
write_of catalog g name place v (Some r) = step_if (is_place catalog r place) 0 (with_record g name (with_value r place v))

-- a new record of zeros, where its type is in the catalog
abbrev pub new_of : Part → ℕ → ℕ → ℕ → Option Fields → Outcome
new_of g name ty tail None = Err NoPlace
new_of g name ty tail (Some map) = Ok (0, with_record g name (blank map ty tail))

abbrev pub unless_taken : Bool → ℕ → Outcome → Outcome
unless_taken true name outcome = Err (Taken name)
unless_taken false name outcome = outcome

-- the roots are read and written where the part has them
abbrev pub root_of : Part → ℕ → Option (List ℕ) → Outcome
root_of g slot None = Err NoPlace
root_of g slot (Some names) = Ok (slice_index names slot, g)

abbrev pub set_root_of : Part → ℕ → ℕ → Option (List ℕ) → Outcome
set_root_of g slot to None = Err NoPlace
set_root_of g slot to (Some names) = Ok (0, with_root g names slot to)

-- what the operation does to the part g
abbrev pub outcome : List Fields → Op → Part → Outcome
outcome catalog (New name ty tail) g = unless_taken (name == 0 || is_some (get g.records name)) name (new_of g name ty tail (slice_get catalog ty))
outcome catalog (Word name f) g = read_of catalog g name (places.Word f) (get g.records name)
outcome catalog (SetWord name f v) g = write_of catalog g name (places.Word f) v (get g.records name)
outcome catalog (Reference name f) g = read_of catalog g name (places.Reference f) (get g.records name)
outcome catalog (SetReference name f to) g = write_of catalog g name (places.Reference f) to (get g.records name)
outcome catalog (TailRef name k) g = read_of catalog g name (places.TailRef k) (get g.records name)
outcome catalog (SetTailRef name k to) g = write_of catalog g name (places.TailRef k) to (get g.records name)
outcome catalog (Byte name k) g = read_of catalog g name (places.Byte k) (get g.records name)
outcome catalog (SetByte name k v) g = write_of catalog g name (places.Byte k) v (get g.records name)
outcome catalog (Root slot) g = root_of g slot g.roots
outcome catalog (SetRoot slot to) g = set_root_of g slot to g.roots

-- the operation is a step from g to h with this answer
abbrev pub IsStep : List Fields → Op → Part → ℕ → Part → Type 0
IsStep catalog op g answer h = outcome catalog op g ≡ Ok (answer, h)

-- the operations with their answers are steps from g to h, each from the graph before it
abbrev pub IsRun : List Fields → List (Op × ℕ) → Part → Part → Type 0
IsRun catalog [] g h = h ≡ g
IsRun catalog (e ∷ es) g h = (m : Part) × IsStep catalog e.0 g e.1 m × IsRun catalog es m h

-- a name that the operation makes is not in g
abbrev pub IsNewTo : Part → Op → Type 0
IsNewTo g (New name ty tail) = get g.records name ≡ None
IsNewTo g op = Unit {0}

-- the operation takes memory, as a new record alone does
abbrev pub TakesMemory : Op → Type 0
TakesMemory (New name ty tail) = Unit {0}
TakesMemory op = ⊥

-- the tail that a new record of a type may have
abbrev pub IsTailOf : Option Fields → ℕ → Type 0
IsTailOf None tail = Unit {0}
IsTailOf (Some map) tail = map.tail ≡ Empty → tail ≡ 0

-- what a caller owes: names below 2^62, a byte below 256, no tail where the type has none, a slot below 16
abbrev pub IsAllowed : List Fields → Op → Type 0
IsAllowed catalog (New name ty tail) = (name < 2 ^ 62) × IsTailOf (slice_get catalog ty) tail
IsAllowed catalog (Word name f) = name < 2 ^ 62
IsAllowed catalog (SetWord name f v) = name < 2 ^ 62
IsAllowed catalog (Reference name f) = name < 2 ^ 62
IsAllowed catalog (SetReference name f to) = (name < 2 ^ 62) × (to < 2 ^ 62)
IsAllowed catalog (TailRef name k) = name < 2 ^ 62
IsAllowed catalog (SetTailRef name k to) = (name < 2 ^ 62) × (to < 2 ^ 62)
IsAllowed catalog (Byte name k) = name < 2 ^ 62
IsAllowed catalog (SetByte name k v) = (name < 2 ^ 62) × (v < 256)
IsAllowed catalog (Root slot) = slot < 16
IsAllowed catalog (SetRoot slot to) = (slot < 16) × (to < 2 ^ 62)

-- a graph without records, whose roots are nil
abbrev pub empty_graph : Part
empty_graph = record { records = empty; roots = Some (replicate 16 0) }

-- each record fits the catalog
abbrev pub AllFit : List Fields → Part → Type 0
AllFit catalog g = (n : ℕ) (r : Record) → get g.records n ≡ Some r → Fits catalog r
