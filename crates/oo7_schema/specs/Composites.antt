-- A composite part as it is made: its objects, under names that were drawn, by numbers that were drawn.
use Rattle.std.specs.Prelude.{ℕ, zero, suc, ◌+◌, ◌-◌, ◌*◌, ◌%◌, ◌==◌, List, [], ◌∷◌, ◌++◌, cond, map, take, drop, replicate, slice_index, flat_map}
use Rattle.std.specs.List.{concat, range_with_len}
use Rattle.pm3_types.specs.Record.{Record}
use Rattle.oo7_schema.specs.declared.sizes.Params.{Params}
use Rattle.oo7_schema.specs.Texts.{repeated, document_line, chunk_count, chunk_objects}

-- the bounds of the draws of a part's connections: type and length, and before them, but for the first connection, the target
abbrev pub connection_bounds : Params → List ℕ
connection_bounds p = 10 ∷ 1000 ∷ concat (replicate (p.connections - 1) (p.atomics ∷ 10 ∷ 1000 ∷ []))

-- the bounds of all draws of a composite part: two for its date; type, date, x and y of each atomic part; the connections
abbrev pub composite_bounds : Params → List ℕ
composite_bounds p =
    10 ∷ 1000
    ∷ concat (replicate p.atomics (10 ∷ 1000 ∷ 100000 ∷ 100000 ∷ [])) ++ concat (replicate p.atomics (connection_bounds p))

-- how many objects a composite part has
abbrev pub objects_in : Params → ℕ
objects_in p = 2 + p.atomics + p.atomics * p.connections + chunk_count p.document

-- of the names: those of the atomic parts, of the connections of part a, counted from 0, and of the document's chunks
abbrev pub part_names : Params → List ℕ → List ℕ
part_names p names = take p.atomics (drop 2 names)

abbrev pub connection_names : Params → List ℕ → ℕ → List ℕ
connection_names p names a = take p.connections (drop (2 + p.atomics + a * p.connections) names)

abbrev pub chunk_names : Params → List ℕ → List ℕ
chunk_names p names = take (chunk_count p.document) (drop (2 + p.atomics + p.atomics * p.connections) names)

-- of the numbers: those of part a, and those of its connection m
abbrev pub part_draws : List ℕ → ℕ → List ℕ
part_draws nums a = drop (2 + 4 * a) nums

abbrev pub connection_draws : Params → List ℕ → ℕ → ℕ → List ℕ
connection_draws p nums a m = drop (2 + 4 * p.atomics + a * (3 * p.connections - 1) + (3 * m - 1)) nums

-- composite part k
abbrev pub composite_object : Params → ℕ → List ℕ → List ℕ → ℕ × Record
composite_object p k names nums =
    let date = cond (slice_index nums 0 == 0) (2000 + slice_index nums 1) (slice_index nums 1) in
    (slice_index names 0, record { ty = 4; fields = k ∷ date ∷ slice_index names 1 ∷ slice_index names 2 ∷ []; tail = part_names p names })

-- its document
abbrev pub document_object : Params → ℕ → List ℕ → ℕ × Record
document_object p k names =
    (slice_index names 1, record { ty = 5; fields = k ∷ p.document ∷ slice_index names 0 ∷ slice_index (chunk_names p names) 0 ∷ []; tail = [] })

-- the id of its atomic part a, counted from 0
abbrev pub part_id : Params → ℕ → ℕ → ℕ
part_id p k a = (k - 1) * p.atomics + a + 1

abbrev pub part_object : Params → ℕ → List ℕ → List ℕ → ℕ → ℕ × Record
part_object p k names nums a =
    let draws = part_draws nums a in (
      slice_index (part_names p names) a,
      record {
        ty = 6;
        fields = part_id p k a ∷ slice_index draws 0 ∷ (1000 + slice_index draws 1) ∷ slice_index draws 2 ∷ slice_index draws 3 ∷ slice_index names 0 ∷ [];
        tail = connection_names p names a;
      },
    )

-- a connection's type, length and ends
abbrev pub connection_record : ℕ → ℕ → ℕ → ℕ → Record
connection_record type long from to = record { ty = 7; fields = type ∷ long ∷ from ∷ to ∷ []; tail = [] }

-- connection m of part a: the first leads to the next part, in a circle, and each other one to a drawn part
abbrev pub connection_by : List ℕ → ℕ → ℕ → ℕ → List ℕ → Record
connection_by parts atomics a zero draws =
    connection_record (slice_index draws 0) (slice_index draws 1) (slice_index parts a) (slice_index parts ((a + 1) % atomics))
connection_by parts atomics a (suc m) draws =
    connection_record (slice_index draws 1) (slice_index draws 2) (slice_index parts a) (slice_index parts (slice_index draws 0))

abbrev pub connection_objects : Params → List ℕ → List ℕ → ℕ → List (ℕ × Record)
connection_objects p names nums a =
    map (λ (m : ℕ). (slice_index (connection_names p names a) m, connection_by (part_names p names) p.atomics a m (connection_draws p nums a m)))
    (range_with_len 0 p.connections)

-- all objects of composite part k, under these names, by these numbers
abbrev pub composite_objects : Params → ℕ → List ℕ → List ℕ → List (ℕ × Record)
composite_objects p k names nums =
    composite_object p k names nums ∷ document_object p k names
    ∷ map (part_object p k names nums) (range_with_len 0 p.atomics)
    ++ flat_map (connection_objects p names nums) (range_with_len 0 p.atomics)
    ++ chunk_objects (chunk_names p names) (repeated (document_line k) p.document)
