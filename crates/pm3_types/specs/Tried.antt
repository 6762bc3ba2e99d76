-- Two small graphs on which the definition of the dump is tried.
use Rattle.std.specs.Prelude.{ℕ, List, [], ◌∷◌, ◌++◌, Some, codes, replicate}
use Rattle.std.specs.FinMap.{from_sorted}
use Rattle.pm3_types.specs.declared.type_map.Tail.TheVariants.{Refs, Bytes}
use Rattle.pm3_types.specs.Fields.{Fields}
use Rattle.pm3_types.specs.Record.{Record}
use Rattle.pm3_types.specs.Graph.{Part}

-- type 0 has a word and a reference and a tail of references, type 1 a reference and a tail of bytes
abbrev pub tried_catalog : List Fields
tried_catalog = record { count = 2; refs = 2; tail = Refs } ∷ record { count = 1; refs = 1; tail = Bytes } ∷ []

abbrev pub alone : Record
alone = record { ty = 1; fields = 0 ∷ []; tail = [] }

-- one object that refers to nothing
abbrev pub one_object : Part
one_object = record { records = from_sorted ((1, alone) ∷ []); roots = Some (1 ∷ replicate 15 0) }

abbrev pub one_object_text : List ℕ
one_object_text =
    codes "root 0 1\nroot 1 nil\nroot 2 nil\nroot 3 nil\nroot 4 nil\nroot 5 nil\nroot 6 nil\nroot 7 nil\n"
    ++ codes "root 8 nil\nroot 9 nil\nroot 10 nil\nroot 11 nil\nroot 12 nil\nroot 13 nil\nroot 14 nil\nroot 15 nil\n"
    ++ codes "1 1 @nil #\n"

-- objects that refer to each other and to themselves, one that two refer to, one that is not reached, and a name that is not there
abbrev pub knot_records : List (ℕ × Record)
knot_records =
    (3, alone)
    ∷ (5, record { ty = 0; fields = 42 ∷ 7 ∷ []; tail = 5 ∷ 0 ∷ 9 ∷ [] })
    ∷ (7, record { ty = 1; fields = 5 ∷ []; tail = 0 ∷ 255 ∷ [] })
    ∷ (9, record { ty = 0; fields = 0 ∷ 7 ∷ []; tail = [] }) ∷ []

abbrev pub knot : Part
knot = record { records = from_sorted knot_records; roots = Some (7 ∷ 0 ∷ 7 ∷ 4 ∷ replicate 12 0) }

abbrev pub knot_text : List ℕ
knot_text =
    codes "root 0 1\nroot 1 nil\nroot 2 1\nroot 3 nil\nroot 4 nil\nroot 5 nil\nroot 6 nil\nroot 7 nil\n"
    ++ codes "root 8 nil\nroot 9 nil\nroot 10 nil\nroot 11 nil\nroot 12 nil\nroot 13 nil\nroot 14 nil\nroot 15 nil\n"
    ++ codes "1 1 @2 #00ff\n2 0 42 @1 * @2 @nil @3\n3 0 0 @1 *\n"
