-- The twelve classes of OO7, by their names.
use Rattle.std.specs.Prelude.{ℕ, List, [], ◌∷◌}
use Rattle.pm3_types.specs.Fields.{Fields}
use Rattle.pm3_types.specs.declared.type_map.Tail.{Tail}
use Rattle.pm3_types.specs.declared.type_map.Tail.TheVariants.{Empty, Refs, Bytes}

-- a class with so many fields, these of them references, and this tail
abbrev pub class : ℕ → ℕ → Tail → Fields
class count refs tail = record { count = count; refs = refs; tail = tail }

abbrev pub Module : Fields
Module = class 7 0x60 Empty

abbrev pub Manual : Fields
Manual = class 3 0x06 Empty

abbrev pub Complex : Fields
Complex = class 5 0x1c Empty

abbrev pub Base : Fields
Base = class 5 0x1c Empty

abbrev pub Composite : Fields
Composite = class 4 0x0c Refs

abbrev pub Document : Fields
Document = class 4 0x0c Empty

abbrev pub Atomic : Fields
Atomic = class 6 0x20 Refs

abbrev pub Connection : Fields
Connection = class 4 0x0c Empty

abbrev pub Chunk : Fields
Chunk = class 1 0x01 Bytes

abbrev pub Leaf : Fields
Leaf = class 32 0xfffe_0002 Empty

abbrev pub Inner : Fields
Inner = class 32 0xffff_0000 Empty

abbrev pub Tree : Fields
Tree = class 3 0x04 Empty

-- the catalog: each class at its number, from 0
abbrev pub schema : List Fields
schema =
    Module ∷ Manual ∷ Complex ∷ Base ∷ Composite ∷ Document
    ∷ Atomic ∷ Connection ∷ Chunk ∷ Leaf ∷ Inner ∷ Tree ∷ []
