-- Where page 1 of a file departs from the form of a catalog, also where the file ends within the page.
use Rattle.std.specs.Prelude.{◌≡◌, ℕ, ◌+◌, ◌-◌, ◌*◌, ◌%◌, min, nat_lt, cond, List, length, Option, None, Some, Result, Ok, Err}
use Rattle.std.specs.Int.{w32}
use Rattle.pm3_types.specs.Bytes.{number_at}
use Rattle.pm3_types.specs.Fields.{Fields}
use Rattle.pm3_types.specs.PageOne.{catalog_page, padded}
use Rattle.pm3_types.specs.CatalogForm.{departure}
use Rattle.pm3_pagefile.specs.declared.faults.CatalogReadFault.{CatalogReadFault}
use Rattle.pm3_pagefile.specs.declared.faults.CatalogReadFault.TheVariants.{PageFault, Damaged, Memory}

-- in the eight bytes of a type, the first byte of the field that has this byte: the number of fields, the tail, two zeros
-- or the mask
abbrev pub type_field : ℕ → ℕ
type_field at = cond (nat_lt at 2) at (cond (nat_lt at 4) 2 4)

-- the same in page 1 with so many types: the number of types, four zeros, the types, and the zeros to the end
unfoldable pub catalog_field : ℕ → ℕ → ℕ
catalog_field types at =
    cond (nat_lt at 8) (cond (nat_lt at 4) 0 4) (cond (nat_lt at (8 + 8 * types)) (at - at % 8 + type_field (at % 8)) (8 + 8 * types))

-- the earlier of a departure and a field
abbrev pub no_later : Option ℕ → ℕ → ℕ
no_later None at = at
no_later (Some offset) at = min offset at

-- the number of types that page 1 gives
abbrev pub types_in : List ℕ → ℕ
types_in bytes = number_at w32 0 bytes

-- of a page that the file has only in part, the first field that departs in what is there, or the first that isn't whole
abbrev pub part_departure : List ℕ → ℕ
part_departure bytes = no_later (departure (padded 4096 bytes)) (catalog_field (types_in (padded 4096 bytes)) (length bytes))

-- the first byte of the first field that departs from the form, if one does
abbrev pub page_departure : List ℕ → Option ℕ
page_departure bytes = cond (nat_lt (length bytes) 4096) (Some (part_departure bytes)) (departure bytes)

-- the bytes were read as this catalog, or named by their first departure, at its place in the file
abbrev pub IsReadAs : List ℕ → Result (List Fields) CatalogReadFault → Type 0
IsReadAs bytes (Ok catalog) = (page_departure bytes ≡ None) × (bytes ≡ catalog_page catalog)
IsReadAs bytes (Err PageFault) = Unit {0}
IsReadAs bytes (Err (Damaged offset)) = (at : ℕ) × (page_departure bytes ≡ Some at) × (offset ≡ 4096 + at)
IsReadAs bytes (Err Memory) = Unit {0}
