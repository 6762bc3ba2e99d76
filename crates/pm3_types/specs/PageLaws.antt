-- Laws of the bytes of page 1.
use Rattle.std.specs.Prelude.{◌≡◌, ◌≢◌, ◌+◌, ◌-◌, ◌*◌, ◌%◌, ◌≤◌, ℕ, nat_lt, if◌then◌else◌, List, [], ◌∷◌, length, take, None, Some}
use Rattle.std.specs.Int.{w32}
use Rattle.pm3_types.specs.Bytes.{number_at}
use Rattle.pm3_types.specs.Fields.{Fields, IsTypeMap}
use Rattle.pm3_types.specs.PageOne.{catalog_page}
use Rattle.pm3_types.specs.CatalogForm.{departure}

abbrev pub AreTypeMaps : List Fields → Type 0
AreTypeMaps [] = Unit {0}
AreTypeMaps (map ∷ maps) = IsTypeMap map.count map.refs × AreTypeMaps maps

-- what a catalog can be
abbrev pub IsCatalog : List Fields → Type 0
IsCatalog maps = (length maps ≤ 256) × AreTypeMaps maps

-- the page of a catalog has the form
abbrev pub PageHasForm : Type 0
PageHasForm = (maps : List Fields) → IsCatalog maps → departure (catalog_page maps) ≡ None

-- a page is that of one catalog
abbrev pub OneCatalog : Type 0
OneCatalog = (maps others : List Fields) → IsCatalog maps → IsCatalog others → catalog_page maps ≡ catalog_page others → maps ≡ others

-- the byte behind a field of a type, from the field's place in the eight bytes: number of fields, tail, two zeros, mask
abbrev pub behind_type_field : ℕ → ℕ
behind_type_field at = if nat_lt at 2 then at + 1 else (if nat_lt at 4 then 4 else 8)

-- the byte behind the field of page 1 that begins at this byte, where there are so many types
abbrev pub behind_field : ℕ → ℕ → ℕ
behind_field types at =
    if nat_lt at 4 then 4 else (if nat_lt at 8 then 8 else (if nat_lt at (8 + 8 * types) then at - at % 8 + behind_type_field (at % 8) else 4096))

-- Where a field is named as the first that departs, nothing behind it can mend the page: no catalog's page has the same bytes
-- up to that field's end.
abbrev pub DepartureStands : Type 0
DepartureStands = (bytes : List ℕ) (at : ℕ) (maps : List Fields) → length bytes ≡ 4096 → departure bytes ≡ Some at → IsCatalog maps
    → let until = behind_field (number_at w32 0 bytes) at in take until (catalog_page maps) ≢ take until bytes
