-- The bytes of page 1 as a function of the catalog's maps.
use Rattle.std.specs.Prelude.{ℕ, ◌-◌, List, [], ◌∷◌, ◌++◌, length, replicate}
use Rattle.std.specs.Int.{w32, to_le_bytes}
use Rattle.pm3_types.specs.Fields.{Fields, tail_code}

-- so many zero bytes
unfoldable pub zeros : ℕ → List ℕ
zeros n = replicate n 0

-- the bytes, and zeros up to n bytes in all
unfoldable pub padded : ℕ → List ℕ → List ℕ
padded n bytes = bytes ++ zeros (n - length bytes)

-- the eight bytes of a type: its number of fields, its tail, two zeros, its mask
abbrev pub map_bytes : Fields → List ℕ
map_bytes map = map.count ∷ tail_code map.tail ∷ 0 ∷ 0 ∷ to_le_bytes w32 map.refs

abbrev pub maps_bytes : List Fields → List ℕ
maps_bytes [] = []
maps_bytes (map ∷ maps) = map_bytes map ++ maps_bytes maps

-- the first eight bytes: the number of types and four zeros
abbrev pub catalog_head : ℕ → List ℕ
catalog_head n = to_le_bytes w32 n ++ (0 ∷ 0 ∷ 0 ∷ 0 ∷ [])

-- page 1: the head, the types in order, and zeros to the end
abbrev pub catalog_page : List Fields → List ℕ
catalog_page maps = padded 4096 (catalog_head (length maps) ++ maps_bytes maps)
