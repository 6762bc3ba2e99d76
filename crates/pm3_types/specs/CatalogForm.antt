-- Where the bytes of page 1 depart from the form of a catalog.
use Rattle.std.specs.Prelude.{ℕ, ◌+◌, ◌^◌, ◌==◌, ◌&&◌, ◌≡◌, zero, suc, List, take, drop, nat_le, nat_lt, Option, Some, slice_index}
use Rattle.std.specs.Int.{w32}
use Rattle.std.specs.Option.{option_or}
use Rattle.pm3_types.specs.Bytes.{is_zero, number_at, unless}
use Rattle.pm3_types.specs.declared.catalogs.CatalogFault.{CatalogFault}
use Rattle.pm3_types.specs.declared.catalogs.CatalogFault.TheVariants.{Damaged, Memory}

-- in the eight bytes of a type: the number of fields, the tail, two zeros, and the mask, with no bit past the fields
abbrev pub map_departure : ℕ → List ℕ → Option ℕ
map_departure at entry =
    option_or (unless (nat_le (slice_index entry 0) 32) at)
    (option_or (unless (nat_le (slice_index entry 1) 2) (at + 1))
    (option_or (unless (slice_index entry 2 == 0 && slice_index entry 3 == 0) (at + 2))
    (unless (nat_lt (number_at w32 4 entry) (2 ^ slice_index entry 0)) (at + 4))))

-- in the bytes from this one on: so many types, and zeros to the end
abbrev pub maps_departure : ℕ → ℕ → List ℕ → Option ℕ
maps_departure zero at bytes = unless (is_zero bytes) at
maps_departure (suc n) at bytes = option_or (map_departure at (take 8 bytes)) (maps_departure n (at + 8) (drop 8 bytes))

-- in the first eight bytes: the number of types, and four zeros
abbrev pub head_departure : List ℕ → Option ℕ
head_departure head = option_or (unless (nat_le (number_at w32 0 head) 256) 0) (unless (is_zero (drop 4 head)) 4)

abbrev pub departure_by : List ℕ → List ℕ → Option ℕ
departure_by head rest = option_or (head_departure head) (maps_departure (number_at w32 0 head) 8 rest)

-- the first byte of the first field of page 1 that departs from the form, if one does
abbrev pub departure : List ℕ → Option ℕ
departure bytes = departure_by (take 8 bytes) (drop 8 bytes)

-- a page is damaged at its first departure, and memory is never wanted
abbrev pub IsCauseOf : Option ℕ → CatalogFault → Type 0
IsCauseOf departure (Damaged offset) = departure ≡ Some offset
IsCauseOf departure Memory = ⊥
