-- Type maps: which places the records of a type have.
use Rattle.std.specs.Prelude.{ℕ, ◌^◌, ◌<◌, ◌≤◌, ◌/◌, ◌%◌, ◌==◌, ◌&&◌, Bool, true, false, not, nat_lt}
use Rattle.pm3_types.specs.declared.type_map.Tail.{Tail}
use Rattle.pm3_types.specs.declared.type_map.Tail.TheVariants.{Empty, Refs, Bytes}

-- a number of fields, the set of those that are references as a mask, and a tail
pub record Fields : Type 0 where
  pub count : ℕ
  pub refs : ℕ
  pub tail : Tail

-- at most 32 fields, and no reference past them
abbrev pub IsTypeMap : ℕ → ℕ → Type 0
IsTypeMap count refs = (count ≤ 32) × (refs < 2 ^ count)

-- a type without a place
abbrev pub no_places : Fields
no_places = record { count = 0; refs = 0; tail = Empty }

-- bit f of the mask is set: field f is a reference
unfoldable pub is_reference : Fields → ℕ → Bool
is_reference map f = map.refs / 2 ^ f % 2 == 1

-- field f is there and is no reference
abbrev pub is_word_field : Fields → ℕ → Bool
is_word_field map f = nat_lt f map.count && not (is_reference map f)

-- the tail has references, or bytes
abbrev pub has_refs : Tail → Bool
has_refs Empty = false
has_refs Refs = true
has_refs Bytes = false

abbrev pub has_bytes : Tail → Bool
has_bytes Empty = false
has_bytes Refs = false
has_bytes Bytes = true

-- the byte that stands for a tail in a file
abbrev pub tail_code : Tail → ℕ
tail_code Empty = 0
tail_code Refs = 1
tail_code Bytes = 2
