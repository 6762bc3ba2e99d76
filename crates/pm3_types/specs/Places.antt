-- The places of a record, and what stands in them.
use Rattle.std.specs.Prelude.{ℕ, ◌≡◌, ◌&&◌, List, length, Bool, true, false, not, nat_lt, Option, None, Some, IsTrue, slice_get, slice_index, slice_set}
use Rattle.pm3_types.specs.Fields.{Fields, is_reference, has_refs, has_bytes}
use Rattle.pm3_types.specs.Record.{Record}
use Rattle.pm3_types.specs.declared.places.Place.{Place}
use Rattle.pm3_types.specs.declared.places.Place.TheVariants.{Word, Reference, TailRef, Byte}

-- a record of a type with this map has the place
abbrev pub is_place_of : Fields → Record → Place → Bool
is_place_of map r (Word f) = nat_lt f (length r.fields) && not (is_reference map f)
is_place_of map r (Reference f) = nat_lt f (length r.fields) && is_reference map f
is_place_of map r (TailRef k) = has_refs map.tail && nat_lt k (length r.tail)
is_place_of map r (Byte k) = has_bytes map.tail && nat_lt k (length r.tail)

-- a record of a type that is not there has no place
abbrev pub is_place_by : Option Fields → Record → Place → Bool
is_place_by None r place = false
is_place_by (Some map) r place = is_place_of map r place

-- the record has the place under this catalog
abbrev pub is_place : List Fields → Record → Place → Bool
is_place catalog r place = is_place_by (slice_get catalog r.ty) r place

-- what stands in a place: a word, a name or a byte
abbrev pub value_at : Record → Place → ℕ
value_at r (Word f) = slice_index r.fields f
value_at r (Reference f) = slice_index r.fields f
value_at r (TailRef k) = slice_index r.tail k
value_at r (Byte k) = slice_index r.tail k

abbrev pub with_field : Record → ℕ → ℕ → Record
with_field r f v = record { ty = r.ty; fields = slice_set r.fields f v; tail = r.tail }

abbrev pub with_item : Record → ℕ → ℕ → Record
with_item r k v = record { ty = r.ty; fields = r.fields; tail = slice_set r.tail k v }

-- the record with this value in one place
abbrev pub with_value : Record → Place → ℕ → Record
with_value r (Word f) v = with_field r f v
with_value r (Reference f) v = with_field r f v
with_value r (TailRef k) v = with_item r k v
with_value r (Byte k) v = with_item r k v

-- names stand in this place
abbrev pub is_for_names : Place → Bool
is_for_names (Word f) = false
is_for_names (Reference f) = true
is_for_names (TailRef k) = true
is_for_names (Byte k) = false

-- the name n stands in a reference place of the record
pub record Refers (catalog : List Fields) (r : Record) (n : ℕ) : Type 0 where
  pub place : Place
  pub there : IsTrue (is_place catalog r place)
  pub for_names : IsTrue (is_for_names place)
  pub value : value_at r place ≡ n
