-- Where the places of an object lie in the words of its page.
use Rattle.std.specs.Prelude.{ℕ, ◌+◌, ◌/◌, ◌%◌, ◌<◌, ◌&&◌, Bool, true, false, nat_lt, List, Option, None, Some, slice_index, slice_set}
use Rattle.std.specs.Option.{option_map}
use Rattle.std.specs.Int.{to_le_bytes, from_le_bytes, w64}
use Rattle.pm3_types.specs.Fields.{Fields, is_reference, has_refs, has_bytes}
use Rattle.pm3_types.specs.Layout.{Sheet, PageImage, with_word_at}
use Rattle.pm3_types.specs.PageForm.{map_at, tail_at}
use Rattle.pm3_access.specs.declared.places.Place.{Place}
use Rattle.pm3_access.specs.declared.places.Place.TheVariants.{Field, Tail, Byte}
use Rattle.pm3_access.specs.declared.spots.Spot.{Spot}
use Rattle.pm3_access.specs.declared.spots.Spot.TheVariants.{Word, ByteOf}

abbrev pub spot_if : Bool → Spot → Option Spot
spot_if true spot = Some spot
spot_if false spot = None

-- the place in the body of an object with this map and a tail of this length, or nothing where there is none
abbrev pub spot_by : Fields → ℕ → Place → Option Spot
spot_by map len (Field f) = spot_if (nat_lt f map.count) (Word f)
spot_by map len (Tail k) = spot_if (has_refs map.tail && nat_lt k len) (Word (map.count + k))
spot_by map len (Byte k) = spot_if (has_bytes map.tail && nat_lt k len) (ByteOf (map.count + k / 8) (k % 8))

-- addresses stand at this place of an object with this map, and names at that place of its record
abbrev pub has_names : Fields → Place → Bool
has_names map (Field f) = is_reference map f
has_names map (Tail k) = has_refs map.tail
has_names map (Byte k) = false

abbrev pub spot_in : Option Fields → ℕ → Place → Option Spot
spot_in None len place = None
spot_in (Some map) len place = spot_by map len place

-- the same of the object at a word of a page
abbrev pub spot_at : List Fields → Sheet → ℕ → Place → Option Spot
spot_at catalog sheet at place = spot_in (map_at catalog sheet at) (tail_at sheet at) place

-- the word of the body
abbrev pub word_of : Spot → ℕ
word_of (Word k) = k
word_of (ByteOf k j) = k

abbrev pub IsByteOfWord : Spot → Type 0
IsByteOfWord (Word k) = Unit {0}
IsByteOfWord (ByteOf k j) = j < 8

-- a byte of a word, the lowest first, and the word with another
unfoldable pub byte_of : ℕ → ℕ → ℕ
byte_of word j = slice_index (to_le_bytes w64 word) j

unfoldable pub with_byte : ℕ → ℕ → ℕ → ℕ
with_byte word j v = from_le_bytes w64 (slice_set (to_le_bytes w64 word) j v)

-- what stands in the spot of the object at a word
abbrev pub value_in : List ℕ → ℕ → Spot → ℕ
value_in words at (Word k) = slice_index words (at + 2 + k)
value_in words at (ByteOf k j) = byte_of (slice_index words (at + 2 + k)) j

-- the image with this value there
abbrev pub with_value_in : PageImage → ℕ → Spot → ℕ → PageImage
with_value_in image at (Word k) v = with_word_at image (at + 2 + k) v
with_value_in image at (ByteOf k j) v = with_word_at image (at + 2 + k) (with_byte (slice_index image.sheet.words (at + 2 + k)) j v)

-- the value at a place of the object at a word, or nothing where there is no such place
abbrev pub value_at_place : List Fields → PageImage → ℕ → Place → Option ℕ
value_at_place catalog image at place = option_map (value_in image.sheet.words at) (spot_at catalog image.sheet at place)

-- the image with this value at that place, or nothing where there is no such place
abbrev pub with_value_at_place : List Fields → PageImage → ℕ → Place → ℕ → Option PageImage
with_value_at_place catalog image at place v = option_map (λ spot. with_value_in image at spot v) (spot_at catalog image.sheet at place)

-- a value that may stand at the place
abbrev pub IsValueFor : Place → ℕ → Type 0
IsValueFor (Field f) v = Unit {0}
IsValueFor (Tail k) v = Unit {0}
IsValueFor (Byte k) v = v < 256
