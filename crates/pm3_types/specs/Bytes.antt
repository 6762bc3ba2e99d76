-- Bytes of files: numbers and zeros at an offset, and the fields of a form with the first that departs.
use Rattle.std.specs.Prelude.{ℕ, ◌+◌, ◌==◌, ◌&&◌, Bool, true, false, nat_le, List, [], ◌∷◌, length, take, drop, Option, None, Some}
use Rattle.std.specs.Int.{Width, byte_len, from_le_bytes}
use Rattle.std.specs.List.{list_all}
use Rattle.std.specs.Option.{option_or}

-- n bytes from an offset on
abbrev pub piece : ℕ → ℕ → List ℕ → List ℕ
piece at n bytes = take n (drop at bytes)

-- all bytes are zero
abbrev pub is_zero : List ℕ → Bool
is_zero bytes = list_all (λ b. b == 0) bytes

-- the number of one, two, four or eight bytes from an offset on, the lowest byte first
unfoldable pub number_at : Width → ℕ → List ℕ → ℕ
number_at w at bytes = from_le_bytes w (drop at bytes)

-- a field of a form at an offset: a number of a width, between two bounds, or so many zero bytes
pub data Field : Type 0 where
  Number : ℕ → Width → ℕ → ℕ → Field
  Zeros : ℕ → ℕ → Field

abbrev pub offset_of : Field → ℕ
offset_of (Number at w least most) = at
offset_of (Zeros at n) = at

-- the byte behind a field
abbrev pub end_of : Field → ℕ
end_of (Number at w least most) = at + byte_len w
end_of (Zeros at n) = at + n

-- the bytes of a number are there, and it is between its bounds
unfoldable pub is_between : ℕ → Width → ℕ → ℕ → List ℕ → Bool
is_between at w least most bytes =
    nat_le (at + byte_len w) (length bytes) && (nat_le least (number_at w at bytes) && nat_le (number_at w at bytes) most)

-- so many bytes are there, and are zero
unfoldable pub are_zeros : ℕ → ℕ → List ℕ → Bool
are_zeros at n bytes = nat_le (at + n) (length bytes) && is_zero (piece at n bytes)

-- the bytes have the field as the form says
abbrev pub has_field : List ℕ → Field → Bool
has_field bytes (Number at w least most) = is_between at w least most bytes
has_field bytes (Zeros at n) = are_zeros at n bytes

-- a field that begins at this byte departs, unless it is good
abbrev pub unless : Bool → ℕ → Option ℕ
unless true at = None
unless false at = Some at

-- the offset of the first of these fields that departs
abbrev pub first_departure : List Field → List ℕ → Option ℕ
first_departure [] bytes = None
first_departure (field ∷ fields) bytes = option_or (unless (has_field bytes field) (offset_of field)) (first_departure fields bytes)
