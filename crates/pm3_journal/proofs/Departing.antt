-- What it says that no field of a form departs.
use Rattle.std.proofs.Common.{◌≡◌, ◌+◌, ◌≤◌, ℕ, Bool, true, false, List, ◌∷◌, length, Option, None, refl, nat_le}
use Rattle.std.proofs.lemmas.Bool.{and_parts, leb-true}
use Rattle.std.specs.Option.{option_or}
use Rattle.pm3_types.specs.Bytes.{Field, piece, is_zero, are_zeros, has_field, unless, offset_of, first_departure}

-- zeros that are there lie within the bytes
pub zeros_within : (at n : ℕ) (bytes : List ℕ) → are_zeros at n bytes ≡ true → at + n ≤ length bytes
unfolding are_zeros
zeros_within at n bytes is = leb-true _ _ ((and_parts (nat_le (at + n) (length bytes)) (is_zero (piece at n bytes)) is).0)

parted : (b : Bool) (at : ℕ) (rest : Option ℕ) → option_or (unless b at) rest ≡ None → (b ≡ true) × (rest ≡ None)
parted true at rest is = (refl, is)
parted false at rest is = absurd (cc is)

-- the first field doesn't depart, nor one behind it
pub fields_fine : (field : Field) (fields : List Field) (bytes : List ℕ) → first_departure (field ∷ fields) bytes ≡ None
    → (has_field bytes field ≡ true) × (first_departure fields bytes ≡ None)
fields_fine field fields bytes is = parted (has_field bytes field) (offset_of field) (first_departure fields bytes) is
