-- Where the bytes of page 0 depart from the form of a head.
use Rattle.std.specs.Prelude.{◌≡◌, ℕ, ◌-◌, ◌^◌, List, [], ◌∷◌, codes, Option, None, Some, Result, Ok, Err}
use Rattle.std.specs.Int.{w32, w64, from_le_bytes}
use Rattle.pm3_types.specs.Bytes.{Field, first_departure, number_at}
use Rattle.pm3_types.specs.Bytes.Field.{Number, Zeros}
use Rattle.pm3_page.specs.declared.marks.Marks.{Marks}
use Rattle.pm3_page.specs.Head.{head_page}
use Rattle.pm3_pagefile.specs.declared.faults.MarksFault.{MarksFault}
use Rattle.pm3_pagefile.specs.declared.faults.MarksFault.TheVariants.{PageFault, Damaged}

-- the text PM3PAGES, as a number
abbrev pub kind : ℕ
kind = from_le_bytes w64 (codes "PM3PAGES")

-- What the file is, its version, the number of pages, the high page, four zeros, the next name, the next sequence
-- number, and zeros to the end. The number of pages has bounds of its own, and the high page is at most that number.
abbrev pub head_fields : ℕ → ℕ → ℕ → List Field
head_fields least most pages =
    Number 0 w64 kind kind ∷ Number 8 w32 1 1 ∷ Number 12 w32 least most ∷ Number 16 w32 3 pages ∷ Number 20 w32 0 0 ∷ Number 24 w64 1 (2 ^ 62)
    ∷ Number 32 w64 1 (2 ^ 64 - 1) ∷ Zeros 40 4056 ∷ []

-- the first byte of the first field of page 0 that departs from the form, if one does, in a store of so many pages
abbrev pub head_departure_in : ℕ → ℕ → List ℕ → Option ℕ
head_departure_in least most bytes = first_departure (head_fields least most (number_at w32 12 bytes)) bytes

-- the same in a store of any size
abbrev pub head_departure : List ℕ → Option ℕ
head_departure bytes = head_departure_in 16 16384 bytes

-- the bytes were read as these marks, or named by their first departure
abbrev pub AreReadIn : ℕ → ℕ → List ℕ → Result Marks MarksFault → Type 0
AreReadIn least most bytes (Ok marks) = (head_departure_in least most bytes ≡ None) × (bytes ≡ head_page marks)
AreReadIn least most bytes (Err PageFault) = Unit {0}
AreReadIn least most bytes (Err (Damaged offset)) = head_departure_in least most bytes ≡ Some offset

abbrev pub AreRead : List ℕ → Result Marks MarksFault → Type 0
AreRead bytes result = AreReadIn 16 16384 bytes result
