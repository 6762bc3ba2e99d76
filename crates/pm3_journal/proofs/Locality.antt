-- What is read depends on the bytes read.
use Rattle.std.proofs.Common.{◌≡◌, ◌+◌, ◌*◌, ◌-◌, ◌≤◌, ℕ, suc, zero, List, length, take, refl, sym, ◌∙◌, ap, arith, subst}
use Rattle.std.specs.Int.{w32}
use Rattle.pm3_journal.specs.Format.{JournalRecord, Image, record_size}
use Rattle.pm3_types.specs.Bytes.{number_at, piece}
use Rattle.pm3_journal.specs.Reading.{State, Found, Parts, with_part, parts_at, record_at}
use Rattle.pm3_journal.specs.RecordFront.{number_of, front_departure, part_departure, record_with}
use Rattle.pm3_journal.proofs.Pieces.{piece_same, HasRead, IsStanding, has_read, reads_so, size_is}

pub parts_same : (n pages last at end : ℕ) (c old : List ℕ) → take end c ≡ take end old → at + 4104 * n ≤ end → parts_at n pages last at c ≡ parts_at n pages last at old
parts_same zero pages last at end c old same le = refl
parts_same (suc n) pages last at end c old same le =
    let field = piece_same at 8 end c old same (omega arith) in
    let image = piece_same (at + 8) 4096 end c old same (omega arith) in
    let rest = parts_same n pages (number_at w32 0 (piece at 8 old)) (at + 4104) end c old same (omega arith) in
    ap (λ (f : List ℕ). with_part at (part_departure pages last f) (Image (number_at w32 0 f) (piece (at + 8) 4096 c)) (parts_at n pages (number_at w32 0 f) (at + 4104) c)) field
    ∙ ap (λ (i : List ℕ). with_part at (part_departure pages last (piece at 8 old)) (Image (number_at w32 0 (piece at 8 old)) i) (parts_at n pages (number_at w32 0 (piece at 8 old)) (at + 4104) c)) image
    ∙ ap (λ (p : Parts). with_part at (part_departure pages last (piece at 8 old)) (Image (number_at w32 0 (piece at 8 old)) (piece (at + 8) 4096 old)) p) rest

-- a record that lies in the first `end` bytes is read from all bytes that begin with these
pub found_same : (s : State) (at end : ℕ) (c old : List ℕ) (r : JournalRecord) → take end c ≡ take end old → end ≤ length c → at + record_size r ≤ end → record_at s at old ≡ Found r → record_at s at c ≡ Found r
found_same s at end c old r same within fits is = reads_so s at c r there
  where
    has : HasRead s at old r
    has = has_read s at old r is

    size : record_size r ≡ 48 + 4104 * number_of (piece at 48 old)
    size = size_is s at old r has

    front : piece at 48 old ≡ piece at 48 c
    front = sym (piece_same at 48 end c old same (omega (arith, size)))

    stood : IsStanding s.due (length c - at) (piece at 48 old)
    stood = record { gate = has.stood.gate; front_there = omega (arith, size); is_next = has.stood.is_next; whole = omega (arith, size) }

    parts_there : parts_at (number_of (piece at 48 old)) s.pages 1 (at + 48) c ≡ parts_at (number_of (piece at 48 old)) s.pages 1 (at + 48) old
    parts_there = parts_same (number_of (piece at 48 old)) s.pages 1 (at + 48) end c old same (omega (arith, size))

    there : HasRead s at c r
    there = record {
      stood = subst (IsStanding s.due (length c - at)) front stood;
      fine = ap (front_departure s.pages) (sym front) ∙ has.fine;
      parts_there = ap (λ (f : List ℕ). parts_at (number_of f) s.pages 1 (at + 48) c) (sym front) ∙ parts_there ∙ has.parts_there;
      is = ap (λ (f : List ℕ). record_with f r.parts) (sym front) ∙ has.is;
    }

-- and ends within the bytes
pub found_within : (s : State) (at : ℕ) (c : List ℕ) (r : JournalRecord) → record_at s at c ≡ Found r → at + record_size r ≤ length c
found_within s at c r is =
    let has = has_read s at c r is in
    omega (arith, size_is s at c r has, has.stood.whole)
