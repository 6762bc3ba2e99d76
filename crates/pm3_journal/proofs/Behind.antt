-- A record that was put is read back.
use Rattle.std.proofs.Common.{◌≡◌, ◌+◌, ◌*◌, ◌-◌, ◌<◌, ◌≤◌, ◌^◌, ℕ, zero, suc, map, true, List, [], ◌∷◌, ◌++◌, length, take, drop, get_or, Option, None, refl, sym, ◌∙◌, ap, subst, arith, append_assoc, length-append, length-drop}
use Rattle.std.specs.Int.{w32, w64, to_le_bytes, from_le_bytes}
use Rattle.std.proofs.lemmas.List.{drop-drop, take_at, drop_at}
use Rattle.std.proofs.lemmas.Nat.{from_le_bytes-to_le_bytes_4, from_le_bytes-to_le_bytes_8}
use Rattle.pm3_types.proofs.ZeroBytes.{between, none_yet, zeros_there}
use Rattle.pm3_journal.specs.Format.{PagePart, Image, page_in, JournalRecord, parts_bytes, body, parts_size, AreParts, IsFit}
use Rattle.pm3_types.specs.Bytes.{Number, Zeros, number_at, piece, is_zero}
use Rattle.pm3_journal.specs.Reading.{State, Found, Parts, Good, with_part, parts_at, record_at}
use Rattle.pm3_journal.specs.RecordFront.{is_due, seq_of, name_of, tag_of, number_of, high_of, pins_of, moved_of, front_departure, part_departure, record_with}
use Rattle.pm3_journal.proofs.Pieces.{HasRead, IsStanding, reads_so}

pub length_parts : (pages last : ℕ) (parts : List PagePart) → AreParts pages last parts → length (parts_bytes parts) ≡ parts_size parts
length_parts pages last [] are = refl
length_parts pages last (Image page image ∷ parts) are =
    omega (arith, length-append image (parts_bytes parts), are.2, length_parts pages page parts are.3)

pub count_parts : (parts : List PagePart) → parts_size parts ≡ 4104 * length parts
count_parts [] = refl
count_parts (Image page image ∷ parts) = omega (arith, count_parts parts)

-- the pages of a record are those of the store
pub parts_low : (pages last : ℕ) (parts : List PagePart) → AreParts pages last parts → (k d : ℕ) → k < length (map page_in parts) → get_or (map page_in parts) k d < pages
parts_low pages last [] are k d below = absurd (omega (arith, below))
parts_low pages last (Image page image ∷ parts) are zero d below = are.1
parts_low pages last (Image page image ∷ parts) are (suc k) d below = parts_low pages page parts are.3 k d (omega (arith, below))

pub length_body : (pages : ℕ) (r : JournalRecord) → IsFit pages r → length (body r) ≡ 47 + parts_size r.parts
unfolding body
length_body pages r fit = omega (arith, length_parts pages 1 r.parts fit.parts)

part_fine : (pages last : ℕ) (field : List ℕ) → 8 ≤ length field → last < number_at w32 0 field → number_at w32 0 field < pages → is_zero (piece 4 4 field) ≡ true → part_departure pages last field ≡ None
unfolding part_departure
part_fine pages last field long above below blank =
    none_yet (Number 0 w32 (last + 1) (pages - 1)) (Zeros 4 4 ∷ []) field (between 0 w32 (last + 1) (pages - 1) (number_at w32 0 field) field (omega arith) refl (omega arith) (omega arith))
    (none_yet (Zeros 4 4) [] field (zeros_there 4 4 field (omega arith) blank) refl)

front_fine : (pages : ℕ) (front : List ℕ) → 48 ≤ length front → is_zero (piece 1 7 front) ≡ true → 1 ≤ name_of front → name_of front ≤ 2 ^ 62 → number_of front < pages → 3 ≤ high_of front → high_of front ≤ pages → is_zero (piece 44 4 front) ≡ true → front_departure pages front ≡ None
unfolding front_departure
front_fine pages front long zeros named names number low high last_zeros =
    none_yet (Zeros 1 7) (Number 16 w64 1 (2 ^ 62) ∷ Number 28 w32 0 (pages - 1) ∷ Number 32 w32 3 pages ∷ Zeros 44 4 ∷ []) front (zeros_there 1 7 front (omega arith) zeros)
    (none_yet (Number 16 w64 1 (2 ^ 62)) (Number 28 w32 0 (pages - 1) ∷ Number 32 w32 3 pages ∷ Zeros 44 4 ∷ []) front (between 16 w64 1 (2 ^ 62) (name_of front) front (omega arith) refl named names)
    (none_yet (Number 28 w32 0 (pages - 1)) (Number 32 w32 3 pages ∷ Zeros 44 4 ∷ []) front (between 28 w32 0 (pages - 1) (number_of front) front (omega arith) refl (omega arith) (omega arith))
    (none_yet (Number 32 w32 3 pages) (Zeros 44 4 ∷ []) front (between 32 w32 3 pages (high_of front) front (omega arith) refl low high)
    (none_yet (Zeros 44 4) [] front (zeros_there 44 4 front (omega arith) last_zeros) refl))))

page_back : (page : ℕ) (field : List ℕ) → page < 2 ^ 32 → field ≡ to_le_bytes w32 page ++ (0 ∷ 0 ∷ 0 ∷ 0 ∷ []) → number_at w32 0 field ≡ page
unfolding number_at
page_back page field small is = ap (from_le_bytes w32) is ∙ from_le_bytes-to_le_bytes_4 page small

pub parts_read : (pages last at : ℕ) (c more : List ℕ) (parts : List PagePart) → pages ≤ 16384 → AreParts pages last parts → drop at c ≡ parts_bytes parts ++ more → parts_at (length parts) pages last at c ≡ Good parts
parts_read pages last at c more [] few are is = refl
parts_read pages last at c more (Image page image ∷ parts) few are is =
    ap (λ (d : Option ℕ). with_part at d (Image (number_at w32 0 (piece at 8 c)) (piece (at + 8) 4096 c)) (parts_at (length parts) pages (number_at w32 0 (piece at 8 c)) (at + 4104) c)) fine
    ∙ ap (λ (n : ℕ). with_part at None (Image n (piece (at + 8) 4096 c)) (parts_at (length parts) pages n (at + 4104) c)) number
    ∙ ap (λ (i : List ℕ). with_part at None (Image page i) (parts_at (length parts) pages page (at + 4104) c)) image_is
    ∙ ap (λ (p : Parts). with_part at None (Image page image) p) (parts_read pages page (at + 4104) c more parts few are.3 rest_is)
  where
    field : piece at 8 c ≡ to_le_bytes w32 page ++ (0 ∷ 0 ∷ 0 ∷ 0 ∷ [])
    field = ap (take 8) is

    number : number_at w32 0 (piece at 8 c) ≡ page
    number = page_back page (piece at 8 c) (omega (arith, are.1)) field

    fine : part_departure pages last (piece at 8 c) ≡ None
    fine =
        let above : last < number_at w32 0 (piece at 8 c) = omega (arith, number, are.0) in
        let below : number_at w32 0 (piece at 8 c) < pages = omega (arith, number, are.1) in
        part_fine pages last (piece at 8 c) (omega (arith, ap length field)) above below (ap (λ (f : List ℕ). is_zero (piece 4 4 f)) field)

    behind : drop (at + 8) c ≡ image ++ (parts_bytes parts ++ more)
    behind = sym (drop-drop 8 at c) ∙ ap (drop 8) is ∙ append_assoc image (parts_bytes parts) more

    image_is : piece (at + 8) 4096 c ≡ image
    image_is = ap (take 4096) behind ∙ take_at image (parts_bytes parts ++ more) 4096 are.2

    further : at + 4104 ≡ at + 8 + 4096
    further = omega arith

    rest_is : drop (at + 4104) c ≡ parts_bytes parts ++ more
    rest_is = ap (λ (n : ℕ). drop n c) further ∙ sym (drop-drop 4096 (at + 8) c) ∙ ap (drop 4096) behind ∙ drop_at image (parts_bytes parts ++ more) 4096 are.2

-- the 48 bytes at the front of a record that was put, and what lies behind them
module _ (pages : ℕ) (r : JournalRecord) (more : List ℕ) (fit : IsFit pages r) where
  small_number : length r.parts < 2 ^ 32
  small_number = omega (arith, fit.page_count, fit.number)

  small_high : r.high_page < 2 ^ 32
  small_high = omega (arith, fit.page_count, fit.high)

  small_name : r.next_name < 2 ^ 64
  small_name = omega (arith, fit.names)

  seq_back : seq_of (take 48 (1 ∷ (body r ++ more))) ≡ r.seq
  unfolding body number_at
  seq_back = from_le_bytes-to_le_bytes_8 r.seq fit.seq

  name_back : name_of (take 48 (1 ∷ (body r ++ more))) ≡ r.next_name
  unfolding body number_at
  name_back = from_le_bytes-to_le_bytes_8 r.next_name small_name

  tag_back : tag_of (take 48 (1 ∷ (body r ++ more))) ≡ r.tag
  unfolding body number_at
  tag_back = from_le_bytes-to_le_bytes_4 r.tag fit.tag

  number_back : number_of (take 48 (1 ∷ (body r ++ more))) ≡ length r.parts
  unfolding body number_at
  number_back = from_le_bytes-to_le_bytes_4 (length r.parts) small_number

  high_back : high_of (take 48 (1 ∷ (body r ++ more))) ≡ r.high_page
  unfolding body number_at
  high_back = from_le_bytes-to_le_bytes_4 r.high_page small_high

  pins_back : pins_of (take 48 (1 ∷ (body r ++ more))) ≡ r.pins
  unfolding body number_at
  pins_back = from_le_bytes-to_le_bytes_4 r.pins fit.pins

  moved_back : moved_of (take 48 (1 ∷ (body r ++ more))) ≡ r.moved
  unfolding body number_at
  moved_back = from_le_bytes-to_le_bytes_4 r.moved fit.moved

  zeros_back : is_zero (piece 1 7 (take 48 (1 ∷ (body r ++ more)))) ≡ true
  unfolding body number_at
  zeros_back = refl

  last_zeros_back : is_zero (piece 44 4 (take 48 (1 ∷ (body r ++ more)))) ≡ true
  unfolding body number_at
  last_zeros_back = refl

  parts_behind : drop 48 (1 ∷ (body r ++ more)) ≡ parts_bytes r.parts ++ more
  unfolding body number_at
  parts_behind = refl

  long_front : 48 ≤ length (take 48 (1 ∷ (body r ++ more)))
  unfolding body
  long_front = omega arith

  pub all_fine : front_departure pages (take 48 (1 ∷ (body r ++ more))) ≡ None
  all_fine =
      front_fine pages (take 48 (1 ∷ (body r ++ more))) long_front zeros_back (omega (arith, name_back, fit.named)) (omega (arith, name_back, fit.names)) (omega (arith, number_back, fit.number)) (omega (arith, high_back, fit.low)) (omega (arith, high_back, fit.high)) last_zeros_back

  pub record_back : record_with (take 48 (1 ∷ (body r ++ more))) r.parts ≡ r
  record_back = λ i. record { seq = seq_back i; next_name = name_back i; tag = tag_back i; high_page = high_back i; pins = pins_back i; moved = moved_back i; parts = r.parts }

-- a record that is fit, and has the number due, is read where it stands behind an open gate
pub read_back : (s : State) (at : ℕ) (c more : List ℕ) (r : JournalRecord) → IsFit s.pages r → is_due s.due r.seq ≡ true → drop at c ≡ 1 ∷ (body r ++ more) → record_at s at c ≡ Found r
read_back s at c more r fit due is = reads_so s at c r there
  where
    front : take 48 (1 ∷ (body r ++ more)) ≡ piece at 48 c
    front = ap (take 48) (sym is)

    left : length c - at ≡ 48 + parts_size r.parts + length more
    left = sym (length-drop at c) ∙ ap length is ∙ omega (arith, length-append (body r) more, length_body s.pages r fit)

    number : number_of (take 48 (1 ∷ (body r ++ more))) ≡ length r.parts
    number = number_back s.pages r more fit

    stood : IsStanding s.due (length c - at) (take 48 (1 ∷ (body r ++ more)))
    stood = record {
      gate = refl;
      front_there = omega (arith, left);
      is_next = ap (is_due s.due) (seq_back s.pages r more fit) ∙ due;
      whole = omega (arith, left, number, count_parts r.parts);
    }

    behind : drop (at + 48) c ≡ parts_bytes r.parts ++ more
    behind = sym (drop-drop 48 at c) ∙ ap (drop 48) is ∙ parts_behind s.pages r more fit

    parts_there : parts_at (length r.parts) s.pages 1 (at + 48) c ≡ Good r.parts
    parts_there = parts_read s.pages 1 (at + 48) c more r.parts fit.page_count fit.parts behind

    there : HasRead s at c r
    there = record {
      stood = subst (IsStanding s.due (length c - at)) front stood;
      fine = ap (front_departure s.pages) (sym front) ∙ all_fine s.pages r more fit;
      parts_there = ap (λ (n : ℕ). parts_at n s.pages 1 (at + 48) c) (ap number_of (sym front) ∙ number) ∙ parts_there;
      is = ap (λ (f : List ℕ). record_with f r.parts) (sym front) ∙ record_back s.pages r more fit;
    }
