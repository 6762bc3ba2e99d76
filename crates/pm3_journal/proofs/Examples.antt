-- What is read of a new journal.
use Rattle.std.proofs.Common.{◌≡◌, ◌<◌, ◌≤◌, ◌^◌, ℕ, true, [], ◌∷◌, length, take, None, refl, arith}
use Rattle.std.specs.Int.{w32, w64, from_le_bytes}
use Rattle.std.proofs.lemmas.Nat.{from_le_bytes-to_le_bytes_4}
use Rattle.pm3_types.specs.Bytes.{Number, Zeros, number_at, has_field, is_between, are_zeros}
use Rattle.pm3_types.proofs.ZeroBytes.{between, none_yet}
use Rattle.pm3_journal.specs.FileHead.{kind, empty_journal, head_departure, page_count_of}
use Rattle.pm3_journal.specs.Reading.{at_start}
use Rattle.pm3_journal.specs.Records.{records, Whole, HasFront}
use Rattle.pm3_journal.proofs.Pieces.{closed_ends}
use Rattle.pm3_journal.proofs.Listing.{records_are}

-- it has the page count that it was made for
pub page_count_is : (pages : ℕ) → pages ≤ 16384 → page_count_of (take 32 (empty_journal pages)) ≡ pages
unfolding number_at
page_count_is pages most =
    let small : pages < 2 ^ 32 = omega arith in
    from_le_bytes-to_le_bytes_4 pages small

kind_there : (pages : ℕ) → has_field (take 32 (empty_journal pages)) (Number 0 w64 (from_le_bytes w64 kind) (from_le_bytes w64 kind)) ≡ true
unfolding is_between number_at
kind_there pages = refl

version_there : (pages : ℕ) → has_field (take 32 (empty_journal pages)) (Number 8 w32 1 1) ≡ true
unfolding is_between number_at
version_there pages = refl

zeros_behind : (pages : ℕ) → has_field (take 32 (empty_journal pages)) (Zeros 16 16) ≡ true
unfolding are_zeros
zeros_behind pages = refl

long : (pages : ℕ) → 16 ≤ length (take 32 (empty_journal pages))
long pages = omega arith

head_fine : (pages : ℕ) → 16 ≤ pages → pages ≤ 16384 → head_departure (take 32 (empty_journal pages)) ≡ None
unfolding head_departure
head_fine pages least most =
    none_yet (Number 0 w64 (from_le_bytes w64 kind) (from_le_bytes w64 kind)) (Number 8 w32 1 1 ∷ Number 12 w32 16 16384 ∷ Zeros 16 16 ∷ []) (take 32 (empty_journal pages)) (kind_there pages)
    (none_yet (Number 8 w32 1 1) (Number 12 w32 16 16384 ∷ Zeros 16 16 ∷ []) (take 32 (empty_journal pages)) (version_there pages)
    (none_yet (Number 12 w32 16 16384) (Zeros 16 16 ∷ []) (take 32 (empty_journal pages)) (between 12 w32 16 16384 pages (take 32 (empty_journal pages)) (long pages) (page_count_is pages most) least most)
    (none_yet (Zeros 16 16) [] (take 32 (empty_journal pages)) (zeros_behind pages) refl)))

pub empty_has_none : (pages : ℕ) → 16 ≤ pages → pages ≤ 16384 → records (empty_journal pages) ≡ Whole []
empty_has_none pages least most =
    let front : HasFront pages [] 32 (empty_journal pages) = record { head = head_fine pages least most; page_count = page_count_is pages most; stand = refl; within = omega arith } in
    records_are pages [] 32 (empty_journal pages) front (closed_ends (at_start pages) 32 (empty_journal pages) (λ is. omega (arith, is)))
