-- A window over a device, and the piece that it gives.
use Rattle.std.proofs.Common.{◌≡◌, ⊎_elim, ◌+◌, ◌-◌, ◌<◌, ◌≤◌, ℕ, List, length, take, drop, min, sym, ◌∙◌, ap, arith}
use Rattle.std.proofs.lemmas.Bool.{cases_lt}
use Rattle.std.proofs.lemmas.List.{take_all, take-take, drop-take, drop-drop}
use Rattle.pm3_disk.specs.Content.{IsRead}
use Rattle.pm3_disk.specs.Devices.{OnlyReads}
use Rattle.pm3_disk.specs.declared.outside.Disk.{Ghosts}
use Rattle.pm3_journal.specs.Windows.{IsWindowOn, Stretch}
use Rattle.pm3_types.specs.Bytes.{piece}

-- a piece of the block is the piece of the bytes that the block is over
pub given_is : (bytes block : List ℕ) (start filled at n : ℕ) → take filled block ≡ piece start filled bytes → start ≤ at → at - start + n ≤ filled → take n (drop (at - start) block) ≡ piece at n bytes
given_is bytes block start filled at n over from fits =
    let k : ℕ = at - start in
    let back : start + (at - start) ≡ at = omega arith in
    sym (drop-take (at - start) n block) ∙ ap (drop (at - start)) (sym (take-take (at - start + n) filled block fits) ∙ ap (take (at - start + n)) over ∙ take-take (at - start + n) filled (drop start bytes) fits)
    ∙ drop-take (at - start) n (drop start bytes) ∙ ap (take n) (drop-drop (at - start) start bytes) ∙ ap (λ (a : ℕ). take n (drop a bytes)) back

-- a piece of a window is the piece of the device
pub given_on : (bytes window : List ℕ) (start at n : ℕ) → window ≡ piece start (length window) bytes → start ≤ at → at - start + n ≤ length window → take n (drop (at - start) window) ≡ piece at n bytes
given_on bytes window start at n is from fits =
    let le : length window ≤ length window = omega arith in
    given_is bytes window start (length window) at n (take_all (length window) window le ∙ is) from fits

-- a window over a device that was only read is over it still
pub window_on : {D R : Type 0} {g : Ghosts D R} {a b : D} (window : Stretch) → IsWindowOn window (g.content a) → OnlyReads g a b → IsWindowOn window (g.content b)
window_on window on reads bytes told = on bytes (sym reads.same ∙ told)

-- the first bytes of a window from offset 0 on are those of the device
pub front_read : (bytes window : List ℕ) → window ≡ piece 0 (length window) bytes → length window ≡ min 65536 (length bytes - 0) → take 32 window ≡ take 32 bytes
front_read bytes window is size = ap (take 32) is ∙ ⊎_elim short long (cases_lt (length bytes) 32)
  where
    short : length bytes < 32 → take 32 (take (length window) bytes) ≡ take 32 bytes
    short less =
        let all : length bytes ≤ length window = omega (arith, size, less) in
        ap (take 32) (take_all (length window) bytes all)

    long : 32 ≤ length bytes → take 32 (take (length window) bytes) ≡ take 32 bytes
    long no_less = take-take 32 (length window) bytes (omega (arith, size, no_less))

-- a piece that lies within the bytes is read whole
pub whole_piece : (bytes out : List ℕ) (at count n : ℕ) → length out ≡ n → at + n ≤ length bytes → IsRead bytes at count out → out ≡ piece at n bytes
whole_piece bytes out at count n len within read =
    let all : count ≡ n = omega (arith, read.size, len, within) in
    sym (take_all count out (omega (arith, all, len))) ∙ read.given ∙ ap (λ (m : ℕ). take m (drop at bytes)) all
