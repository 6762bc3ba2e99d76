-- Bytes that are written piece by piece are written.
use Rattle.std.proofs.Common.{◌≡◌, ◌∙◌, ◌+◌, ◌≤◌, ℕ, List, ◌++◌, length, take, drop, Option, Some, sym, ap, arith, append_assoc, length-append}
use Rattle.std.proofs.lemmas.List.{drop-drop, length-take-le, take_at, drop_at}
use Rattle.std.proofs.Math.Seq.{take-add}
use Rattle.pm3_disk.specs.Content.{overwrite}
use Rattle.pm3_disk.specs.Systems.{Puts, Spot}

-- a piece, and another one behind it
pub overwrite-behind : (at next : ℕ) (x y old : List ℕ) → at ≤ length old → at + length x ≡ next → overwrite next y (overwrite at x old) ≡ overwrite at (x ++ y) old
overwrite-behind at next x y old fits is =
    let rest : List ℕ = drop (at + length x) old in
    let long : length (take at old ++ x) ≡ next = length-append (take at old) x ∙ omega (arith, is, length-take-le at old fits) in
    let front : take next ((take at old ++ x) ++ rest) ≡ take at old ++ x = take_at (take at old ++ x) rest next long in
    let back : drop (next + length y) ((take at old ++ x) ++ rest) ≡ drop (at + length (x ++ y)) old =
    sym (drop-drop (length y) next ((take at old ++ x) ++ rest)) ∙ ap (drop (length y)) (drop_at (take at old ++ x) rest next long)
    ∙ drop-drop (length y) (at + length x) old ∙ ap (λ (n : ℕ). drop n old) (omega (arith, length-append x y))
    in
    (λ i. (front i ++ y) ++ back i) ∙ ap (λ (l : List ℕ). l ++ drop (at + length (x ++ y)) old) (append_assoc (take at old) x y)

-- the first bytes of a list are written, and then some of the rest
pub puts_more : (at done count : ℕ) (bytes rest : List ℕ) (spot : Spot) (mid now : Option Spot) → at ≤ length spot.bytes → done ≤ length bytes → rest ≡ drop done bytes → count ≤ length rest
    → mid ≡ Some (record { bytes = overwrite at (take done bytes) spot.bytes; position = at + done }) → Puts (take count rest) mid now
    → now ≡ Some (record { bytes = overwrite at (take (done + count) bytes) spot.bytes; position = at + (done + count) })
puts_more at done count bytes rest spot mid now fits within is some so_far puts =
    let begun : at + length (take done bytes) ≡ at + done = ap (λ (n : ℕ). at + n) (length-take-le done bytes within) in
    let all : take done bytes ++ take count rest ≡ take (done + count) bytes = ap (λ (l : List ℕ). take done bytes ++ take count l) is ∙ sym (take-add done count bytes) in
    let written : overwrite (at + done) (take count rest) (overwrite at (take done bytes) spot.bytes) ≡ overwrite at (take (done + count) bytes) spot.bytes =
    overwrite-behind at (at + done) (take done bytes) (take count rest) spot.bytes fits begun ∙ ap (λ (l : List ℕ). overwrite at l spot.bytes) all
    in
    let there : at + done + length (take count rest) ≡ at + (done + count) = omega (arith, length-take-le count rest some) in
    puts _ so_far ∙ λ i. Some (record { bytes = written i; position = there i })
