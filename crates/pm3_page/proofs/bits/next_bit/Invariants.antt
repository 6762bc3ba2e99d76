use Rattle.std.proofs.Common.{◌≡◌, ℕ, ◌+◌, ◌*◌, ◌<◌, ◌≤◌, false}
use Rattle.pm3_page.specs.Bits.{has_bit}
use Rattle.pm3_page.proofs.bits.next_bit.Given as goal

-- no page from the start up to the place where the search stands has its bit set
abbrev pub invariant-loop-i : goal.invariant-loop-i
invariant-loop-i l = (l.low < 64) × (l.start ≤ 64 * l.i + l.low) × ((q : ℕ) → l.start ≤ q → q < 64 * l.i + l.low → has_bit l.words q ≡ false)
