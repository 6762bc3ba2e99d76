use Rattle.std.proofs.Common.{◌≡◌, ◌<◌, ℕ, false, get_or, length}
use Rattle.pm3_journal.proofs.entries.forget.Given as goal

abbrev pub invariant-loop-i : goal.invariant-loop-i
invariant-loop-i l = record {
  none : (q : ℕ) → q < l.i → get_or l.seen.items q false ≡ false;
  size : length l.seen.items ≡ length l.fn.seen.items;
}
