use Rattle.std.proofs.Common.{◌≡◌, ◌≤◌, ℕ, List, map, length, take, vec_len, vec_capacity}
use Rattle.pm3_journal.proofs.summary.summarize.Given as goal

abbrev pub invariant-loop-i : goal.invariant-loop-i
invariant-loop-i l = record {
  so_far : l.numbers.items ≡ map (λ (x : ℕ × List ℕ). x.0) (take l.i l.entry.pages.items);
  len : vec_len l.numbers ≡ l.i;
  room : length l.entry.pages.items ≤ vec_capacity l.numbers;
}
