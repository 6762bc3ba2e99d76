use Rattle.std.proofs.Common.{◌≡◌, ◌==◌, ◌||◌, ℕ, false, take, get_or, length}
use Rattle.std.specs.List.{list_any}
use Rattle.pm3_journal.proofs.entries.note.Given as goal

abbrev pub invariant-loop-page : goal.invariant-loop-page
invariant-loop-page l = record {
  noted : (q : ℕ) → get_or l.seen.items q false ≡ (list_any (λ p. p == q) (take l.page-index l.pages) || get_or l.fn.seen.items q false);
  size : length l.seen.items ≡ length l.fn.seen.items;
}
