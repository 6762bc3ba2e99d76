use Rattle.std.proofs.Common.{◌-◌, ◌<◌, ◌≤◌, ℕ, length}
use Rattle.pm3_journal.specs.Pages.{page_at, IsRising}
use Rattle.pm3_journal.proofs.file_pages.FilePages.get.Given as goal

abbrev pub invariant-loop-low : goal.invariant-loop-low
invariant-loop-low l = record {
  order : l.low ≤ l.high;
  within : l.high ≤ length l.self.items;
  below : (i : ℕ) → i < l.low → page_at l.self.items i < l.page;
  above : (i : ℕ) → l.high ≤ i → i < length l.self.items → l.page < page_at l.self.items i;
  rising : IsRising l.self.items;
}

abbrev pub decreases-loop-low : goal.decreases-loop-low
decreases-loop-low l = l.high - l.low
