use Rattle.std.proofs.Common.{◌≡◌, ◌+◌, ◌≤◌, ℕ, length}
use Rattle.std.specs.FinMap.{get}
use Rattle.pm3_txn.specs.Starts.{IsFilled, page_home}
use Rattle.pm3_txn.proofs.homes.with_pages.Given as goal

abbrev pub invariant-loop-page : goal.invariant-loop-page
invariant-loop-page g l = record {
  wide : length l.homes ≡ l.pages + 33;
  filled : IsFilled l.homes (page_home l.initial.images.images) l.page;
  left : (q : ℕ) → l.page ≤ q → get l.images.images q ≡ get l.initial.images.images q;
}
