use Rattle.std.proofs.Common.{◌≡◌, ◌<◌, ◌≤◌, ◌-◌, ℕ, false}
use Rattle.std.specs.FinMap.{contains_key}
use Rattle.pm3_table.specs.Holds.{holds_of}
use Rattle.pm3_txn.specs.Aborting.{AreOwed, HasOnlyGiven}
use Rattle.pm3_txn.specs.Underway.{IsMutatorOf}
use Rattle.pm3_txn.proofs.Cleared.{AreGiving}
use Rattle.pm3_txn.proofs.aborting.give_all.Given as goal

abbrev pub invariant-loop-page : goal.invariant-loop-page
invariant-loop-page g l = record {
  owed : AreOwed l.heap.1 l.mutator.pass.1 l.pages.images;
  given : HasOnlyGiven l.initial.mutator l.mutator;
  kept : IsMutatorOf g.D.Reader.Reader.content l.heap l.mutator;
  giving : AreGiving (holds_of l.initial.mutator.pass.1.holds) (holds_of l.mutator.pass.1.holds) l.initial.pages.images l.pages.images;
  below : (q : ℕ) → q < l.from → contains_key l.pages.images q ≡ false;
  low : l.from ≤ 16384;
}

abbrev pub decreases-loop-page : goal.decreases-loop-page
decreases-loop-page g l = 16384 - l.from
