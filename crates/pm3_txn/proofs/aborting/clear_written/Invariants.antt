use Rattle.std.proofs.Common.{◌≡◌, ℕ, false, slice_index_or}
use Rattle.pm3_txn.specs.Aborting.{HasCleared}
use Rattle.pm3_txn.specs.Underway.{IsMutatorOf}
use Rattle.pm3_txn.proofs.Cleared.{written_below}
use Rattle.pm3_txn.proofs.aborting.clear_written.Given as goal

abbrev pub invariant-loop-j : goal.invariant-loop-j
invariant-loop-j g l = record {
  cleared : HasCleared l.initial.mutator l.mutator (written_below l.initial.mutator.wrote l.j);
  wrote : (q : ℕ) → slice_index_or l.mutator.wrote q false ≡ slice_index_or l.initial.mutator.wrote q false;
  held : l.mutator.pass.1.holds ≡ l.initial.mutator.pass.1.holds;
  kept : IsMutatorOf g.D.Reader.Reader.content l.heap l.mutator;
}
