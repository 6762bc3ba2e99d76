use Rattle.std.proofs.Common.{◌≡◌, ◌<◌, ◌↔◌, ℕ, false, true, slice_index_or}
use Rattle.std.specs.FinMap as map
use Rattle.std.specs.FinSet as set
use Rattle.pm3_core.specs.Naming.{Names}
use Rattle.pm3_table.specs.Deeds.{word_of}
use Rattle.pm3_txn.specs.Pinning.{HasOnlyLogged}
use Rattle.pm3_txn.specs.Underway.{IsMutatorOf}
use Rattle.pm3_txn.proofs.passing.named_pages.Given as goal

abbrev pub invariant-loop-j : goal.invariant-loop-j
invariant-loop-j g l = record {
  only : HasOnlyLogged l.fn.mutator l.mutator;
  kept : IsMutatorOf g.D.Reader.Reader.content l.heap l.mutator;
  named : (p : ℕ) → (set.contains l.named p ≡ true)
      ↔ ((map.contains_key l.volatile.images p ≡ true)
      × ((q : ℕ) × (q < l.j) × (slice_index_or l.fn.mutator.refs q false ≡ true) × Names l.heap.1.pages (word_of l.fn.mutator.pass.1.log q) p));
}
