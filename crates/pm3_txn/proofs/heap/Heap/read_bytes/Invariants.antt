use Rattle.std.proofs.Common.{◌≡◌, ◌<◌, ◌+◌, ℕ, length, Some, slice_index}
use Rattle.pm3_core.specs.declared.naming.TheConstants.{BASE}
use Rattle.pm3_access.specs.declared.places.Place.TheVariants.{Byte}
use Rattle.pm3_access.specs.Access.{value_held}
use Rattle.pm3_txn.proofs.heap.Heap.read_bytes.Given as goal

abbrev pub invariant-loop-k : goal.invariant-loop-k
invariant-loop-k g l = record {
  same : length l.out ≡ length l.initial.out;
  read : (q : ℕ) → q < l.k → value_held l.self.1.opening.catalog BASE l.held l.at (Byte (l.from + q)) ≡ Some (slice_index l.out q);
}
