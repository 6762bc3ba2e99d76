use Rattle.std.proofs.Common.{◌≡◌, ◌↔◌, ◌<◌, ℕ, true, slice_index}
use Rattle.std.specs.FinMap as map
use Rattle.std.specs.FinSet as set
use Rattle.pm3_core.specs.Naming.{Names}
use Rattle.pm3_txn.proofs.pinning.pinned_by.Given as goal

abbrev pub invariant-loop-n : goal.invariant-loop-n
invariant-loop-n l = (p : ℕ) → (set.contains l.pinned p ≡ true)
    ↔ ((map.contains_key l.volatile.images p ≡ true) × ((k : ℕ) × (k < l.n) × Names l.pages (slice_index l.words k) p))
