use Rattle.std.proofs.Common.{◌+◌}
use Rattle.oo7_objects.specs.Wholes.{Kept, KeepsRow, Knows, name_at}
use Rattle.oo7_index.specs.Descents.{IsOnWayTo}
use Rattle.oo7_index.proofs.descents.descend.Given as goal

abbrev pub invariant-loop-left : goal.invariant-loop-left
invariant-loop-left g l = record {
  on : Knows l.txn (λ st w. IsOnWayTo w (name_at l.fn.txn st l.tree) l.key l.left (name_at l.txn st l.leaf));
  kept : Kept l.fn.txn l.txn;
  row : KeepsRow l.fn.txn l.txn l.leaf (l.leaf + 1);
}

abbrev pub decreases-loop-left : goal.decreases-loop-left
decreases-loop-left g l = l.left
