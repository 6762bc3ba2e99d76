use Rattle.pm3_txn.specs.Frontiers.{IsTop, Below, IsSlotNamed}
use Rattle.pm3_txn.proofs.frontiers.above_roots.Given as goal

abbrev pub invariant-loop-slot : goal.invariant-loop-slot
invariant-loop-slot l = IsTop (Below (IsSlotNamed l.image.sheet) l.slot) l.initial.top l.top
