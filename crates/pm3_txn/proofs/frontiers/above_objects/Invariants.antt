use Rattle.pm3_txn.specs.Frontiers.{IsTop, Below, IsObjectNamed}
use Rattle.pm3_txn.proofs.frontiers.above_objects.Given as goal

abbrev pub invariant-loop-word : goal.invariant-loop-word
invariant-loop-word l = IsTop (Below (IsObjectNamed l.catalog l.image.sheet) l.word) l.initial.top l.top
