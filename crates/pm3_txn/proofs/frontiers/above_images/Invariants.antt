use Rattle.pm3_txn.specs.Frontiers.{IsTop, Below, IsNamedUnder}
use Rattle.pm3_txn.proofs.frontiers.above_images.Given as goal

abbrev pub invariant-loop-page : goal.invariant-loop-page
invariant-loop-page l = IsTop (Below (IsNamedUnder l.catalog l.images.images) l.page) l.initial.top l.top
