use Rattle.pm3_txn.specs.Crews.{IsRowCleared}
use Rattle.pm3_txn.proofs.crew.clear_row.Given as goal

abbrev pub invariant-loop-place : goal.invariant-loop-place
invariant-loop-place g l = IsRowCleared l.place l.initial.pass l.pass
