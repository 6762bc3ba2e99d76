use Rattle.pm3_txn.specs.Forks.{HasCopied, HasReadRow}
use Rattle.pm3_txn.specs.Underway.{Belongs, IsMutatorOf}
use Rattle.pm3_txn.proofs.mutator.Mutator.copy_row.Given as goal

abbrev pub invariant-loop-place : goal.invariant-loop-place
invariant-loop-place g l = record {
  read : HasReadRow l.fn.self l.self;
  copied : HasCopied l.heap.1.pages l.place l.fn.self l.fn.made l.made;
  kept : Belongs g.D.Reader.Reader.content l.heap l.self;
  other : IsMutatorOf g.D.Reader.Reader.content l.heap l.made;
}
