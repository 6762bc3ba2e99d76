use Rattle.pm3_txn.proofs.ObjectsHeld.{holding_sound}
use Rattle.pm3_txn.proofs.transaction.Txn.tail_len.Goals as goal

pub tail_at-len-requires-clause-form : goal.tail_at-len-requires-clause-form
tail_at-len-requires-clause-form g c = holding_sound c.self.inside.heap.now.1 c.self.inside.mutator.pass.1 c.self.inside.mutator.space c.self.inside.held c.self.invariant.holding
