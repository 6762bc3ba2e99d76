use Rattle.pm3_txn.proofs.ObjectsHeld.{holding_sound}
use Rattle.pm3_txn.proofs.transaction.Txn.type_of.Goals as goal

pub type_at-ty-requires-clause-form : goal.type_at-ty-requires-clause-form
type_at-ty-requires-clause-form g c = holding_sound c.self.inside.heap.now.1 c.self.inside.mutator.pass.1 c.self.inside.mutator.space c.self.inside.held c.self.invariant.holding
