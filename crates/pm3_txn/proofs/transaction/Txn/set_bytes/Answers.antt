use Rattle.pm3_txn.proofs.ObjectsHeld.{holding_sound}
use Rattle.pm3_txn.proofs.ByteSteps.{bytes_stored}
use Rattle.pm3_txn.proofs.transaction.Txn.set_bytes.Goals as goal

pub missing_byte-requires-clause-form : goal.missing_byte-requires-clause-form
missing_byte-requires-clause-form g c = holding_sound c.self.inside.heap.now.1 c.self.inside.mutator.pass.1 c.self.inside.mutator.space c.self.inside.held c.self.invariant.holding

pub type_at-ty-requires-clause-form : goal.type_at-ty-requires-clause-form
type_at-ty-requires-clause-form g c = holding_sound c.self.inside.heap.now.1 c.self.inside.mutator.pass.1 c.self.inside.mutator.space c.self.inside.held c.self.invariant.holding

pub returns-clause-written : goal.returns-clause-written
returns-clause-written g c =
    bytes_stored c.args.self.now c.object.new.self c.store_bytes.new.txn c.args.i c.in-Ok.at c.args.from c.args.bytes.now c.in-Ok.ensures.there c.store_bytes.ensures.stored
