use Rattle.std.proofs.Common.{subst}
use Rattle.pm3_txn.specs.ByteRuns.{HasBytes}
use Rattle.pm3_txn.specs.States.{told_in}
use Rattle.pm3_txn.specs.Underway.{IsUnderway}
use Rattle.pm3_txn.proofs.ObjectsHeld.{holding_sound}
use Rattle.pm3_txn.proofs.ByteSteps.{bytes_here}
use Rattle.pm3_txn.proofs.transaction.Txn.bytes.Goals as goal

pub missing_byte-requires-clause-form : goal.missing_byte-requires-clause-form
missing_byte-requires-clause-form g c = holding_sound c.self.inside.heap.now.1 c.self.inside.mutator.pass.1 c.self.inside.mutator.space c.self.inside.held c.self.invariant.holding

pub type_at-ty-requires-clause-form : goal.type_at-ty-requires-clause-form
type_at-ty-requires-clause-form g c = holding_sound c.self.inside.heap.now.1 c.self.inside.mutator.pass.1 c.self.inside.mutator.space c.self.inside.held c.self.invariant.holding

pub read_bytes-requires-clause-form : goal.read_bytes-requires-clause-form
read_bytes-requires-clause-form g c = holding_sound c.self.inside.heap.now.1 c.self.inside.mutator.pass.1 c.self.inside.mutator.space c.self.inside.held c.self.invariant.holding

pub returns-clause-read : goal.returns-clause-read
returns-clause-read g c =
    bytes_here g.D.Reader.Reader.content c.args.self.now c.object.new.self c.args.i c.in-Ok.at c.args.from c.read_bytes.new.out
    (subst (IsUnderway g.D.Reader.Reader.content) c.self.view_is c.self.invariant) c.in-Ok.ensures.there
    (subst (λ t. HasBytes (told_in t) t.held c.in-Ok.at c.args.from c.read_bytes.new.out) c.self.view_is c.read_bytes.ensures.bytes)
