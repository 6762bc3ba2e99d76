use Rattle.std.proofs.Common.{subst}
use Rattle.pm3_txn.specs.ObjectValues.{HasValue}
use Rattle.pm3_txn.specs.States.{told_in}
use Rattle.pm3_txn.specs.Underway.{IsUnderway}
use Rattle.pm3_txn.proofs.ObjectsHeld.{holding_sound}
use Rattle.pm3_txn.proofs.PlaceSteps.{read_here, word_read}
use Rattle.pm3_txn.proofs.transaction.Txn.read.Goals as goal

pub read-requires-clause-form : goal.read-requires-clause-form
read-requires-clause-form g c = holding_sound c.self.inside.heap.now.1 c.self.inside.mutator.pass.1 c.self.inside.mutator.space c.self.inside.held c.self.invariant.holding

pub returns-clause-read : goal.returns-clause-read
returns-clause-read g c =
    read_here g.D.Reader.Reader.content c.args.self.now c.object.new.self c.args.i c.in-Ok.at c.args.place c.args.is_ref c.in-Ok-read.value
    (subst (IsUnderway g.D.Reader.Reader.content) c.self.view_is c.self.invariant) c.in-Ok.ensures.there
    (subst (λ t. HasValue (told_in t) t.held c.in-Ok.at c.args.place c.args.is_ref c.in-Ok-read.value) c.self.view_is c.in-Ok-read.ensures.value)

pub returns-clause-known : goal.returns-clause-known
returns-clause-known g c =
    word_read g.D.Reader.Reader.content c.args.self.now c.object.new.self c.args.i c.in-Ok.at c.args.place c.args.is_ref c.in-Ok-read.value
    (subst (IsUnderway g.D.Reader.Reader.content) c.self.view_is c.self.invariant) c.in-Ok.ensures.there
    (subst (λ t. HasValue (told_in t) t.held c.in-Ok.at c.args.place c.args.is_ref c.in-Ok-read.value) c.self.view_is c.in-Ok-read.ensures.value)
