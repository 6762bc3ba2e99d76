use Rattle.std.proofs.Common.{false}
use Rattle.pm3_txn.proofs.PlaceSteps.{object_stored}
use Rattle.pm3_txn.proofs.transaction.Txn.write.Goals as goal

pub returns-clause-written : goal.returns-clause-written
returns-clause-written g c = object_stored c.args.self.now c.object.new.self c.store.new.self c.args.i c.in-Ok.at c.args.place false c.args.value c.in-Ok.ensures.there c.in_default.ensures.stored
