use Rattle.pm3_txn.proofs.ObjectsHeld.{wide_form}
use Rattle.pm3_txn.proofs.heap.Heap.write.Goals as goal

pub write-requires-clause-sound : goal.write-requires-clause-sound
write-requires-clause-sound g c =
    wide_form c.self.inside.shared.1 c.self.inside.catalog c.args.held.now c.self.invariant.catalog_is c.self.invariant.small (rw (← c.self.view_is) at c.requires.form)
