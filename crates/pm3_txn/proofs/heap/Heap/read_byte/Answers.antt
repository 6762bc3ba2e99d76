use Rattle.std.proofs.Common.{rules, ◌<◌}
use Rattle.pm3_txn.proofs.ObjectsHeld.{wide_form}
use Rattle.pm3_txn.proofs.ByteSteps.{byte_low}
use Rattle.pm3_txn.proofs.heap.Heap.read_byte.Goals as goal

pub read-requires-clause-sound : goal.read-requires-clause-sound
read-requires-clause-sound g c =
    wide_form c.self.inside.shared.1 c.self.inside.catalog c.args.held.now c.self.invariant.catalog_is c.self.invariant.small (rw (← c.self.view_is) at c.requires.form)

pub overflow_cast-result : goal.overflow_cast-result
overflow_cast-result g c =
    let low : c.in-Ok.value < 256 = byte_low c.self.inside.catalog c.args.held.now c.args.at c.args.byte c.in-Ok.value c.in-Ok.ensures.value in
    search (rules, low)
