use Rattle.std.proofs.Common.{refl, subst}
use Rattle.pm3_txn.specs.Closing.{IsTableFault}
use Rattle.pm3_txn.proofs.heap.Heap.close.Goals as goal

pub returns-in-Err-Memory-clause-fault : goal.returns-in-Err-Memory-clause-fault
returns-in-Err-Memory-clause-fault g c =
    let fault = subst (λ f. IsTableFault g.D.Disk c.args.self c.last.inside.pass f) c.in-Err-Memory.field-0-is c.in-Err-Memory.ensures.fault in
    rw (← c.last.view_is) (fault, refl)
