use Rattle.pm3_txn.proofs.heap.Heap.make.Goals as goal

pub returns-clause-form : goal.returns-clause-form
returns-clause-form g c = rw (← c.self.view_is, c.self.invariant.catalog_is) c.make.ensures.form
