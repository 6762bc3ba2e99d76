use Rattle.pm3_txn.proofs.mutator.Mutator.check.Goals as goal

pub returns-clause-stands : goal.returns-clause-stands
returns-clause-stands g c = rw (← c.heap.view_is, ← c.self.view_is) (c.validate.ensures.stands)
