use Rattle.pm3_copy.proofs.finds.Found.count.Goals as goal

pub returns-clause-whole : goal.returns-clause-whole
returns-clause-whole c = rw (← c.self.view_is) (c.self.invariant.0.only)
