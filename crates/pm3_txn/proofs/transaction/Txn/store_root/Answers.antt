use Rattle.pm3_txn.proofs.RootSteps.{root_store_underway, root_stored_here}
use Rattle.pm3_txn.proofs.transaction.Txn.store_root.Goals as goal

pub invariant_of-self : goal.invariant_of-self
invariant_of-self g c =
    root_store_underway g.D.Reader.Reader.content c.self.inside.heap.now c.self.inside.mutator c.self.inside.held c.set_root.new.self c.self.inside.tag c.args.slot c.args.at c.requires.low
    c.self.invariant (rw (← c.self.view_is) at c.requires.known) c.set_root.ensures.written

pub returns-clause-stored : goal.returns-clause-stored
returns-clause-stored g c =
    rw (← c.self.view_is) (root_stored_here g.D.Reader.Reader.content c.self.inside.heap.now c.self.inside.mutator c.self.inside.held c.set_root.new.self c.self.inside.tag c.args.slot c.args.at c.requires.low
    c.self.invariant (rw (← c.self.view_is) at c.requires.known) c.set_root.ensures.written)
