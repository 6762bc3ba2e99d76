use Rattle.pm3_txn.proofs.ObjectsHeld.{holding_sound}
use Rattle.pm3_txn.proofs.PlaceSteps.{store_underway, stored_here}
use Rattle.pm3_txn.proofs.transaction.Txn.store.Goals as goal

pub write-requires-clause-form : goal.write-requires-clause-form
write-requires-clause-form g c = holding_sound c.self.inside.heap.now.1 c.self.inside.mutator.pass.1 c.self.inside.mutator.space c.self.inside.held c.self.invariant.holding

pub invariant_of-self-2 : goal.invariant_of-self-2
invariant_of-self-2 g c = store_underway g.D.Reader.Reader.content c.self.inside.heap.now c.self.inside.mutator c.self.inside.held c.write.new.held c.self.inside.tag c.args.at c.args.place c.args.is_ref c.args.value
    c.self.invariant (rw (← c.self.view_is) at c.requires.object) (rw (← c.self.view_is) at c.requires.known) c.requires.value (rw (← c.self.view_is) at c.requires.word)
    c.in_default.ensures.written

pub returns-clause-stored : goal.returns-clause-stored
returns-clause-stored g c = rw (← c.self.view_is) (stored_here g.D.Reader.Reader.content c.self.inside.heap.now c.self.inside.mutator c.self.inside.held c.write.new.held c.self.inside.tag c.args.at c.args.place c.args.is_ref c.args.value
    c.self.invariant (rw (← c.self.view_is) at c.requires.object) (rw (← c.self.view_is) at c.requires.known) c.requires.value (rw (← c.self.view_is) at c.requires.word)
    c.in_default.ensures.written)
