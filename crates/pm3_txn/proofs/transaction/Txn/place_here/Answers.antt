use Rattle.pm3_txn.proofs.Made.{made_underway, has_new_object}
use Rattle.pm3_txn.proofs.transaction.Txn.place_here.Goals as goal

pub invariant_of-self-2 : goal.invariant_of-self-2
invariant_of-self-2 g c = made_underway g.D.Reader.Reader.content c.self.inside.heap.now c.self.inside.mutator c.self.inside.held c.make.new.held c.self.inside.tag c.args.ty c.args.tail c.args.name c.in-Some.at c.self.invariant (rw (← c.self.view_is) at c.requires.may) (rw (← c.self.view_is) at c.requires.name) (rw (← c.self.view_is) at c.requires.noted) (rw (← c.self.view_is) at c.requires.space) (rw c.in-Some.is at c.make.ensures.made) c.in-Some.ensures.step c.make.ensures.form c.page_count.ensures.below

pub returns-clause-placed : goal.returns-clause-placed
returns-clause-placed g c = rw (← c.self.view_is) (has_new_object g.D.Reader.Reader.content c.self.inside.heap.now c.self.inside.mutator c.self.inside.held c.make.new.held c.self.inside.tag c.args.ty c.args.tail c.args.name c.in-Some.at c.self.invariant (rw (← c.self.view_is) at c.requires.may) (rw (← c.self.view_is) at c.requires.name) (rw (← c.self.view_is) at c.requires.noted) (rw (← c.self.view_is) at c.requires.space) (rw c.in-Some.is at c.make.ensures.made) c.in-Some.ensures.step c.make.ensures.form c.page_count.ensures.below)
