use Rattle.std.proofs.Common.{inl, true, refl}
use Rattle.pm3_txn.proofs.Advancing.{put_marked, put_underway, put_placed}
use Rattle.pm3_txn.proofs.transaction.Txn.put_reference.Goals as goal

pub invariant_of-self : goal.invariant_of-self
invariant_of-self g c = put_underway g.D.Reader.Reader.content c.self.inside.heap.now c.self.inside.mutator c.put.new.self c.self.inside.held c.self.inside.tag c.args.j 0 true c.in-Err.ensures.cleared c.requires.low (λ _. inl refl) c.self.invariant c.put.ensures.kept

pub invariant_of-self-2 : goal.invariant_of-self-2
invariant_of-self-2 g c = put_underway g.D.Reader.Reader.content c.self.inside.heap.now c.self.inside.mutator c.put.new.self c.self.inside.held c.self.inside.tag c.args.j c.args.at true c.in_default.ensures.put c.requires.low
    (λ _. (rw (← c.self.view_is) at c.requires.known)) c.self.invariant c.put.ensures.kept

pub returns-clause-placed : goal.returns-clause-placed
returns-clause-placed g c = rw (← c.self.view_is) (put_placed g.D.Reader.Reader.content c.self.inside.heap.now c.self.inside.mutator c.put.new.self c.self.inside.held c.self.inside.tag c.args.j c.args.at true c.in_default.ensures.put c.in_default.ensures.pinned c.in_default.ensures.calm)

pub returns-in-Err-clause-marked : goal.returns-in-Err-clause-marked
returns-in-Err-clause-marked g c = rw (← c.self.view_is) (put_marked g.D.Reader.Reader.content c.self.inside.heap.now c.self.inside.mutator c.put.new.self c.self.inside.held c.self.inside.tag c.args.j c.args.at c.in-Err.busy c.in-Err.ensures.cleared c.in-Err.ensures.marked)
