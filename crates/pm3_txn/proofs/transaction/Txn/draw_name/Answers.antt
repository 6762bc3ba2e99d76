use Rattle.pm3_txn.proofs.Growing.{named_underway, has_drawn_name, names_full_underway, names_full}
use Rattle.pm3_txn.proofs.transaction.Txn.draw_name.Goals as goal

pub invariant_of-self : goal.invariant_of-self
invariant_of-self g c = rw c.in-Err.ensures.full.1 (names_full_underway g.D.Reader.Reader.content c.self.inside.heap.now c.self.inside.mutator c.self.inside.held c.self.inside.tag c.self.invariant (rw (← c.self.view_is) at c.requires.space) (rw c.in-Err.ensures.full.1 at c.draw_name.ensures.kept))

pub invariant_of-self-2 : goal.invariant_of-self-2
invariant_of-self-2 g c = rw c.in-Ok.ensures.drawn.2 (named_underway g.D.Reader.Reader.content c.self.inside.heap.now c.self.inside.mutator c.self.inside.held c.self.inside.tag c.self.invariant (rw (← c.self.view_is) at c.requires.space) c.in-Ok.name (rw c.in-Ok.ensures.drawn.2 at c.draw_name.ensures.kept))

pub returns-clause-drawn : goal.returns-clause-drawn
returns-clause-drawn g c = rw (← c.self.view_is) (rw c.in-Ok.ensures.drawn.2 (has_drawn_name g.D.Reader.Reader.content c.self.inside.heap.now c.self.inside.mutator c.self.inside.held c.self.inside.tag c.self.invariant (rw (← c.self.view_is) at c.requires.space) c.in-Ok.name c.page_count.ensures.below c.page_count.ensures.first c.in-Ok.ensures.drawn.0 c.in-Ok.ensures.drawn.1))

pub returns-in-Err-clause-full : goal.returns-in-Err-clause-full
returns-in-Err-clause-full g c = rw (← c.self.view_is) (rw c.of_full.ensures (rw c.in-Err.ensures.full.0 (rw c.in-Err.ensures.full.1 (names_full g.D.Reader.Reader.content c.self.inside.heap.now c.self.inside.mutator c.self.inside.held c.self.inside.tag c.self.invariant (rw (← c.self.view_is) at c.requires.space)))))
