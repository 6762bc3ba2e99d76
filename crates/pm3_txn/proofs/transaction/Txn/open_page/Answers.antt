use Rattle.std.proofs.Common.{refl}
use Rattle.pm3_types.specs.Layout.{blank_sheet}
use Rattle.pm3_txn.proofs.Growing.{opened_underway, has_opened, put_back, free_here}
use Rattle.pm3_txn.proofs.transaction.Txn.open_page.Goals as goal

pub invariant_of-self-in_default-blank : goal.invariant_of-self-in_default-blank
invariant_of-self-in_default-blank g c = rw (c.add_free.ensures.added, c.in-Some.ensures.taken, put_back g.D.Reader.Reader.content c.self.inside.heap.now c.self.inside.mutator c.self.inside.held c.self.inside.tag c.self.invariant (rw (← c.self.view_is) at c.requires.space) c.in-Some.page (free_here c.self.inside.held.space c.in-Some.page c.in-Some.ensures.least)) c.self.invariant

pub returns-in_default-blank-clause-refused : goal.returns-in_default-blank-clause-refused
returns-in_default-blank-clause-refused g c = (refl, rw (← c.self.view_is) (rw (c.add_free.ensures.added, c.in-Some.ensures.taken, put_back g.D.Reader.Reader.content c.self.inside.heap.now c.self.inside.mutator c.self.inside.held c.self.inside.tag c.self.invariant (rw (← c.self.view_is) at c.requires.space) c.in-Some.page (free_here c.self.inside.held.space c.in-Some.page c.in-Some.ensures.least)) refl))

pub invariant_of-self-in_default-grow : goal.invariant_of-self-in_default-grow
invariant_of-self-in_default-grow g c = rw (c.in_default-grow.ensures.grown, c.in-Some.ensures.taken, c.in-Ok.ensures) (opened_underway g.D.Reader.Reader.content c.self.inside.heap.now c.self.inside.mutator c.self.inside.held c.self.inside.tag c.self.invariant (rw (← c.self.view_is) at c.requires.space) (record { page = c.in-Some.page; sheet = blank_sheet }) c.page_count.ensures.below refl (free_here c.self.inside.held.space c.in-Some.page c.in-Some.ensures.least))

pub returns-in_default-grow-clause-opened : goal.returns-in_default-grow-clause-opened
returns-in_default-grow-clause-opened g c = rw (← c.self.view_is) (rw (c.in_default-grow.ensures.grown, c.in-Some.ensures.taken, c.in-Ok.ensures) (has_opened g.D.Reader.Reader.content c.self.inside.heap.now c.self.inside.mutator c.self.inside.held c.self.inside.tag c.self.invariant (rw (← c.self.view_is) at c.requires.space) (record { page = c.in-Some.page; sheet = blank_sheet }) c.page_count.ensures.below refl (free_here c.self.inside.held.space c.in-Some.page c.in-Some.ensures.least)))

pub invariant_of-self-2 : goal.invariant_of-self-2
invariant_of-self-2 g c = rw (c.add_free-2.ensures.added, c.in-Err.ensures.same, c.in-Some.ensures.taken, put_back g.D.Reader.Reader.content c.self.inside.heap.now c.self.inside.mutator c.self.inside.held c.self.inside.tag c.self.invariant (rw (← c.self.view_is) at c.requires.space) c.in-Some.page (free_here c.self.inside.held.space c.in-Some.page c.in-Some.ensures.least)) c.self.invariant

pub returns-clause-refused : goal.returns-clause-refused
returns-clause-refused g c = (refl, rw (← c.self.view_is) (rw (c.add_free-2.ensures.added, c.in-Err.ensures.same, c.in-Some.ensures.taken, put_back g.D.Reader.Reader.content c.self.inside.heap.now c.self.inside.mutator c.self.inside.held c.self.inside.tag c.self.invariant (rw (← c.self.view_is) at c.requires.space) c.in-Some.page (free_here c.self.inside.held.space c.in-Some.page c.in-Some.ensures.least)) refl))
