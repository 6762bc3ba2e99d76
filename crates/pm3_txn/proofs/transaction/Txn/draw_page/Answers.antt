use Rattle.std.proofs.Common.{◌-◌, max, inl, arith}
use Rattle.pm3_txn.proofs.Growing.{paged_underway, has_drawn_page, pages_full_underway, pages_full}
use Rattle.pm3_txn.proofs.transaction.Txn.draw_page.Goals as goal

pub invariant_of-self-in-Err : goal.invariant_of-self-in-Err
invariant_of-self-in-Err g c = rw c.in-Err.ensures.full.1 (rw c.in-Ok.ensures.room (pages_full_underway g.D.Reader.Reader.content c.self.inside.heap.now c.self.inside.mutator c.self.inside.held c.self.inside.tag c.self.invariant (rw (← c.self.view_is) at c.requires.space) (λ s. max s.room 1) (rw c.in-Err.ensures.full.1 at c.draw_page.ensures.kept)))

pub invariant_of-self-2 : goal.invariant_of-self-2
invariant_of-self-2 g c = rw (c.add_free.ensures.added, c.in-Ok.ensures.room) (rw c.in-Ok-draw_page.ensures.drawn.2 (paged_underway g.D.Reader.Reader.content c.self.inside.heap.now c.self.inside.mutator c.self.inside.held c.self.inside.tag c.self.invariant (rw (← c.self.view_is) at c.requires.space) (λ s. max s.room 1) c.in-Ok-draw_page.page (let from = c.in-Ok-draw_page.ensures.drawn.1.from in let least = c.page_count.ensures.least in omega (arith, from, least)) c.in-Ok-draw_page.ensures.drawn.0 c.in-Ok-draw_page.ensures.drawn.1 (λ s. s.room - 1) (rw c.in-Ok-draw_page.ensures.drawn.2 at c.draw_page.ensures.kept)))

pub returns-clause-drawn : goal.returns-clause-drawn
returns-clause-drawn g c = rw (← c.self.view_is) (rw (c.add_free.ensures.added, c.in-Ok.ensures.room) (rw c.in-Ok-draw_page.ensures.drawn.2 (has_drawn_page g.D.Reader.Reader.content c.self.inside.heap.now c.self.inside.mutator c.self.inside.held c.self.inside.tag c.self.invariant (rw (← c.self.view_is) at c.requires.space) (λ s. max s.room 1) c.in-Ok-draw_page.page (let from = c.in-Ok-draw_page.ensures.drawn.1.from in let least = c.page_count.ensures.least in omega (arith, from, least)) c.in-Ok-draw_page.ensures.drawn.0 c.in-Ok-draw_page.ensures.drawn.1 (λ s. s.room - 1))))

pub returns-in-Err-clause-refused : goal.returns-in-Err-clause-refused
returns-in-Err-clause-refused g c = rw (← c.self.view_is) (rw c.of_full.ensures (rw c.in-Err.ensures.full.0 (rw c.in-Err.ensures.full.1 (rw c.in-Ok.ensures.room (inl (pages_full g.D.Reader.Reader.content c.self.inside.heap.now c.self.inside.mutator c.self.inside.held c.self.inside.tag c.self.invariant (rw (← c.self.view_is) at c.requires.space) (λ s. max s.room 1)))))))
