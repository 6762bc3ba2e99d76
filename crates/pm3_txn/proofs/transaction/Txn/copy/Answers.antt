use Rattle.std.proofs.Common.{inl, true, false, slice_index_or, refl}
use Rattle.pm3_table.specs.Deeds.{word_of}
use Rattle.pm3_txn.proofs.Advancing.{put_marked, put_underway, put_placed}
use Rattle.pm3_txn.proofs.Keeping.{place_here}
use Rattle.pm3_txn.proofs.transaction.Txn.copy.Goals as goal

pub invariant_of-self : goal.invariant_of-self
invariant_of-self g c = put_underway g.D.Reader.Reader.content c.self.inside.heap.now c.self.inside.mutator c.copy_word.new.self c.self.inside.held c.self.inside.tag c.args.j 0 true c.in-Err.ensures.cleared c.requires.low.1 (λ _. inl refl) c.self.invariant c.copy_word.ensures.kept

pub invariant_of-self-2 : goal.invariant_of-self-2
invariant_of-self-2 g c = put_underway g.D.Reader.Reader.content c.self.inside.heap.now c.self.inside.mutator c.copy_word.new.self c.self.inside.held c.self.inside.tag c.args.j (word_of c.self.inside.mutator.pass.1.log c.args.i) (slice_index_or c.self.inside.mutator.refs c.args.i false)
    c.in_default.ensures.put c.requires.low.1
    (λ tagged. place_here c.self.inside.heap.now.1 c.self.inside.mutator.pass.1 c.self.inside.mutator.space c.self.inside.held (slice_index_or c.self.inside.mutator.wrote c.args.i false) (word_of c.self.inside.mutator.pass.1.log c.args.i)
    c.self.invariant.holding (c.self.invariant.known c.args.i tagged)) c.self.invariant c.copy_word.ensures.kept

pub returns-clause-placed : goal.returns-clause-placed
returns-clause-placed g c = rw (← c.self.view_is) (put_placed g.D.Reader.Reader.content c.self.inside.heap.now c.self.inside.mutator c.copy_word.new.self c.self.inside.held c.self.inside.tag c.args.j (word_of c.self.inside.mutator.pass.1.log c.args.i) (slice_index_or c.self.inside.mutator.refs c.args.i false)
    c.in_default.ensures.put c.in_default.ensures.pinned c.in_default.ensures.calm)

pub returns-in-Err-clause-marked : goal.returns-in-Err-clause-marked
returns-in-Err-clause-marked g c = rw (← c.self.view_is) (put_marked g.D.Reader.Reader.content c.self.inside.heap.now c.self.inside.mutator c.copy_word.new.self c.self.inside.held c.self.inside.tag c.args.j (word_of c.self.inside.mutator.pass.1.log c.args.i) c.in-Err.busy c.in-Err.ensures.cleared c.in-Err.ensures.marked)
