use Rattle.pm3_txn.proofs.RowReads.{read_underway}
use Rattle.pm3_txn.proofs.transaction.Txn.row_word.Goals as goal

pub invariant_of-self : goal.invariant_of-self
invariant_of-self g c = read_underway g.D.Reader.Reader.content c.self.inside.heap.now c.self.inside.mutator c.read_word.new.self c.self.inside.held c.self.inside.tag c.args.i
    c.read_word.ensures.read c.self.invariant c.read_word.ensures.kept
