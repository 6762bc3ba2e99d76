use Rattle.std.proofs.Common.{inl, true, refl}
use Rattle.pm3_txn.proofs.Advancing.{put_underway}
use Rattle.pm3_txn.proofs.transaction.Txn.clear.Goals as goal

pub invariant_of-self : goal.invariant_of-self
invariant_of-self g c = put_underway g.D.Reader.Reader.content c.self.inside.heap.now c.self.inside.mutator c.clear_word.new.self c.self.inside.held c.self.inside.tag c.args.j 0 true c.clear_word.ensures.put c.requires.low (λ _. inl refl) c.self.invariant c.clear_word.ensures.kept
