use Rattle.pm3_txn.proofs.Beginning.{begun_txn}
use Rattle.pm3_txn.proofs.mutator.Mutator.begin.Goals as goal

pub invariant_of-result : goal.invariant_of-result
invariant_of-result g c = begun_txn g.D.Reader.Reader.content c.args.heap.now c.args.self c.unwritten-mutator.result c.new-held.result c.args.tag
    c.requires.of c.requires.bare c.unwritten-mutator.ensures c.new-held.ensures.nothing
