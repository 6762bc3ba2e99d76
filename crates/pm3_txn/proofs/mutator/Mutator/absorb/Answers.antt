use Rattle.pm3_txn.specs.States.{MutatorState}
use Rattle.pm3_txn.proofs.Belonging.{belongs_joined}
use Rattle.pm3_txn.proofs.mutator.Mutator.absorb.Goals as goal

pub returns-clause-kept : goal.returns-clause-kept
returns-clause-kept g c =
    let was : MutatorState g.row.D-Reader.Denot = record { pass = c.self.inside.pass; space = c.self.inside.space; reader = c.self.inside.reader; refs = c.self.inside.refs.items; wrote = c.self.inside.wrote.items; next_name = c.self.inside.next_name } in
    rw (← c.heap.view_is)
    (belongs_joined _ _ was c.end_pass.new.pass c.other.inside.pass.1 c.end_pass.ensures.view c.end_pass.ensures.lawful (rw (← c.heap.view_is, ← c.self.view_is) at c.requires.of))
