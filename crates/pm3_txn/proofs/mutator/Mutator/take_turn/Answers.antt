use Rattle.pm3_table.specs.declared.unit.Unit.TheVariants.{Turn}
use Rattle.pm3_table.specs.Words.{turn_unit}
use Rattle.pm3_txn.specs.States.{MutatorState}
use Rattle.pm3_txn.proofs.Belonging.{mutator_tried}
use Rattle.pm3_txn.proofs.mutator.Mutator.take_turn.Goals as goal

pub returns-clause-kept : goal.returns-clause-kept
returns-clause-kept g c =
    let was : MutatorState g.row.D-Reader.Denot = record { pass = c.self.inside.pass; space = c.self.inside.space; reader = c.self.inside.reader; refs = c.self.inside.refs.items; wrote = c.self.inside.wrote.items; next_name = c.self.inside.next_name } in
    rw (← c.heap.view_is)
    (mutator_tried _ _ g.D.Disk was c.take.new.pass (turn_unit c.heap.inside.shared.1.pages) Turn c.take.result c.take.ensures.taken c.take.ensures.busy (rw (← c.heap.view_is, ← c.self.view_is) at c.requires.of))
