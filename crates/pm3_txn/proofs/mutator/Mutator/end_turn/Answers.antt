use Rattle.std.proofs.Common.{refl, sym, subst}
use Rattle.pm3_table.specs.Ops.{turned}
use Rattle.pm3_table.specs.Words.{turn_unit}
use Rattle.pm3_txn.specs.States.{MutatorState}
use Rattle.pm3_txn.specs.Underway.{Belongs}
use Rattle.pm3_txn.proofs.Belonging.{belongs_turned}
use Rattle.pm3_txn.proofs.mutator.Mutator.end_turn.Goals as goal

pub returns-clause-kept : goal.returns-clause-kept
returns-clause-kept g c =
    let was : MutatorState g.row.D-Reader.Denot = c.args.self.now in
    let unit = turn_unit c.args.heap.now.1.pages in
    let faults = g.D.Disk.faults c.args.turn.journal.disk in
    subst (λ (m : MutatorState g.row.D-Reader.Denot). Belongs g.D.Reader.Reader.content c.args.heap.now m) (sym c.give_back.ensures.ended)
    (belongs_turned g.D.Reader.Reader.content c.args.heap.now was (was.pass.0, turned unit was.pass.1 g.commits.0 g.commits.1 faults) unit g.commits.0 g.commits.1 faults (refl, refl) c.requires.1.1.1.1.may.lawful c.requires.1.1.0)
