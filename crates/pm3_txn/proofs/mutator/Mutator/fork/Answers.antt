use Rattle.std.proofs.Common.{sym, subst}
use Rattle.pm3_txn.specs.Forks.{IsFork}
use Rattle.pm3_txn.specs.States.{MutatorState}
use Rattle.pm3_txn.specs.Underway.{Belongs}
use Rattle.pm3_txn.proofs.RowCopied.{copied_for, fork_belongs, is_fork}
use Rattle.pm3_txn.proofs.mutator.Mutator.fork.Goals as goal

pub returns-clause-made : goal.returns-clause-made
returns-clause-made g c =
    let maker : MutatorState g.row.D-Reader.Denot = c.args.self.now in
    subst (λ (m : MutatorState g.row.D-Reader.Denot). IsFork c.args.heap.now.1.pages maker m c.args.reader) (sym c.unwritten.ensures)
    (is_fork c.args.heap.now.1.pages maker c.in-Ok.made c.copy_row.new.made c.args.reader c.in-Ok.ensures.made.1
    (copied_for c.args.heap.now.1.pages maker c.fresh.new.self c.in-Ok.made c.in_space_of-made.result c.copy_row.new.made c.in-Ok.ensures.made.0 c.in_space_of-made.ensures c.in_default.ensures.copied))

pub returns-clause-belongs : goal.returns-clause-belongs
returns-clause-belongs g c =
    let maker : MutatorState g.row.D-Reader.Denot = c.args.self.now in
    subst (λ (m : MutatorState g.row.D-Reader.Denot). Belongs g.D.Reader.Reader.content c.args.heap.now m) (sym c.unwritten.ensures)
    (fork_belongs c.args.heap.now.1.pages maker c.in-Ok.made c.copy_row.new.made c.args.reader c.in-Ok.ensures.made.1
    (copied_for c.args.heap.now.1.pages maker c.fresh.new.self c.in-Ok.made c.in_space_of-made.result c.copy_row.new.made c.in-Ok.ensures.made.0 c.in_space_of-made.ensures c.in_default.ensures.copied)
    g.D.Reader.Reader.content c.args.heap.now c.requires.of c.copy_row.ensures.other)
