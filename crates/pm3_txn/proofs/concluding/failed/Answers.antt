use Rattle.std.proofs.Common.{◌∙◌, sym, ap}
use Rattle.pm3_access.specs.Parting.{joined}
use Rattle.pm3_table.specs.Words.{turn_unit}
use Rattle.pm3_txn.specs.Committing.{done_by, failed_by}
use Rattle.pm3_txn.specs.States.{MutatorState}
use Rattle.pm3_txn.specs.Underway.{IsUnder}
use Rattle.pm3_txn.proofs.Cleared.{alone_all, alone_owed, alone_space}
use Rattle.pm3_txn.proofs.GivenBack.{failed_heard, has_failed, under_given}
use Rattle.pm3_txn.proofs.Touched.{no_more}
use Rattle.pm3_txn.proofs.concluding.failed.Goals as goal

pub restored-requires-clause-known : goal.restored-requires-clause-known
restored-requires-clause-known g c q tagged none = c.fail_turn.ensures.kept.known q tagged

pub restored-requires-clause-owed : goal.restored-requires-clause-owed
restored-requires-clause-owed g c =
    let told = c.args.heap.now.1 in
    let is = c.fail_turn.ensures.ended in
    let under : IsUnder told c.fail_turn.new.self.pass.1 (joined c.args.parted) = under_given told c.args.mutator.pass.1 c.fail_turn.new.self.pass.1 (joined c.args.parted) c.requires.under
    (ap (λ (m : MutatorState _). m.pass.1.seen) is ∙ sym (no_more c.args.mutator.pass.1.seen)) (ap (λ (m : MutatorState _). m.pass.1.holds) is) c.fail_turn.ensures.kept.mutator.lawful in
    alone_owed told c.fail_turn.new.self.pass.1 (joined c.args.parted) under c.undo.result.pages.images c.undo.ensures.pages

pub restored-requires-clause-space : goal.restored-requires-clause-space
restored-requires-clause-space g c =
    alone_space c.args.heap.now.1 c.fail_turn.new.self.pass.1 c.fail_turn.new.self.space (joined c.args.parted) c.requires.under.alone c.undo.result.space c.undo.ensures.space

pub restored-requires-clause-all : goal.restored-requires-clause-all
restored-requires-clause-all g c =
    let told = c.args.heap.now.1 in
    let is = c.fail_turn.ensures.ended in
    let under : IsUnder told c.fail_turn.new.self.pass.1 (joined c.args.parted) = under_given told c.args.mutator.pass.1 c.fail_turn.new.self.pass.1 (joined c.args.parted) c.requires.under
    (ap (λ (m : MutatorState _). m.pass.1.seen) is ∙ sym (no_more c.args.mutator.pass.1.seen)) (ap (λ (m : MutatorState _). m.pass.1.holds) is) c.fail_turn.ensures.kept.mutator.lawful in
    alone_all told c.fail_turn.new.self.pass.1 c.fail_turn.new.self.space (joined c.args.parted) under c.undo.result.pages.images c.undo.result.space c.undo.ensures.pages

pub returns-clause-failed : goal.returns-clause-failed
returns-clause-failed g c =
    has_failed c.args.mutator c.fail_turn.new.self c.restored.result (turn_unit c.args.heap.now.1.pages) (failed_by c.args.fault (done_by c.args.mutator.pass.1.row c.args.entry.now c.args.parted))
    (g.D.Disk.faults c.args.turn.journal.disk) c.fail_turn.ensures.ended c.requires.may.heard c.restored.ensures.cleared

pub returns-clause-heard : goal.returns-clause-heard
returns-clause-heard g c =
    failed_heard c.args.mutator c.fail_turn.new.self c.restored.result (turn_unit c.args.heap.now.1.pages) (failed_by c.args.fault (done_by c.args.mutator.pass.1.row c.args.entry.now c.args.parted))
    (g.D.Disk.faults c.args.turn.journal.disk) c.fail_turn.ensures.ended c.restored.ensures.cleared
