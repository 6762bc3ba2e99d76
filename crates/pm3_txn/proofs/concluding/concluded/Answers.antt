use Rattle.std.proofs.Common.{ℕ, [], ◌∷◌, refl, sym, ap, subst}
use Rattle.pm3_page.specs.PageMap.{Images}
use Rattle.pm3_history.specs.Entry.{Done}
use Rattle.pm3_table.specs.declared.view.View.{View}
use Rattle.pm3_table.specs.Words.{turn_unit}
use Rattle.pm3_txn.specs.Aborting.{AreOwed}
use Rattle.pm3_txn.specs.Committing.{done_by}
use Rattle.pm3_txn.specs.States.{MutatorState}
use Rattle.pm3_txn.proofs.GivenBack.{all_given, others_owed, owed_after, parts_apart, written_owed}
use Rattle.pm3_txn.proofs.TurnTaken.{given_turn, given_units}
use Rattle.pm3_txn.proofs.concluding.concluded.Goals as goal

pub give_all-requires-clause-owed : goal.give_all-requires-clause-owed
give_all-requires-clause-owed g c =
    let told = c.args.heap.now.1 in let v : View = c.args.mutator.pass.1 in let w : View = c.end_turn.new.self.pass.1 in
    let d : Done = done_by c.args.mutator.pass.1.row c.args.entry.now c.args.parted in
    subst (λ (images : Images). AreOwed told w images) (sym c.finish-pages.ensures.pages)
    (others_owed told v w c.args.parted d (g.D.Disk.faults c.args.turn.journal.disk) c.requires.under c.requires.parted (refl, refl) (ap (λ (m : MutatorState _). m.pass.1) c.end_turn.ensures.ended))

pub give_all-requires-2-clause-owed : goal.give_all-requires-2-clause-owed
give_all-requires-2-clause-owed g c =
    let told = c.args.heap.now.1 in let v : View = c.args.mutator.pass.1 in let w : View = c.end_turn.new.self.pass.1 in
    let d : Done = done_by c.args.mutator.pass.1.row c.args.entry.now c.args.parted in
    let given = ap (λ (m : MutatorState _). m.pass.1) c.end_turn.ensures.ended in
    subst (λ (images : Images). AreOwed told c.give_all.new.mutator.pass.1 images) (sym c.finish-pages.ensures.written)
    (owed_after told v w c.args.parted d (g.D.Disk.faults c.args.turn.journal.disk) c.requires.under c.requires.parted (refl, refl) given
    c.give_all.new.mutator.pass.1 c.args.parted.rest.pages.images c.args.parted.written.images (ap (λ (m : MutatorState _). m.pass.1.seen) c.give_all.ensures.given)
    (rw c.finish-pages.ensures.pages at c.give_all.ensures.others)
    (parts_apart told v w c.args.parted d (g.D.Disk.faults c.args.turn.journal.disk) c.requires.under c.requires.parted (refl, refl) given)
    (written_owed told v w c.args.parted d (g.D.Disk.faults c.args.turn.journal.disk) c.requires.under c.requires.parted (refl, refl) given))

pub returns-clause-bare : goal.returns-clause-bare
returns-clause-bare g c =
    let told = c.args.heap.now.1 in let v : View = c.args.mutator.pass.1 in let w : View = c.end_turn.new.self.pass.1 in
    let d : Done = done_by c.args.mutator.pass.1.row c.args.entry.now c.args.parted in
    let given = ap (λ (m : MutatorState _). m.pass.1) c.end_turn.ensures.ended in
    all_given told v w c.args.parted d (g.D.Disk.faults c.args.turn.journal.disk) c.requires.under c.requires.parted (refl, refl) given
    c.give_all.new.mutator.pass.1 c.give_all-2.new.mutator.pass.1
    (rw c.finish-pages.ensures.pages at c.give_all.ensures.gone) (rw c.finish-pages.ensures.pages at c.give_all.ensures.others)
    (rw c.finish-pages.ensures.written at c.give_all-2.ensures.gone) (rw c.finish-pages.ensures.written at c.give_all-2.ensures.others)

pub returns-clause-given : goal.returns-clause-given
returns-clause-given g c =
    let d : Done = done_by c.args.mutator.pass.1.row c.args.entry.now c.args.parted in
    let faults : ℕ = g.D.Disk.faults c.args.turn.journal.disk in
    given_units c.args.mutator c.give_all.new.mutator c.give_all-2.new.mutator (d ∷ []) [] faults
    (given_units c.args.mutator c.end_turn.new.self c.give_all.new.mutator (d ∷ []) [] faults
    (given_turn c.args.mutator c.end_turn.new.self (turn_unit c.args.heap.now.1.pages) (d ∷ []) [] faults c.end_turn.ensures.ended) c.give_all.ensures.given) c.give_all-2.ensures.given
