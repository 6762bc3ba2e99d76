use Rattle.std.proofs.Common.{◌≡◌, ◌∙◌, Err, sym, ap, subst}
use Rattle.pm3_disk.specs.Faults.{Rose}
use Rattle.pm3_txn.specs.States.{MutatorState}
use Rattle.pm3_txn.proofs.Advancing.{moment}
use Rattle.pm3_txn.proofs.Touched.{away_underway, taken_page, held_underway, held_touched, back_underway, given_back, load_refusal, turned_away}
use Rattle.pm3_txn.proofs.transaction.Txn.take_page.Goals as goal

pub invariant_of-self : goal.invariant_of-self
invariant_of-self g c = away_underway g.D.Reader.Reader.content c.self.inside.heap.now c.self.inside.mutator c.take.new.self c.self.inside.held c.self.inside.tag c.args.page c.in-Err.busy.word
    c.in-Err.ensures.busy.2 c.self.invariant c.take.ensures.kept

pub image_of-requires-clause-page : goal.image_of-requires-clause-page
image_of-requires-clause-page g c = taken_page g.D.Disk g.D.Reader.Reader.content g.D.Reader.Reader.faults c.self.inside.heap.now c.self.inside.mutator c.self.inside.held c.self.inside.tag c.args.page
    c.self.invariant c.page_count.ensures.below (rw (← c.self.view_is) at c.requires.absent) (rw (← c.self.view_is) at c.requires.page) c.take.new.self c.in-Ok.slot c.in-Ok.ensures.taken

pub invariant_of-self-in-Err-image_of : goal.invariant_of-self-in-Err-image_of
invariant_of-self-in-Err-image_of g c = back_underway g.D.Disk g.D.Reader.Reader.content g.D.Reader.Reader.faults c.self.inside.heap.now c.self.inside.mutator c.self.inside.held c.self.inside.tag c.args.page
    c.self.invariant c.page_count.ensures.below (rw (← c.self.view_is) at c.requires.absent) (rw (← c.self.view_is) at c.requires.page) c.take.new.self c.image_of.new.self c.in-Ok.slot c.in-Ok.ensures.taken c.take.ensures.kept c.image_of.ensures.rest
    c.give.new.self c.give.ensures.given c.give.ensures.kept

pub returns-in-Err-image_of-clause-refused : goal.returns-in-Err-image_of-clause-refused
returns-in-Err-image_of-clause-refused g c = rw (← c.self.view_is) (rw c.of_load.ensures (
    let same : c.give.new.self.reader ≡ c.image_of.new.self.reader = ap (λ (x : MutatorState _). x.reader) c.give.ensures.given in
    let before : c.take.new.self.reader ≡ c.self.inside.mutator.reader = ap (λ (x : MutatorState _). x.reader) c.in-Ok.ensures.taken.rest in
    load_refusal g.D.Reader.Reader.content g.D.Reader.Reader.faults
    (moment c.self.inside.heap.now c.self.inside.tag c.self.inside.mutator c.self.inside.held) (moment c.self.inside.heap.now c.self.inside.tag c.give.new.self c.self.inside.held) c.args.page c.in-Err-image_of.fault
    c.in-Err-image_of.ensures.read
    (λ e. subst (λ r. Rose (g.D.Reader.Reader.faults r) (g.D.Reader.Reader.faults c.give.new.self.reader)) before
    (subst (λ r. Rose (g.D.Reader.Reader.faults c.take.new.self.reader) (g.D.Reader.Reader.faults r)) (sym same) (c.image_of.ensures.cause (c.in-Err-image_of.is ∙ ap Err e))))
    (given_back g.D.Disk g.D.Reader.Reader.content g.D.Reader.Reader.faults c.self.inside.heap.now c.self.inside.mutator c.self.inside.held c.self.inside.tag c.args.page
    c.self.invariant c.page_count.ensures.below (rw (← c.self.view_is) at c.requires.absent) (rw (← c.self.view_is) at c.requires.page) c.take.new.self c.image_of.new.self c.in-Ok.slot c.in-Ok.ensures.taken c.take.ensures.kept c.image_of.ensures.rest
    c.give.new.self c.give.ensures.given c.give.ensures.kept)))

pub invariant_of-self-in_default : goal.invariant_of-self-in_default
invariant_of-self-in_default g c = rw c.in_default.ensures.admitted (held_underway g.D.Disk g.D.Reader.Reader.content g.D.Reader.Reader.faults c.self.inside.heap.now c.self.inside.mutator c.self.inside.held c.self.inside.tag c.args.page
    c.self.invariant c.page_count.ensures.below (rw (← c.self.view_is) at c.requires.absent) (rw (← c.self.view_is) at c.requires.page) c.take.new.self c.image_of.new.self c.in-Ok.slot c.in-Ok.ensures.taken c.take.ensures.kept c.image_of.ensures.rest c.frame_of_runs.ensures (rw (← c.self.view_is) at c.requires.home) c.in-Ok-image_of.image c.in-Ok-image_of.ensures.image)

pub returns-in_default-clause-touched : goal.returns-in_default-clause-touched
returns-in_default-clause-touched g c = rw (← c.self.view_is) (rw c.in_default.ensures.admitted (held_touched g.D.Disk g.D.Reader.Reader.content g.D.Reader.Reader.faults c.self.inside.heap.now c.self.inside.mutator c.self.inside.held c.self.inside.tag c.args.page
    c.self.invariant c.page_count.ensures.below (rw (← c.self.view_is) at c.requires.absent) (rw (← c.self.view_is) at c.requires.page) c.take.new.self c.image_of.new.self c.in-Ok.slot c.in-Ok.ensures.taken c.take.ensures.kept c.image_of.ensures.rest c.frame_of_runs.ensures (rw (← c.self.view_is) at c.requires.home) c.in-Ok-image_of.image c.in-Ok-image_of.ensures.image))

pub invariant_of-self-2 : goal.invariant_of-self-2
invariant_of-self-2 g c = rw c.in-Err-admit.ensures.same (back_underway g.D.Disk g.D.Reader.Reader.content g.D.Reader.Reader.faults c.self.inside.heap.now c.self.inside.mutator c.self.inside.held c.self.inside.tag c.args.page
    c.self.invariant c.page_count.ensures.below (rw (← c.self.view_is) at c.requires.absent) (rw (← c.self.view_is) at c.requires.page) c.take.new.self c.image_of.new.self c.in-Ok.slot c.in-Ok.ensures.taken c.take.ensures.kept c.image_of.ensures.rest
    c.give-2.new.self c.give-2.ensures.given c.give-2.ensures.kept)

pub returns-clause-refused : goal.returns-clause-refused
returns-clause-refused g c = rw (← c.self.view_is) (rw c.in-Err-admit.ensures.same (given_back g.D.Disk g.D.Reader.Reader.content g.D.Reader.Reader.faults c.self.inside.heap.now c.self.inside.mutator c.self.inside.held c.self.inside.tag c.args.page
    c.self.invariant c.page_count.ensures.below (rw (← c.self.view_is) at c.requires.absent) (rw (← c.self.view_is) at c.requires.page) c.take.new.self c.image_of.new.self c.in-Ok.slot c.in-Ok.ensures.taken c.take.ensures.kept c.image_of.ensures.rest
    c.give-2.new.self c.give-2.ensures.given c.give-2.ensures.kept))

pub returns-in-Err-clause-refused : goal.returns-in-Err-clause-refused
returns-in-Err-clause-refused g c = rw (← c.self.view_is) (
  c.in-Err.ensures.busy.0,
  turned_away g.D.Disk g.D.Reader.Reader.content g.D.Reader.Reader.faults c.self.inside.heap.now c.self.inside.mutator c.self.inside.held c.self.inside.tag c.args.page
      c.self.invariant c.page_count.ensures.below (rw (← c.self.view_is) at c.requires.absent) (rw (← c.self.view_is) at c.requires.page) c.take.new.self c.in-Err.busy.word c.in-Err.ensures.busy.2 c.in-Err.ensures.busy.1,
)
