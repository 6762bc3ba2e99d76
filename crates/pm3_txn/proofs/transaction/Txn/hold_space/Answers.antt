use Rattle.std.proofs.Common.{◌∙◌, sym}
use Rattle.pm3_table.specs.Words.{space_unit}
use Rattle.pm3_txn.proofs.CommitSteps.{bare_space}
use Rattle.pm3_txn.proofs.SpaceTaken.{space_free, own_absent, space_underway, space_taken, back_underway, space_given_back}
use Rattle.pm3_txn.proofs.Touched.{away_underway}
use Rattle.pm3_txn.proofs.transaction.Txn.hold_space.Goals as goal

pub take_space-requires-clause-free : goal.take_space-requires-clause-free
take_space-requires-clause-free g c = space_free g.D.Disk g.D.Reader.Reader.content c.self.inside.heap.now c.self.inside.mutator c.self.inside.held c.self.inside.tag c.self.invariant c.page_count.ensures.below (bare_space c.self.inside.held.space (sym c.has_space.ensures ∙ c.if-has_space.false))

pub invariant_of-self : goal.invariant_of-self
invariant_of-self g c = away_underway g.D.Reader.Reader.content c.self.inside.heap.now c.self.inside.mutator c.take_space.new.self c.self.inside.held c.self.inside.tag
    (space_unit c.self.inside.heap.now.1.pages c.self.inside.mutator.space) c.in-Err.busy.word c.in-Err.ensures.busy.2 c.self.invariant c.take_space.ensures.kept

pub admit_space-requires-clause-absent : goal.admit_space-requires-clause-absent
admit_space-requires-clause-absent g c = own_absent g.D.Disk g.D.Reader.Reader.content c.self.inside.heap.now c.self.inside.mutator c.self.inside.held c.self.inside.tag c.self.invariant c.page_count.ensures.below (bare_space c.self.inside.held.space (sym c.has_space.ensures ∙ c.if-has_space.false)) c.take_space.new.self c.in-Ok.space c.in-Ok.ensures.taken c.take_space.ensures.kept

pub invariant_of-self-in_default : goal.invariant_of-self-in_default
invariant_of-self-in_default g c = rw c.in_default.ensures.admitted (space_underway g.D.Disk g.D.Reader.Reader.content c.self.inside.heap.now c.self.inside.mutator c.self.inside.held c.self.inside.tag c.self.invariant c.page_count.ensures.below (bare_space c.self.inside.held.space (sym c.has_space.ensures ∙ c.if-has_space.false)) c.take_space.new.self c.in-Ok.space c.in-Ok.ensures.taken c.take_space.ensures.kept c.frame_of_runs.ensures)

pub returns-in_default-clause-taken : goal.returns-in_default-clause-taken
returns-in_default-clause-taken g c = rw (← c.self.view_is) (rw c.in_default.ensures.admitted (space_taken g.D.Disk g.D.Reader.Reader.content c.self.inside.heap.now c.self.inside.mutator c.self.inside.held c.self.inside.tag c.self.invariant c.page_count.ensures.below (bare_space c.self.inside.held.space (sym c.has_space.ensures ∙ c.if-has_space.false)) c.take_space.new.self c.in-Ok.space c.in-Ok.ensures.taken c.take_space.ensures.kept c.frame_of_runs.ensures))

pub invariant_of-self-2 : goal.invariant_of-self-2
invariant_of-self-2 g c = rw c.in-Err-admit_space.ensures.same (back_underway g.D.Disk g.D.Reader.Reader.content c.self.inside.heap.now c.self.inside.mutator c.self.inside.held c.self.inside.tag c.self.invariant c.page_count.ensures.below (bare_space c.self.inside.held.space (sym c.has_space.ensures ∙ c.if-has_space.false)) c.take_space.new.self c.in-Ok.space c.in-Ok.ensures.taken c.take_space.ensures.kept c.give_space.new.self c.give_space.ensures.given c.give_space.ensures.kept)

pub returns-clause-refused : goal.returns-clause-refused
returns-clause-refused g c = rw (← c.self.view_is) (rw c.in-Err-admit_space.ensures.same (space_given_back g.D.Disk g.D.Reader.Reader.content c.self.inside.heap.now c.self.inside.mutator c.self.inside.held c.self.inside.tag c.self.invariant c.page_count.ensures.below (bare_space c.self.inside.held.space (sym c.has_space.ensures ∙ c.if-has_space.false)) c.take_space.new.self c.in-Ok.space c.in-Ok.ensures.taken c.take_space.ensures.kept c.give_space.new.self c.give_space.ensures.given c.give_space.ensures.kept))
