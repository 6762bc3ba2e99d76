use Rattle.std.proofs.Common.{◌≡◌, ℕ, Some, subst}
use Rattle.pm3_txn.specs.Describing.{IsNameHere}
use Rattle.pm3_txn.specs.ObjectValues.{name_held}
use Rattle.pm3_txn.specs.States.{told_in, view_in}
use Rattle.pm3_txn.specs.Underway.{IsUnderway}
use Rattle.pm3_txn.proofs.ObjectsHeld.{name_known, holding_sound}
use Rattle.pm3_txn.proofs.transaction.Txn.name_of.Goals as goal

pub name_at-name-requires-clause-form : goal.name_at-name-requires-clause-form
name_at-name-requires-clause-form g c = holding_sound c.self.inside.heap.now.1 c.self.inside.mutator.pass.1 c.self.inside.mutator.space c.self.inside.held c.self.invariant.holding

pub returns-clause-named : goal.returns-clause-named
returns-clause-named g c =
    let underway = subst (IsUnderway g.D.Reader.Reader.content) c.self.view_is c.self.invariant in
    subst (λ (a : ℕ). IsNameHere (told_in c.object.new.self) (view_in c.object.new.self) c.object.new.self.held a c.name_at-name.result) c.in-Ok.ensures.there.word
    (name_known (told_in c.object.new.self) (view_in c.object.new.self) c.object.new.self.mutator.space c.object.new.self.held c.in-Ok.at c.name_at-name.result
    underway.holding c.in-Ok.ensures.there.known c.in-Ok.ensures.there.object
    (subst (λ t. name_held t.held c.in-Ok.at ≡ Some c.name_at-name.result) c.self.view_is c.name_at-name.ensures))
