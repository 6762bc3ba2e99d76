use Rattle.std.proofs.Common.{◌≡◌, Some, subst}
use Rattle.pm3_access.specs.Roots.{root_held}
use Rattle.pm3_txn.specs.Underway.{IsUnderway}
use Rattle.pm3_txn.proofs.RootSteps.{root_here, root_word_here}
use Rattle.pm3_txn.proofs.transaction.Txn.read_root.Goals as goal

pub returns-clause-read : goal.returns-clause-read
returns-clause-read g c =
    root_here g.D.Reader.Reader.content c.args.self.now c.touch_roots.new.self c.args.slot c.root-at.result c.requires.low
    (subst (IsUnderway g.D.Reader.Reader.content) c.self.view_is c.self.invariant) c.in_default.ensures.touched
    (subst (λ t. root_held t.held c.args.slot ≡ Some c.root-at.result) c.self.view_is c.root-at.ensures.value)

pub returns-clause-known : goal.returns-clause-known
returns-clause-known g c =
    root_word_here g.D.Reader.Reader.content c.args.self.now c.touch_roots.new.self c.args.slot c.root-at.result c.requires.low
    (subst (IsUnderway g.D.Reader.Reader.content) c.self.view_is c.self.invariant) c.in_default.ensures.touched
    (subst (λ t. root_held t.held c.args.slot ≡ Some c.root-at.result) c.self.view_is c.root-at.ensures.value)
