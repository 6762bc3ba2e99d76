use Rattle.std.proofs.Common.{subst, sym}
use Rattle.pm3_page.specs.PageMap.{Images}
use Rattle.pm3_txn.specs.Aborting.{AreAll, AreOwed}
use Rattle.pm3_txn.proofs.Cleared.{found_all, found_owed, space_owed, unwritten_known}
use Rattle.pm3_txn.proofs.transaction.Txn.abort.Goals as goal

pub restored-requires-clause-known : goal.restored-requires-clause-known
restored-requires-clause-known g c = unwritten_known g.D.Reader.Reader.content (record { heap = c.self.inside.heap.now; mutator = c.self.inside.mutator; held = c.self.inside.held; tag = c.self.inside.tag }) c.self.invariant

pub restored-requires-clause-owed : goal.restored-requires-clause-owed
restored-requires-clause-owed g c =
    subst (λ (images : Images). AreOwed c.self.inside.heap.now.1 c.self.inside.mutator.pass.1 images) (sym c.undo.ensures.pages)
    (found_owed c.self.inside.heap.now.1 c.self.inside.mutator.pass.1 c.self.inside.mutator.space c.self.inside.held c.self.invariant.holding)

pub restored-requires-clause-space : goal.restored-requires-clause-space
restored-requires-clause-space g c =
    space_owed c.self.inside.heap.now.1 c.self.inside.mutator.pass.1 c.self.inside.mutator.space c.self.inside.held c.undo.result.space c.self.invariant.holding c.undo.ensures.space

pub restored-requires-clause-all : goal.restored-requires-clause-all
restored-requires-clause-all g c =
    subst (λ (images : Images). AreAll c.self.inside.heap.now.1 c.self.inside.mutator.pass.1 c.self.inside.mutator.space images c.undo.result.space) (sym c.undo.ensures.pages)
    (found_all c.self.inside.heap.now.1 c.self.inside.mutator.pass.1 c.self.inside.mutator.space c.self.inside.held c.undo.result.space c.self.invariant.holding c.undo.ensures.space)
