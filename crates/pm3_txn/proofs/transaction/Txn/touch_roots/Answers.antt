use Rattle.std.proofs.Common.{ℕ, subst}
use Rattle.pm3_txn.specs.Refusals.{IsTouchRefusal}
use Rattle.pm3_txn.proofs.transaction.Txn.touch_roots.Goals as goal

pub returns-in-Err-clause-refused : goal.returns-in-Err-clause-refused
returns-in-Err-clause-refused g c =
    subst (λ (page : ℕ). IsTouchRefusal g.D.Reader.Reader.faults c.args.self.now c.touch.new.self page c.in-Err.fault) c.roots_page-page.ensures.page c.in-Err.ensures.refused
