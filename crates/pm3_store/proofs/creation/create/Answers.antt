use Rattle.std.proofs.Common.{arith, rules}
use Rattle.pm3_core.specs.declared.naming.TheConstants.{BASE}
use Rattle.pm3_store.proofs.Fresh.{made_opens}
use Rattle.pm3_store.proofs.creation.create.Goals as goal

pub returns-clause-ends : goal.returns-clause-ends
returns-clause-ends g c = search rules

pub returns-clause-opens : goal.returns-clause-opens
returns-clause-opens g c is_catalog file told bytes told_journal =
    let ends = returns-clause-ends g c in
    made_opens BASE c.args.count c.args.catalog.now (omega arith) c.requires.few c.requires.most is_catalog _ _ _ _ ends.1.0 ends.1.1 file bytes told told_journal
