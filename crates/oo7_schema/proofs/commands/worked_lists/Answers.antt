use Rattle.std.proofs.Common.{refl}
use Rattle.oo7_schema.proofs.commands.worked_lists.Goals as goal

pub returns-clause-jobs : goal.returns-clause-jobs
returns-clause-jobs c = refl

pub returns-clause-right : goal.returns-clause-right
returns-clause-right c = refl

pub returns-clause-wrong : goal.returns-clause-wrong
returns-clause-wrong c = refl
