use Rattle.std.proofs.Common.{refl}
use Rattle.pm3_copy.proofs.LaterPasses.{others_quiet, gone_from, planned_away}
use Rattle.pm3_copy.proofs.laws.promoted_law.Goals as goal

pub returns-clause-stays : goal.returns-clause-stays
returns-clause-stays c = λ catalog base before fresh all now space written done joined later more moves same are a is.
    others_quiet catalog base later more moves are _ (gone_from catalog base before fresh all now space written done joined later same a is) _ refl

pub returns-clause-planned : goal.returns-clause-planned
returns-clause-planned c = planned_away
