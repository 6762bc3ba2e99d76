use Rattle.std.proofs.Common.{refl, sym, ap, ◌∙◌}
use Rattle.std.specs.FinMap.{get}
use Rattle.pm3_types.proofs.PassLater.{nothing_later}
use Rattle.pm3_types.proofs.passes.standing_law.Goals as goal

pub returns-clause-stays : goal.returns-clause-stays
returns-clause-stays c = λ catalog base before to book new a n after has same alive.
    ap (get new) (sym same) ∙ after.has a n has (alive a refl)

pub returns-clause-later : goal.returns-clause-later
returns-clause-later c = nothing_later
