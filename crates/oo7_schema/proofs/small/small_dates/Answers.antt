use Rattle.std.proofs.Common.{refl}
use Rattle.pm3_types.specs.Fields.{is_reference}
use Rattle.oo7_schema.proofs.small.small_dates.Goals as goal

pub returns-clause-roots : goal.returns-clause-roots
unfolding is_reference
returns-clause-roots c = refl

pub returns-clause-ten : goal.returns-clause-ten
unfolding is_reference
returns-clause-ten c = refl

pub returns-clause-hundred : goal.returns-clause-hundred
unfolding is_reference
returns-clause-hundred c = refl

pub returns-clause-four : goal.returns-clause-four
unfolding is_reference
returns-clause-four c = refl
