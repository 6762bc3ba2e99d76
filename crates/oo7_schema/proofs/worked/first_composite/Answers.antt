use Rattle.std.proofs.Common.{refl}
use Rattle.pm3_types.specs.Fields.{is_reference}
use Rattle.oo7_schema.proofs.worked.first_composite.Goals as goal

pub returns-clause-date : goal.returns-clause-date
unfolding is_reference
returns-clause-date c = refl

pub returns-clause-first : goal.returns-clause-first
unfolding is_reference
returns-clause-first c = refl

pub returns-clause-last : goal.returns-clause-last
unfolding is_reference
returns-clause-last c = refl

pub returns-clause-from_first : goal.returns-clause-from_first
unfolding is_reference
returns-clause-from_first c = refl

pub returns-clause-from_last : goal.returns-clause-from_last
unfolding is_reference
returns-clause-from_last c = refl
