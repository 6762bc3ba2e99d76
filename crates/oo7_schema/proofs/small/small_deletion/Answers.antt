use Rattle.std.proofs.Common.{refl}
use Rattle.pm3_types.specs.Fields.{is_reference}
use Rattle.oo7_schema.proofs.small.small_deletion.Goals as goal

pub returns-clause-taken : goal.returns-clause-taken
unfolding is_reference
returns-clause-taken c = refl

pub returns-clause-parts : goal.returns-clause-parts
unfolding is_reference
returns-clause-parts c = refl

pub returns-clause-visits : goal.returns-clause-visits
unfolding is_reference
returns-clause-visits c = refl
