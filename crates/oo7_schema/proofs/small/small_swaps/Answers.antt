use Rattle.std.proofs.Common.{refl}
use Rattle.pm3_types.specs.Fields.{is_reference}
use Rattle.oo7_schema.proofs.small.small_swaps.Goals as goal

pub returns-clause-visits : goal.returns-clause-visits
unfolding is_reference
returns-clause-visits c = refl

pub returns-clause-roots : goal.returns-clause-roots
unfolding is_reference
returns-clause-roots c = refl

pub returns-clause-parts : goal.returns-clause-parts
unfolding is_reference
returns-clause-parts c = refl

pub returns-clause-four : goal.returns-clause-four
unfolding is_reference
returns-clause-four c = refl
