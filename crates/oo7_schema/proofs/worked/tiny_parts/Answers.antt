use Rattle.std.proofs.Common.{refl}
use Rattle.pm3_types.specs.Fields.{is_reference}
use Rattle.oo7_schema.proofs.worked.tiny_parts.Goals as goal

pub returns-clause-made : goal.returns-clause-made
unfolding is_reference
returns-clause-made c = refl

pub returns-clause-then : goal.returns-clause-then
unfolding is_reference
returns-clause-then c = refl

pub returns-clause-taken : goal.returns-clause-taken
unfolding is_reference
returns-clause-taken c = refl

pub returns-clause-rest : goal.returns-clause-rest
unfolding is_reference
returns-clause-rest c = refl
