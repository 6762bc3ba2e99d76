use Rattle.std.proofs.Common.{refl}
use Rattle.pm3_types.specs.Fields.{is_reference}
use Rattle.oo7_schema.proofs.worked.tiny_deletion.Goals as goal

pub returns-clause-parts : goal.returns-clause-parts
unfolding is_reference
returns-clause-parts c = refl

pub returns-clause-younger : goal.returns-clause-younger
unfolding is_reference
returns-clause-younger c = refl
