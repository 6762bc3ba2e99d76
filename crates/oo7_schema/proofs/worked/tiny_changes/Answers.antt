use Rattle.std.proofs.Common.{refl}
use Rattle.pm3_types.specs.Fields.{is_reference}
use Rattle.oo7_schema.proofs.worked.tiny_changes.Goals as goal

pub returns-clause-swapped : goal.returns-clause-swapped
unfolding is_reference
returns-clause-swapped c = refl

pub returns-clause-turned : goal.returns-clause-turned
unfolding is_reference
returns-clause-turned c = refl
