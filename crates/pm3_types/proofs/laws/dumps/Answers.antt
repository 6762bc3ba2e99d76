use Rattle.std.proofs.Common.{◌∙◌, refl}
use Rattle.std.specs.Fmt.{digits}
use Rattle.pm3_types.specs.Fields.{is_reference}
use Rattle.pm3_types.specs.Tried.{tried_catalog}
use Rattle.pm3_types.proofs.Dumping.{dump-sorted}
use Rattle.pm3_types.proofs.laws.dumps.Goals as goal

pub returns-clause-one : goal.returns-clause-one
unfolding digits is_reference
returns-clause-one c = dump-sorted tried_catalog _ _ tt ∙ refl

pub returns-clause-knot : goal.returns-clause-knot
unfolding digits is_reference
returns-clause-knot c = dump-sorted tried_catalog _ _ tt ∙ refl
