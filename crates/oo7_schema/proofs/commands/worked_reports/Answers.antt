use Rattle.std.proofs.Common.{refl}
use Rattle.pm3_types.specs.Fields.{is_reference}
use Rattle.std.specs.Fmt.{digits}
use Rattle.oo7_schema.proofs.commands.worked_reports.Goals as goal

pub returns-clause-first : goal.returns-clause-first
unfolding is_reference digits
returns-clause-first c = refl

pub returns-clause-second : goal.returns-clause-second
unfolding is_reference digits
returns-clause-second c = refl
