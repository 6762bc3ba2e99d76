use Rattle.std.proofs.Common.{refl}
use Rattle.std.specs.Fmt.{digits}
use Rattle.oo7_schema.proofs.commands.worked_lines.Goals as goal

pub returns-clause-seed : goal.returns-clause-seed
unfolding digits
returns-clause-seed c = refl

pub returns-clause-greatest : goal.returns-clause-greatest
unfolding digits
returns-clause-greatest c = refl

pub returns-clause-too_great : goal.returns-clause-too_great
unfolding digits
returns-clause-too_great c = refl

pub returns-clause-leading_zero : goal.returns-clause-leading_zero
unfolding digits
returns-clause-leading_zero c = refl

pub returns-clause-two_spaces : goal.returns-clause-two_spaces
unfolding digits
returns-clause-two_spaces c = refl

pub returns-clause-nothing : goal.returns-clause-nothing
unfolding digits
returns-clause-nothing c = refl
