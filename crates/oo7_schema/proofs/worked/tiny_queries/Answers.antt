use Rattle.std.proofs.Common.{refl}
use Rattle.pm3_types.specs.Fields.{is_reference}
use Rattle.oo7_schema.proofs.worked.tiny_queries.Goals as goal

pub returns-clause-q1 : goal.returns-clause-q1
unfolding is_reference
returns-clause-q1 c = refl

pub returns-clause-q2 : goal.returns-clause-q2
unfolding is_reference
returns-clause-q2 c = refl

pub returns-clause-q3 : goal.returns-clause-q3
unfolding is_reference
returns-clause-q3 c = refl

pub returns-clause-q4 : goal.returns-clause-q4
unfolding is_reference
returns-clause-q4 c = refl

pub returns-clause-q5 : goal.returns-clause-q5
unfolding is_reference
returns-clause-q5 c = refl

pub returns-clause-q7 : goal.returns-clause-q7
unfolding is_reference
returns-clause-q7 c = refl
