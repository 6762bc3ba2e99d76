use Rattle.std.proofs.Common.{refl}
use Rattle.pm3_types.specs.Fields.{is_reference}
use Rattle.oo7_schema.proofs.small.small_traversals.Goals as goal

pub returns-clause-t1 : goal.returns-clause-t1
unfolding is_reference
returns-clause-t1 c = refl

pub returns-clause-t2_a : goal.returns-clause-t2_a
unfolding is_reference
returns-clause-t2_a c = refl

pub returns-clause-t2_b : goal.returns-clause-t2_b
unfolding is_reference
returns-clause-t2_b c = refl

pub returns-clause-t2_c : goal.returns-clause-t2_c
unfolding is_reference
returns-clause-t2_c c = refl

pub returns-clause-t3_a : goal.returns-clause-t3_a
unfolding is_reference
returns-clause-t3_a c = refl

pub returns-clause-t3_b : goal.returns-clause-t3_b
unfolding is_reference
returns-clause-t3_b c = refl

pub returns-clause-t3_c : goal.returns-clause-t3_c
unfolding is_reference
returns-clause-t3_c c = refl

pub returns-clause-t6 : goal.returns-clause-t6
unfolding is_reference
returns-clause-t6 c = refl

pub returns-clause-t8 : goal.returns-clause-t8
unfolding is_reference
returns-clause-t8 c = refl

pub returns-clause-t9 : goal.returns-clause-t9
unfolding is_reference
returns-clause-t9 c = refl
