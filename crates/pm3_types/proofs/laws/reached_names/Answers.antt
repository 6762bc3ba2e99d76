use Rattle.pm3_types.proofs.Closures.{one_closure, alike_closures, parts_reach, closure_is_closed, reached_with}
use Rattle.pm3_types.proofs.laws.reached_names.Goals as goal

pub returns-clause-one_closure : goal.returns-clause-one_closure
returns-clause-one_closure c = one_closure

pub returns-clause-alike : goal.returns-clause-alike
returns-clause-alike c = alike_closures

pub returns-clause-parts : goal.returns-clause-parts
returns-clause-parts c = parts_reach

pub returns-clause-closed : goal.returns-clause-closed
returns-clause-closed c = closure_is_closed

pub returns-clause-with : goal.returns-clause-with
returns-clause-with c = reached_with
