use Rattle.pm3_types.proofs.Meeting.{meets_the_reached, meets_once, computes_the_closure}
use Rattle.pm3_types.proofs.laws.numberings.Goals as goal

pub returns-clause-reached : goal.returns-clause-reached
returns-clause-reached c = meets_the_reached

pub returns-clause-once : goal.returns-clause-once
returns-clause-once c = meets_once

pub returns-clause-closure : goal.returns-clause-closure
returns-clause-closure c = computes_the_closure
