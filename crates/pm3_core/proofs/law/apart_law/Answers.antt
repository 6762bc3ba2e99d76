use Rattle.pm3_core.proofs.Kept.{opening_apart, after_apart}
use Rattle.pm3_core.proofs.law.apart_law.Goals as goal

pub returns-clause-opening : goal.returns-clause-opening
returns-clause-opening c = opening_apart

pub returns-clause-event : goal.returns-clause-event
returns-clause-event c = after_apart
