use Rattle.pm3_access.proofs.HeldObjects.{map_of}
use Rattle.pm3_access.proofs.ReadSteps.{read_step, read_known, no_read_step}
use Rattle.pm3_access.proofs.laws.read_law.Goals as goal

pub returns-clause-value : goal.returns-clause-value
returns-clause-value c = λ catalog base book h a n map place v held is. read_step catalog base book h a n map place held v is

pub returns-clause-no_place : goal.returns-clause-no_place
returns-clause-no_place c = λ catalog base book h a n map place held none. no_read_step catalog base book h a n map place held none

pub returns-clause-known : goal.returns-clause-known
returns-clause-known c = λ catalog base book h a n map place v held names is. read_known catalog base book h a n map place held v names is

pub returns-clause-map : goal.returns-clause-map
returns-clause-map c = λ catalog base pages h a sound object. map_of catalog base pages h a sound object
