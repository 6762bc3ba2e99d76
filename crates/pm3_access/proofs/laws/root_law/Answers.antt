use Rattle.pm3_access.proofs.RootCalls.{root_read, root_write, rooted_in_place}
use Rattle.pm3_access.proofs.laws.root_law.Goals as goal

pub returns-clause-read : goal.returns-clause-read
returns-clause-read c = λ catalog base h slot a low is. root_read catalog base h slot a low is

pub returns-clause-write : goal.returns-clause-write
returns-clause-write c = λ catalog base h new slot a low places is. root_write h new slot a places is low catalog base

pub returns-clause-place : goal.returns-clause-place
returns-clause-place c = λ h new slot a places is. rooted_in_place h new slot a places is
