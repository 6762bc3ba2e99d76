use Rattle.pm3_journal.proofs.Mending.{nothing_mends}
use Rattle.pm3_journal.proofs.laws.nothing_mends.Goals as goal

pub returns : goal.returns
returns c = nothing_mends
