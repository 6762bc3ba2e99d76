use Rattle.pm3_journal.proofs.OneOpening.{opens_once}
use Rattle.pm3_journal.proofs.laws.opens_to_one_graph.Goals as goal

pub returns : goal.returns
returns c = λ base file journal g h. opens_once base file journal g h
