use Rattle.pm3_txn.proofs.OwnerSteps.{takes_go_further, gives_go_further, draws_are_alike, settles_spread}
use Rattle.pm3_txn.proofs.laws.step_law.Goals as goal

pub returns : goal.returns
returns c = record { takes = takes_go_further; gives = gives_go_further; draws = draws_are_alike; settles = settles_spread }
