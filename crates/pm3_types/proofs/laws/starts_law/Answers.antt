use Rattle.pm3_types.proofs.Starts.{starts_are}
use Rattle.pm3_types.proofs.laws.starts_law.Goals as goal

pub returns : goal.returns
returns c = λ catalog words a b one other. starts_are catalog words a b one other
