use Rattle.oo7_index.proofs.Lawful.{none_departs}
use Rattle.oo7_index.proofs.laws.departures.Goals as goal

pub returns : goal.returns
returns c = none_departs
