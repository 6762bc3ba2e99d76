use Rattle.pm3_graph.proofs.Writing.{writes_stand}
use Rattle.pm3_graph.proofs.laws.written_places.Goals as goal

pub returns : goal.returns
returns c = writes_stand
