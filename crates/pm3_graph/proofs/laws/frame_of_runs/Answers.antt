use Rattle.pm3_graph.proofs.Framing.{frame_of_runs}
use Rattle.pm3_graph.proofs.laws.frame_of_runs.Goals as goal

pub returns : goal.returns
returns c = frame_of_runs
