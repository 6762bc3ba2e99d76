use Rattle.pm3_types.proofs.Parts.{part_of_with}
use Rattle.pm3_graph.proofs.Framing.{frame_of_steps}
use Rattle.pm3_graph.proofs.laws.frame.Goals as goal

pub returns-clause-step : goal.returns-clause-step
returns-clause-step c = frame_of_steps

pub returns-clause-part : goal.returns-clause-part
returns-clause-part c = part_of_with
