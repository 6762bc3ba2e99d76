use Rattle.pm3_graph.proofs.Keeping.{keeps_graphs, keeps_parts, keeps_fits}
use Rattle.pm3_graph.proofs.laws.kept_by_steps.Goals as goal

pub returns-clause-graphs : goal.returns-clause-graphs
returns-clause-graphs c = keeps_graphs

pub returns-clause-parts : goal.returns-clause-parts
returns-clause-parts c = keeps_parts

pub returns-clause-fits : goal.returns-clause-fits
returns-clause-fits c = keeps_fits
