use Rattle.pm3_history.proofs.Histories.{goes_on, graph_is, lawful_parts, loose_is_lawful}
use Rattle.pm3_history.proofs.law.history_law.Goals as goal

pub returns : goal.returns
returns c = record { goes_on = goes_on; graph = graph_is; lawful = lawful_parts; loose = loose_is_lawful }
