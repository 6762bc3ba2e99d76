use Rattle.pm3_history.proofs.Chronicles.{openings_are_chronicled, histories_keep, nothing_is_lost, nothing_is_volatile}
use Rattle.pm3_history.proofs.Staying.{persistent_stay}
use Rattle.pm3_history.proofs.Names.{names_are_made}
use Rattle.pm3_history.proofs.chronicle.chronicle_law.Goals as goal

pub returns : goal.returns
returns c = record {
  opening = openings_are_chronicled;
  kept = histories_keep;
  nothing_lost = nothing_is_lost;
  nothing_volatile = nothing_is_volatile;
  persistent = persistent_stay;
  made = names_are_made;
}
