use Rattle.pm3_history.proofs.Filing.{openings_are_bounded, histories_are_bounded}
use Rattle.pm3_history.proofs.chronicle.bounds_law.Goals as goal

pub returns : goal.returns
returns c = record { opening = openings_are_bounded; kept = histories_are_bounded }
