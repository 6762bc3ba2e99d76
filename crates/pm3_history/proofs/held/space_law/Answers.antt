use Rattle.pm3_history.proofs.Sparing.{spaces_stay, persistent_are_written}
use Rattle.pm3_history.proofs.Spacing.{spaces_stand, spaces_are_left, known_stay}
use Rattle.pm3_history.proofs.held.space_law.Goals as goal

pub returns : goal.returns
returns c = record { stand = spaces_stand; stay = spaces_stay; written = persistent_are_written; left = spaces_are_left; known = known_stay }
