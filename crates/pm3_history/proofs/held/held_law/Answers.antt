use Rattle.pm3_history.proofs.Holding.{homes_stay, homes_stand, held_shows_on}
use Rattle.pm3_history.proofs.held.held_law.Goals as goal

pub returns : goal.returns
returns c = record { stay = homes_stay; stand = homes_stand; shown = held_shows_on }
