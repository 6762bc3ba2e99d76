use Rattle.pm3_access.proofs.GrowSteps.{left_unchanged, found_unchanged, still_in_place, found_drawn, part_drawn, fits_drawn}
use Rattle.pm3_access.proofs.laws.grow_law.Goals as goal

pub returns-clause-left : goal.returns-clause-left
returns-clause-left c = λ catalog base book h image space absent blank apart. part_drawn h image space absent catalog base book blank apart

pub returns-clause-found : goal.returns-clause-found
returns-clause-found c = λ h image space absent. found_drawn h image space absent

pub returns-clause-fits : goal.returns-clause-fits
returns-clause-fits c = λ catalog base book h image space absent blank apart away fits. fits_drawn h image space absent catalog base book blank apart away fits

pub returns-clause-free_left : goal.returns-clause-free_left
returns-clause-free_left c = λ h change images. left_unchanged h change images

pub returns-clause-free_found : goal.returns-clause-free_found
returns-clause-free_found c = λ h change images. found_unchanged h change images

pub returns-clause-free_place : goal.returns-clause-free_place
returns-clause-free_place c = λ h change images places. still_in_place h change images places
