use Rattle.pm3_types.specs.PassMoves.{moved_by}
use Rattle.pm3_types.specs.PassSets.{IsDead}
use Rattle.pm3_types.proofs.PassCarried.{fits_after, shown_after, lost_after, only_after, roots_after}
use Rattle.pm3_types.proofs.PassClosed.{dead_closed}
use Rattle.pm3_copy.proofs.laws.carried_law.Goals as goal

pub returns-clause-fits : goal.returns-clause-fits
returns-clause-fits c = λ catalog base before fresh all now space written book new pass.
    fits_after catalog base (moved_by pass.done.moves) (IsDead catalog base before) all now book new pass.done.addresses pass.done.carried
    (dead_closed catalog base before all pass.joined pass.no_roots) pass.after pass.fits pass.apart

pub returns-clause-shows : goal.returns-clause-shows
returns-clause-shows c = λ catalog base before fresh all now space written book new pass.
    shown_after catalog base (moved_by pass.done.moves) (IsDead catalog base before) all now book new pass.done.addresses pass.done.carried
    (dead_closed catalog base before all pass.joined pass.no_roots) pass.after pass.fits pass.apart

pub returns-clause-less : goal.returns-clause-less
returns-clause-less c = λ catalog base before fresh all now space written book new pass.
    lost_after catalog base (moved_by pass.done.moves) (IsDead catalog base before) all now book new pass.done.addresses pass.done.carried
    (dead_closed catalog base before all pass.joined pass.no_roots) pass.after pass.fits pass.apart

pub returns-clause-only : goal.returns-clause-only
returns-clause-only c = λ catalog base before fresh all now space written book new pass.
    only_after catalog base (moved_by pass.done.moves) (IsDead catalog base before) all now book new pass.done.addresses pass.done.carried
    (dead_closed catalog base before all pass.joined pass.no_roots) pass.after pass.fits pass.apart

pub returns-clause-roots : goal.returns-clause-roots
returns-clause-roots c = λ catalog base before fresh all now space written book new pass.
    roots_after catalog base (moved_by pass.done.moves) (IsDead catalog base before) all now book new pass.done.addresses pass.done.carried
    (dead_closed catalog base before all pass.joined pass.no_roots) pass.after pass.fits pass.apart
