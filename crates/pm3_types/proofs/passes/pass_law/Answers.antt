use Rattle.pm3_types.specs.PassSets.{IsDead}
use Rattle.pm3_types.proofs.PassCarried.{fits_after, shown_after, lost_after, only_after, roots_after}
use Rattle.pm3_types.proofs.PassClosed.{dead_closed}
use Rattle.pm3_types.proofs.passes.pass_law.Goals as goal

pub returns-clause-fits : goal.returns-clause-fits
returns-clause-fits c catalog base before to all now book new pass =
    fits_after catalog base to (IsDead catalog base before) all now book new pass.addresses pass.carried (dead_closed catalog base before all pass.joined pass.no_roots) pass.after pass.fits
    pass.fresh

pub returns-clause-shows : goal.returns-clause-shows
returns-clause-shows c catalog base before to all now book new pass =
    shown_after catalog base to (IsDead catalog base before) all now book new pass.addresses pass.carried (dead_closed catalog base before all pass.joined pass.no_roots) pass.after pass.fits
    pass.fresh

pub returns-clause-less : goal.returns-clause-less
returns-clause-less c catalog base before to all now book new pass =
    lost_after catalog base to (IsDead catalog base before) all now book new pass.addresses pass.carried (dead_closed catalog base before all pass.joined pass.no_roots) pass.after pass.fits
    pass.fresh

pub returns-clause-only : goal.returns-clause-only
returns-clause-only c catalog base before to all now book new pass =
    only_after catalog base to (IsDead catalog base before) all now book new pass.addresses pass.carried (dead_closed catalog base before all pass.joined pass.no_roots) pass.after pass.fits
    pass.fresh

pub returns-clause-roots : goal.returns-clause-roots
returns-clause-roots c catalog base before to all now book new pass =
    roots_after catalog base to (IsDead catalog base before) all now book new pass.addresses pass.carried (dead_closed catalog base before all pass.joined pass.no_roots) pass.after pass.fits
    pass.fresh
