use Rattle.std.proofs.Common.{◌∙◌, refl, sym, ap}
use Rattle.std.specs.FinMap.{get}
use Rattle.pm3_copy.proofs.LaterPasses.{pinned_quiet, others_quiet}
use Rattle.pm3_copy.proofs.laws.quiet_law.Goals as goal

pub returns-clause-kept : goal.returns-clause-kept
returns-clause-kept c = λ catalog base before fresh all now space written book new pass a n has quiet.
    ap (get new) (sym (quiet a refl).0) ∙ pass.after.has a n has (quiet a refl).1

pub returns-clause-pinned : goal.returns-clause-pinned
returns-clause-pinned c = pinned_quiet

pub returns-clause-others : goal.returns-clause-others
returns-clause-others c = others_quiet
