use Rattle.std.proofs.Common.{[], ◌∷◌, sym, subst}
use Rattle.pm3_core.specs.Machine.{Machine, opening, reached}
use Rattle.pm3_core.specs.Law.{PinnedBefore}
use Rattle.pm3_core.proofs.Kept.{reached_apart, cleared_unpinned}
use Rattle.pm3_core.proofs.Begins.{run-append, after_pinned, run_pinned}
use Rattle.pm3_core.proofs.law.pinning_law.Goals as goal

pub returns-clause-moves : goal.returns-clause-moves
returns-clause-moves c pages events who page step =
    cleared_unpinned pages (reached pages events) who page (reached_apart pages events) step.1

pub returns-clause-begins : goal.returns-clause-begins
returns-clause-begins c pages events event n page marks =
    let P : Machine → Type 0 = λ m. PinnedBefore pages (reached pages events) m n page in
    subst P (sym (run-append pages events (event ∷ []) opening)) (after_pinned pages (reached pages events) event n page marks)

pub returns-clause-until_unmark : goal.returns-clause-until_unmark
returns-clause-until_unmark c pages events more n page marks leave =
    let P : Machine → Type 0 = λ m. PinnedBefore pages (reached pages events) m n page in
    subst P (sym (run-append pages events more opening)) (run_pinned pages more (reached pages events) n page marks leave)
