use Rattle.std.proofs.Common.{◌≡◌, ◌-◌}
use Rattle.pm3_table_trials.specs.Filled.{filled}
use Rattle.pm3_table_trials.proofs.Blank.{spaced}
use Rattle.pm3_table_trials.proofs.tables.first_homes.Given as goal

abbrev pub invariant-loop-page : goal.invariant-loop-page
invariant-loop-page l = l.homes ≡ filled l.page (49 - l.page)

abbrev pub invariant-loop-space : goal.invariant-loop-space
invariant-loop-space l = l.homes ≡ spaced l.used l.space
