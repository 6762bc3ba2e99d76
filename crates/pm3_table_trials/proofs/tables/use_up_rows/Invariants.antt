use Rattle.std.proofs.Common.{◌≡◌}
use Rattle.pm3_table_trials.proofs.tables.use_up_rows.Given as goal

abbrev pub invariant-loop-n : goal.invariant-loop-n
invariant-loop-n l = l.pass.0 ≡ l.initial.pass.0
