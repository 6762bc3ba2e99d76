use Rattle.std.proofs.Common.{◌≡◌, replicate, None}
use Rattle.pm3_core.proofs.page_marks.no_readings.Given as goal

abbrev pub invariant-loop-page : goal.invariant-loop-page
invariant-loop-page l = l.readings.items ≡ replicate l._page None
