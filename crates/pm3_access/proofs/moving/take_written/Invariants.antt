use Rattle.std.proofs.Common.{◌≤◌, ◌-◌}
use Rattle.pm3_access.proofs.Moved.{IsSortedTo}
use Rattle.pm3_access.proofs.moving.take_written.Given as goal

abbrev pub invariant-loop-page : goal.invariant-loop-page
invariant-loop-page l = record { sorted : IsSortedTo l.fn.pages l.found.images l.pages l.written l.from; low : l.from ≤ 16384 }

abbrev pub decreases-loop-page : goal.decreases-loop-page
decreases-loop-page l = 16384 - l.from
