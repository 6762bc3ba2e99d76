use Rattle.std.proofs.Common.{◌-◌, ◌≤◌}
use Rattle.std.specs.FinMap as map
use Rattle.pm3_copy.proofs.Freeing.{AreFreed}
use Rattle.pm3_copy.proofs.planning.unpinned.Given as goal

abbrev pub invariant-loop-page : goal.invariant-loop-page
invariant-loop-page l = record { freed : AreFreed (map.contains_key l.images.images) l.pinned l.from l.freed; low : l.from ≤ 16384 }

abbrev pub decreases-loop-page : goal.decreases-loop-page
decreases-loop-page l = 16384 - l.from
