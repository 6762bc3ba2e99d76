use Rattle.std.proofs.Common.{◌-◌, ◌≤◌}
use Rattle.pm3_core.specs.declared.naming.TheConstants.{BASE}
use Rattle.pm3_copy.proofs.Collecting.{AreBelow}
use Rattle.pm3_copy.proofs.objects.objects_of.Given as goal

abbrev pub invariant-loop-page : goal.invariant-loop-page
invariant-loop-page l = record { objects : AreBelow BASE l.images.images l.from l.list.items; low : l.from ≤ 16384 }

abbrev pub decreases-loop-page : goal.decreases-loop-page
decreases-loop-page l = 16384 - l.from
