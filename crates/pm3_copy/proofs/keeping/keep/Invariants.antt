use Rattle.std.proofs.Common.{◌-◌, length}
use Rattle.pm3_core.specs.declared.naming.TheConstants.{BASE}
use Rattle.pm3_copy.proofs.Stayers.{IsKeeping}
use Rattle.pm3_copy.proofs.keeping.keep.Given as goal

abbrev pub invariant-loop-next : goal.invariant-loop-next
invariant-loop-next l = IsKeeping l.catalog BASE l.volatile.images l.pinned l.fn.found l.found l.next

abbrev pub decreases-loop-next : goal.decreases-loop-next
decreases-loop-next l = length l.fn.found.objects - l.next
