use Rattle.std.proofs.Common.{◌-◌, length}
use Rattle.pm3_core.specs.declared.naming.TheConstants.{BASE}
use Rattle.pm3_copy.proofs.Turning.{IsPromoting}
use Rattle.pm3_copy.proofs.spreading.promote.Given as goal

abbrev pub invariant-loop-next : goal.invariant-loop-next
invariant-loop-next l = IsPromoting l.catalog BASE l.volatile.images l.written.images l.pinned l.fn.found.objects l.found l.turned l.next

abbrev pub decreases-loop-next : goal.decreases-loop-next
decreases-loop-next l = length l.fn.found.objects - l.next
