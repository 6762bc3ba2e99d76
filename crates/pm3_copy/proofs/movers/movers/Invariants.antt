use Rattle.std.proofs.Common.{◌≤◌, ◌-◌, length}
use Rattle.pm3_core.specs.declared.naming.TheConstants.{BASE}
use Rattle.pm3_copy.specs.Spreading.{ArePassed, ArePicked}
use Rattle.pm3_copy.proofs.movers.movers.Given as goal

abbrev pub invariant-loop-first : goal.invariant-loop-first
invariant-loop-first l = record {
  picked : ArePicked BASE l.pinned l.but l.found l.first l.list.items;
  passed : ArePassed l.found.objects l.but l.first l.next;
  low : l.first ≤ length l.found.objects;
}

abbrev pub decreases-loop-first : goal.decreases-loop-first
decreases-loop-first l = length l.found.objects - l.first
