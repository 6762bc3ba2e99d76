use Rattle.std.proofs.Common.{◌≤◌, ◌<◌, ◌+◌, length}
use Rattle.pm3_core.specs.declared.naming.TheConstants.{BASE}
use Rattle.pm3_copy.specs.Spreading.{AreOnOne}
use Rattle.pm3_copy.proofs.finds.Found.last_on_page.Given as goal

abbrev pub invariant-loop-step : goal.invariant-loop-step
invariant-loop-step l = record {
  behind : l.first ≤ l.last;
  low : l.last < length l.self.objects;
  page : AreOnOne BASE l.self.objects l.first (l.last + 1);
}

abbrev pub decreases-loop-step : goal.decreases-loop-step
decreases-loop-step l = l.step
