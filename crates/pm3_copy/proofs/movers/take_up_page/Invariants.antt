use Rattle.pm3_core.specs.declared.naming.TheConstants.{BASE}
use Rattle.pm3_copy.specs.Spreading.{ArePassed, ArePicked}
use Rattle.pm3_copy.proofs.movers.take_up_page.Given as goal

abbrev pub invariant-loop-i : goal.invariant-loop-i
invariant-loop-i l = record { picked : ArePicked BASE l.pinned l.but l.found l.i l.list.items; passed : ArePassed l.found.objects l.but l.i l.next }
