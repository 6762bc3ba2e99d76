use Rattle.pm3_core.specs.declared.naming.TheConstants.{BASE}
use Rattle.pm3_copy.proofs.Waiting.{AreWaitingBelow}
use Rattle.pm3_copy.proofs.finds.wait_for.Given as goal

abbrev pub invariant-loop-i : goal.invariant-loop-i
invariant-loop-i l = record { waiting : AreWaitingBelow BASE l.blocks.by_page.items l.blocks.words l.objects l.i l.waiting.items }
