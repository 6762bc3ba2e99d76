use Rattle.std.proofs.Common.{◌+◌, ◌*◌, ◌-◌}
use Rattle.pm3_core.specs.declared.naming.TheConstants.{BASE}
use Rattle.pm3_copy.proofs.Collecting.{AreAdded}
use Rattle.pm3_copy.proofs.objects.add_objects.Given as goal

abbrev pub invariant-loop-next : goal.invariant-loop-next
invariant-loop-next l = AreAdded BASE l.image l.at l.fn.list.items l.list.items

abbrev pub decreases-loop-next : goal.decreases-loop-next
decreases-loop-next l = BASE + 4096 * (l.image.page + 1) - l.at
