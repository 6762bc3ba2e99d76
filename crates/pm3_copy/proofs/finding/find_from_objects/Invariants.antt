use Rattle.std.proofs.Common.{◌+◌, ◌*◌, ◌-◌}
use Rattle.pm3_core.specs.declared.naming.TheConstants.{BASE}
use Rattle.pm3_types.specs.Layout.{word_in}
use Rattle.pm3_copy.specs.Finds.{Adds}
use Rattle.pm3_copy.specs.References.{RefersIn}
use Rattle.pm3_copy.proofs.References.{LeadsUpTo}
use Rattle.pm3_copy.proofs.finding.find_from_objects.Given as goal

abbrev pub invariant-loop-next : goal.invariant-loop-next
invariant-loop-next l = Adds (LeadsUpTo BASE l.image (λ a. RefersIn l.catalog l.image.sheet (word_in BASE a)) l.at) l.fn.found l.found

abbrev pub decreases-loop-next : goal.decreases-loop-next
decreases-loop-next l = BASE + 4096 * (l.image.page + 1) - l.at
