use Rattle.std.proofs.Common.{◌-◌, ◌≤◌}
use Rattle.pm3_core.specs.declared.naming.TheConstants.{BASE}
use Rattle.pm3_types.specs.Layout.{word_in}
use Rattle.pm3_copy.specs.Finds.{Adds}
use Rattle.pm3_copy.proofs.References.{RefersBelow}
use Rattle.pm3_copy.proofs.finding.find_referred.Given as goal

abbrev pub invariant-loop-place : goal.invariant-loop-place
invariant-loop-place l = record { found : Adds (RefersBelow l.catalog l.image.sheet (word_in BASE l.at) l.from) l.fn.found l.found; low : l.from ≤ 512 }

abbrev pub decreases-loop-place : goal.decreases-loop-place
decreases-loop-place l = 512 - l.from
