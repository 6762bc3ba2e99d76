use Rattle.std.proofs.Common.{◌-◌, ◌≤◌, ◌≡◌, Some}
use Rattle.std.specs.FinMap as map
use Rattle.pm3_core.specs.declared.naming.TheConstants.{BASE}
use Rattle.pm3_types.specs.Layout.{PageImage}
use Rattle.pm3_copy.specs.Finds.{Adds}
use Rattle.pm3_copy.specs.References.{RefersOn}
use Rattle.pm3_copy.proofs.References.{LeadsBelow}
use Rattle.pm3_copy.proofs.finding.find_from_images.Given as goal

abbrev pub invariant-loop-page : goal.invariant-loop-page
invariant-loop-page l = record {
  adds : Adds (LeadsBelow (map.contains_key l.images.images) (λ p b. (image : PageImage) × (map.get l.images.images p ≡ Some image) × RefersOn l.catalog BASE image b) l.from) l.fn.found l.found;
  low : l.from ≤ 16384;
}

abbrev pub decreases-loop-page : goal.decreases-loop-page
decreases-loop-page l = 16384 - l.from
