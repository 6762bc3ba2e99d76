use Rattle.std.proofs.Common.{◌-◌, ◌≤◌, ◌≡◌}
use Rattle.std.specs.FinSet as set
use Rattle.pm3_core.specs.declared.naming.TheConstants.{BASE}
use Rattle.pm3_types.specs.Layout.{page_in}
use Rattle.pm3_copy.specs.Finds.{Adds}
use Rattle.pm3_copy.specs.Whole.{IsObjectOf}
use Rattle.pm3_copy.proofs.References.{LeadsBelow}
use Rattle.pm3_copy.proofs.finding.find_on_pages.Given as goal

abbrev pub invariant-loop-page : goal.invariant-loop-page
invariant-loop-page l = record {
  adds : Adds (LeadsBelow (set.contains l.pages) (λ p b. IsObjectOf BASE l.images.images b × (page_in BASE b ≡ p)) l.from) l.fn.found l.found;
  low : l.from ≤ 16384;
}

abbrev pub decreases-loop-page : goal.decreases-loop-page
decreases-loop-page l = 16384 - l.from
