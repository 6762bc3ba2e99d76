use Rattle.std.proofs.Common.{◌≡◌, ◌≤◌, ◌-◌}
use Rattle.pm3_core.specs.declared.naming.TheConstants.{BASE}
use Rattle.pm3_page.specs.PageSheets.{AreSoundPages}
use Rattle.pm3_copy.specs.Tables.{follows}
use Rattle.pm3_copy.proofs.UpdatedPages.{AreUpdatedBelow}
use Rattle.pm3_copy.proofs.update_pages.update_all.Given as goal

abbrev pub invariant-loop-page : goal.invariant-loop-page
invariant-loop-page l = record {
  updated : AreUpdatedBelow l.catalog BASE (follows l.tables) l.fn.pages.images l.pages.images l.from;
  sound : AreSoundPages l.catalog BASE 16384 l.pages.images;
  spare : l.pages.spare ≡ l.fn.pages.spare;
  low : l.from ≤ 16384;
}

abbrev pub decreases-loop-page : goal.decreases-loop-page
decreases-loop-page l = 16384 - l.from
