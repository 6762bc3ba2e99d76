use Rattle.pm3_core.specs.declared.naming.TheConstants.{BASE}
use Rattle.pm3_page.specs.PageSheets.{AreSoundPages}
use Rattle.pm3_copy.proofs.sample_pages.pages_between.Given as goal

abbrev pub invariant-loop-page : goal.invariant-loop-page
invariant-loop-page l = record { sound : AreSoundPages l.catalog BASE 16384 l.pages.images }
