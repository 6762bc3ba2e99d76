use Rattle.std.proofs.Common.{◌∙◌, sym}
use Rattle.pm3_core.specs.declared.naming.TheConstants.{BASE}
use Rattle.pm3_copy.proofs.References.{by_roots, by_objects}
use Rattle.pm3_copy.proofs.finding.find_from_image.Goals as goal

pub returns-then-page-eq-ROOTS_PAGE : goal.returns-then-page-eq-ROOTS_PAGE
returns-then-page-eq-ROOTS_PAGE c = by_roots c.args.catalog.now BASE c.args.image.now c.args.found.now c.find_from_roots.new.found (sym c.page.ensures.page ∙ c.if-page-eq-ROOTS_PAGE.true) c.find_from_roots.ensures

pub returns-else-page-eq-ROOTS_PAGE : goal.returns-else-page-eq-ROOTS_PAGE
returns-else-page-eq-ROOTS_PAGE c = by_objects c.args.catalog.now BASE c.args.image.now c.args.found.now c.find_from_objects.new.found (λ is. c.if-page-eq-ROOTS_PAGE.false (c.page.ensures.page ∙ is)) c.find_from_objects.ensures
