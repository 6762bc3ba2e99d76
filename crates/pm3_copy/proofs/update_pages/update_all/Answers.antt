use Rattle.std.proofs.Common.{◌∙◌, refl, arith}
use Rattle.pm3_core.specs.declared.naming.TheConstants.{BASE}
use Rattle.pm3_copy.specs.Tables.{follows}
use Rattle.pm3_copy.proofs.UpdatedPages.{updated_none, updated_more, updated_all}
use Rattle.pm3_copy.proofs.update_pages.update_all.Goals as goal

pub loop-page-init : goal.loop-page-init
loop-page-init c = record { updated = updated_none c.args.catalog.now BASE (follows c.args.tables.now) c.args.pages.now.images; sound = c.requires.sound; spare = refl; low = omega arith }

pub loop-page-preserved : goal.loop-page-preserved
loop-page-preserved c =
    let low = c.in-Some.ensures.within in
    record {
      updated = updated_more c.args.catalog.now BASE (follows c.args.tables.now) c.args.pages.now.images c.loop-page.pages.images c.update_page.new.pages.images c.loop-page.from c.in-Some.page
          c.loop-page.invariant.updated c.in-Some.ensures.next.reached c.in-Some.ensures.next.there c.in-Some.ensures.next.least c.update_page.ensures.updated;
      sound = c.update_page.ensures.sound;
      spare = c.update_page.ensures.spare ∙ c.loop-page.invariant.spare;
      low = omega arith;
    }

pub returns-clause-updated : goal.returns-clause-updated
returns-clause-updated c =
    updated_all c.args.catalog.now BASE (follows c.args.tables.now) c.args.pages.now.images c.loop-page.pages.images c.loop-page.from c.loop-page.invariant.updated c.in_default.ensures.next
