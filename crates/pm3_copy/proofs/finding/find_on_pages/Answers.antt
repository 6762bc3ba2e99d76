use Rattle.std.proofs.Common.{◌≡◌, ◌∙◌, true, refl, ap, arith}
use Rattle.std.specs.FinSet as set
use Rattle.pm3_core.specs.declared.naming.TheConstants.{BASE}
use Rattle.pm3_types.specs.Layout.{page_in}
use Rattle.pm3_copy.specs.Whole.{IsObjectOf}
use Rattle.pm3_copy.proofs.References.{pages_more, pages_all}
use Rattle.pm3_copy.proofs.finding.find_on_pages.Goals as goal

pub loop-page-preserved : goal.loop-page-preserved
loop-page-preserved c =
    let low = c.in-Some.ensures.within in
    record {
      adds = pages_more (set.contains c.args.pages.now) (λ p b. IsObjectOf BASE c.args.images.now.images b × (page_in BASE b ≡ p)) c.loop-page.from c.in-Some.page c.args.found.now c.loop-page.found c.find_on_page.new.found
          c.in-Some.ensures.next.reached c.in-Some.ensures.next.there c.in-Some.ensures.next.least c.loop-page.invariant.adds c.find_on_page.ensures;
      low = omega arith;
    }

pub returns : goal.returns
returns c =
    pages_all (set.contains c.args.pages.now) (λ p b. IsObjectOf BASE c.args.images.now.images b × (page_in BASE b ≡ p)) (λ b. IsObjectOf BASE c.args.images.now.images b × (set.contains c.args.pages.now (page_in BASE b) ≡ true))
    c.loop-page.from c.args.found.now c.loop-page.found c.in_default.ensures.next
    (λ b r. (page_in BASE b, r.1, (r.0, refl))) (λ p b there r. (r.0, ap (set.contains c.args.pages.now) r.1 ∙ there)) c.loop-page.invariant.adds
