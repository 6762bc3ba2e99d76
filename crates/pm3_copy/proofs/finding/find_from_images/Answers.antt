use Rattle.std.proofs.Common.{◌≡◌, ◌∙◌, ℕ, Some, is_some, sym, ap, subst, arith}
use Rattle.std.specs.FinMap as map
use Rattle.pm3_core.specs.declared.naming.TheConstants.{BASE}
use Rattle.pm3_types.specs.Layout.{PageImage}
use Rattle.pm3_copy.specs.References.{RefersOn, RefersFrom}
use Rattle.pm3_copy.proofs.Adding.{adds_as}
use Rattle.pm3_copy.proofs.References.{pages_more, pages_all}
use Rattle.pm3_copy.proofs.Wholes.{same_some}
use Rattle.pm3_copy.proofs.finding.find_from_images.Goals as goal

pub loop-page-preserved : goal.loop-page-preserved
loop-page-preserved c =
    let low = c.in-Some.ensures.within in
    let on : map.get c.args.images.now.images c.in-Some.page ≡ Some c.in-Some-get.image.now = sym c.in-Some-get.ensures in
    let Leads : ℕ → ℕ → Type 0 = λ p b. (image : PageImage) × (map.get c.args.images.now.images p ≡ Some image) × RefersOn c.args.catalog.now BASE image b in
    record {
      adds = pages_more (map.contains_key c.args.images.now.images) Leads c.loop-page.from c.in-Some.page c.args.found.now c.loop-page.found c.find_from_image.new.found
          c.in-Some.ensures.next.reached c.in-Some.ensures.next.there c.in-Some.ensures.next.least c.loop-page.invariant.adds
          (adds_as (RefersOn c.args.catalog.now BASE c.in-Some-get.image.now) (Leads c.in-Some.page) c.loop-page.found c.find_from_image.new.found c.find_from_image.ensures
          (λ b there r. subst (λ i. RefersOn c.args.catalog.now BASE i b) (same_some r.0 c.in-Some-get.image.now (sym r.1 ∙ on)) r.2)
          (λ b r. (c.in-Some-get.image.now, on, r)));
      low = omega arith;
    }

pub returns : goal.returns
returns c =
    let Leads : ℕ → ℕ → Type 0 = λ p b. (image : PageImage) × (map.get c.args.images.now.images p ≡ Some image) × RefersOn c.args.catalog.now BASE image b in
    pages_all (map.contains_key c.args.images.now.images) Leads (RefersFrom c.args.catalog.now BASE c.args.images.now.images) c.loop-page.from c.args.found.now c.loop-page.found c.in_default.ensures.next
    (λ b r. (r.0, ap is_some r.2, (r.1, r.2, r.3))) (λ p b there r. (p, r.0, r.1, r.2)) c.loop-page.invariant.adds
