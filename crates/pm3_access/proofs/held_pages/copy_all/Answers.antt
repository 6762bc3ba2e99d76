use Rattle.std.proofs.Common.{◌≡◌, sym, ap, ◌∙◌, arith}
use Rattle.std.specs.FinMap as map
use Rattle.pm3_access.proofs.Homes.{copied_none, copied_more, copied_all}
use Rattle.pm3_access.proofs.held_pages.copy_all.Goals as goal

pub loop-page-init : goal.loop-page-init
loop-page-init c = record { copied = copied_none _ _ c.new-copies.ensures.images; low = omega arith }

pub loop-page-preserved : goal.loop-page-preserved
loop-page-preserved c =
    let home : c.in-Some-get.image.now.page ≡ c.in-Some.page = c.requires c.in-Some.page c.in-Some-get.image.now (sym c.in-Some-get.ensures) in
    record {
      copied = rw (c.in-Ok.ensures.added, c.in-Ok.ensures.behind.0)
          (copied_more c.loop-page.copies.images c.args.pages.now.images c.loop-page.from c.in-Some-get.image.now.page c.in-Some-get.image.now
          (ap (map.get c.args.pages.now.images) home ∙ sym c.in-Some-get.ensures)
          (omega (arith, c.in-Some.ensures.next.reached)) (λ q from lt. c.in-Some.ensures.next.least q from (omega arith)) c.loop-page.invariant.copied);
      low = c.in-Ok.ensures.behind.1;
    }

pub returns : goal.returns
returns c = copied_all c.loop-page.copies.images c.args.pages.now.images c.loop-page.from c.in_default.ensures.next c.loop-page.invariant.copied
