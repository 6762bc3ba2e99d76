use Rattle.std.proofs.Common.{rules, ◌≡◌, ℕ, subst}
use Rattle.pm3_txn.specs.Frontiers.{IsTop, Below, IsNamedUnder}
use Rattle.pm3_txn.proofs.Topping.{below_none, below_more}
use Rattle.pm3_txn.proofs.frontiers.above_images.Goals as goal

pub loop-page-init : goal.loop-page-init
loop-page-init c = below_none (IsNamedUnder c.args.catalog.now c.args.images.now.images) c.args.least

pub loop-page-preserved : goal.loop-page-preserved
loop-page-preserved c = below_more (IsNamedUnder c.args.catalog.now c.args.images.now.images) _ _ _ _ c.loop-page.invariant c.above_page-top.ensures

pub returns : goal.returns
returns c =
    let done : c.loop-page.page ≡ 16384 = search rules in
    subst (λ (n : ℕ). IsTop (Below (IsNamedUnder c.args.catalog.now c.args.images.now.images) n) c.args.least c.loop-page.top) done c.loop-page.invariant
