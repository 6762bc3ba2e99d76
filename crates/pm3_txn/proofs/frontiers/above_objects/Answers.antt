use Rattle.std.proofs.Common.{rules, ◌≡◌, ℕ, subst}
use Rattle.pm3_txn.specs.Frontiers.{IsTop, Below, IsObjectNamed}
use Rattle.pm3_txn.proofs.Topping.{below_none, below_more}
use Rattle.pm3_txn.proofs.frontiers.above_objects.Goals as goal

pub loop-word-init : goal.loop-word-init
loop-word-init c = below_none (IsObjectNamed c.args.catalog.now c.args.image.now.sheet) c.args.least

pub loop-word-preserved : goal.loop-word-preserved
loop-word-preserved c = below_more (IsObjectNamed c.args.catalog.now c.args.image.now.sheet) _ _ _ _ c.loop-word.invariant c.above_object-top.ensures

pub returns : goal.returns
returns c =
    let done : c.loop-word.word ≡ 512 = search rules in
    subst (λ (n : ℕ). IsTop (Below (IsObjectNamed c.args.catalog.now c.args.image.now.sheet) n) c.args.least c.loop-word.top) done c.loop-word.invariant
