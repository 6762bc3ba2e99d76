use Rattle.std.proofs.Common.{rules, ◌≡◌, ℕ, Some, subst}
use Rattle.pm3_core.specs.declared.naming.TheConstants.{BASE}
use Rattle.pm3_types.specs.Layout.{word_in}
use Rattle.pm3_txn.specs.Frontiers.{IsTop, Below, IsPlaceNamed}
use Rattle.pm3_txn.proofs.Topping.{below_none, below_more, below_all}
use Rattle.pm3_txn.proofs.frontiers.above_places.Goals as goal

pub loop-place-init : goal.loop-place-init
loop-place-init c = below_none (IsPlaceNamed (Some c.args.map) c.args.len c.args.image.now.sheet (word_in BASE c.args.at)) c.args.least

pub loop-place-preserved : goal.loop-place-preserved
loop-place-preserved c =
    below_more (IsPlaceNamed (Some c.args.map) c.args.len c.args.image.now.sheet (word_in BASE c.args.at)) _ _ _ _ c.loop-place.invariant c.above_place-top.ensures

pub returns : goal.returns
returns c =
    let done : c.loop-place.place ≡ c.references_end-place-end.result = search rules in
    below_all (IsPlaceNamed (Some c.args.map) c.args.len c.args.image.now.sheet (word_in BASE c.args.at)) c.references_end-place-end.result _ _
    (λ k p named. c.references_end-place-end.ensures.above k named.0)
    (subst (λ (n : ℕ). IsTop (Below (IsPlaceNamed (Some c.args.map) c.args.len c.args.image.now.sheet (word_in BASE c.args.at)) n) c.args.least c.loop-place.top) done c.loop-place.invariant)
