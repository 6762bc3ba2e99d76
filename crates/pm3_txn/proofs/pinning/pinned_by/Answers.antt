use Rattle.std.proofs.Common.{◌≡◌, length, sym, ap, ◌∙◌, arith}
use Rattle.std.proofs.lemmas.Bool.{false≢true}
use Rattle.std.specs.FinSet as set
use Rattle.std.specs.FinSet.{contains-empty}
use Rattle.std.specs.Ordering.{nat_cmp}
use Rattle.pm3_core.specs.Naming.{Names}
use Rattle.pm3_txn.proofs.Pinned.{named_by_all, all_by_named}
use Rattle.pm3_txn.proofs.pinning.pinned_by.Goals as goal

pub loop-n-init : goal.loop-n-init
loop-n-init c = λ p. (
  (λ there. absurd (false≢true (sym (ap (λ (s : set.FinSet nat_cmp). set.contains s p) c.new-pinned.ensures ∙ contains-empty nat_cmp p) ∙ there))),
  λ none. absurd (omega (arith, none.1.1)),
)

pub returns : goal.returns
returns c =
    let above = c.loop-n-test.false in let most = c.loop-n.auto.n-end in let full = c.requires.full in
    let long : length c.args.words.now ≡ c.loop-n.n = omega (arith, above, most, full) in λ p. (
      (λ there. let is = (c.loop-n.invariant p).0 there in (is.0, named_by_all c.args.words.now c.loop-n.n (λ w. Names c.args.pages w p) long is.1)),
      λ is. (c.loop-n.invariant p).1 (is.0, all_by_named c.args.words.now c.loop-n.n (λ w. Names c.args.pages w p) long is.1),
    )
