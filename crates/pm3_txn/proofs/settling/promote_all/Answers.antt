use Rattle.std.proofs.Common.{◌≡◌, ◌<◌, ◌≤◌, ◌+◌, ◌==◌, ◌||◌, ◌&&◌, ◌∙◌, ℕ, Bool, false, true, not, nat_lt, refl, sym, ap, subst, arith}
use Rattle.std.proofs.lemmas.Bool.{and_from, false≢true}
use Rattle.std.specs.FinMap.{contains_key}
use Rattle.pm3_txn.specs.PassEnds.{HasSettled, is_promoted}
use Rattle.pm3_txn.specs.States.{MutatorState}
use Rattle.pm3_txn.proofs.Promoting.{below_more, below_same, settled_as, settled_more}
use Rattle.pm3_txn.proofs.settling.promote_all.Goals as goal
use Rattle.pm3_txn.proofs.settling.promote_all.Goals.{then-not-has_found, else-not-has_found}

and_off : (a b : Bool) → a ≡ false → (a && b) ≡ false
and_off true b is = absurd (false≢true (sym is))
and_off false b is = refl

off_and : (a b : Bool) → b ≡ true → (a && not b) ≡ false
off_and true b is = ap not is
off_and false b is = refl

pub loop-page-preserved : goal.loop-page-preserved
loop-page-preserved g c =
    let old : MutatorState g.row.D-Reader.Denot = c.args.mutator.now in
    let mid : MutatorState g.row.D-Reader.Denot = c.loop-page.mutator in
    let new : MutatorState g.row.D-Reader.Denot = c.if-not-has_found.mutator in
    let parted = c.args.parted.now in
    let pages = c.args.heap.now.1.pages in
    let from = c.loop-page.from in
    let page = c.in-Some.page in
    let want : ℕ → Bool = is_promoted parted in
    let some : ℕ → Bool = λ q. nat_lt q from && want q in
    let some_more : ℕ → Bool = λ q. nat_lt q (page + 1) && want q in
    let next = c.in-Some.ensures.next in
    let within = c.in-Some.ensures.within in
    let none : (q : ℕ) → from ≤ q → q < page → want q ≡ false =
    λ q above below. and_off (contains_key parted.written.images q) (not (contains_key parted.rest.found q)) (next.least q above below) in
    record {
      settled = elim c.if-not-has_found.branch [
        | then-not-has_found w ↦
            let is : want page ≡ true = and_from (contains_key parted.written.images page) (not (contains_key parted.rest.found page)) next.there (ap not (sym c.has_found.ensures ∙ w.if-not-has_found.true)) in
            settled_as pages old new (λ q. (q == page) || some q) some_more (below_more want from page next.reached none is)
            (settled_more pages old mid new some page c.loop-page.invariant.settled (w.mutator-is ∙ w.promote.ensures))
        | else-not-has_found w ↦
            let off : want page ≡ false = off_and (contains_key parted.written.images page) (contains_key parted.rest.found page) (sym c.has_found.ensures ∙ w.if-not-has_found.false) in
            settled_as pages old new some some_more (below_same want from page next.reached none off)
            (subst (λ (x : MutatorState g.row.D-Reader.Denot). HasSettled pages old x some) (sym w.mutator-is) c.loop-page.invariant.settled)
      ];
      low = omega (arith, within);
    }
