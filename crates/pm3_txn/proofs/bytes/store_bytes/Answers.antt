use Rattle.std.proofs.Common.{rules, ◌≡◌, ◌∙◌, get_or, sym, subst}
use Rattle.pm3_txn.specs.Owners.{KnowsHere}
use Rattle.pm3_txn.specs.States.{told_in, view_in}
use Rattle.pm3_txn.proofs.ByteSteps.{store_step}
use Rattle.pm3_txn.proofs.Keeping.{knows_on}
use Rattle.pm3_txn.proofs.bytes.store_bytes.Goals as goal

pub loop-k-preserved : goal.loop-k-preserved
loop-k-preserved g c =
    let same : get_or c.args.bytes.now c.loop-k.k 0 ≡ c.from.result = search rules in
    let stored = c.in-Ok.ensures.stored in
    let step = store_step c.args.txn.now c.loop-k.txn c.store.new.self c.args.at c.args.from c.loop-k.k c.from.result c.args.bytes.now c.loop-k-test.true same c.requires.known
    c.loop-k.invariant.stored stored in
    record {
      stored = step.0;
      object = step.1.object ∙ c.loop-k.invariant.object;
      known = subst (λ t. KnowsHere (told_in t) (view_in c.store.new.self) c.store.new.self.held c.args.at) (sym stored.rest)
          (knows_on (told_in c.loop-k.txn) (view_in c.loop-k.txn) (view_in c.store.new.self) c.loop-k.txn.held c.store.new.self.held stored.goes_on.keeps c.args.at c.loop-k.invariant.known);
      there = λ q. step.1.bytes q ∙ c.loop-k.invariant.there q;
    }
