use Rattle.std.proofs.Common.{List, is_some, sym, ap, ◌∙◌, subst, arith}
use Rattle.std.specs.FinMap.{contains_key}
use Rattle.pm3_page.specs.PageMap.{Images}
use Rattle.pm3_table.specs.declared.view.Hold.{Hold}
use Rattle.pm3_table.specs.Holds.{holds_of}
use Rattle.pm3_txn.specs.States.{MutatorState}
use Rattle.pm3_txn.proofs.Cleared.{AreGiving, giving_more, given_more, none_before}
use Rattle.pm3_txn.proofs.aborting.give_all.Goals as goal

pub give-requires-clause-low : goal.give-requires-clause-low
give-requires-clause-low g c = (c.loop-page.invariant.owed c.in-Some.page c.in-Some-take.image (sym c.in-Some-take.ensures.image)).1.low.1

pub give-requires-clause-held : goal.give-requires-clause-held
give-requires-clause-held g c = (c.loop-page.invariant.owed c.in-Some.page c.in-Some-take.image (sym c.in-Some-take.ensures.image)).0

pub give-requires-clause-good : goal.give-requires-clause-good
give-requires-clause-good g c = (c.loop-page.invariant.owed c.in-Some.page c.in-Some-take.image (sym c.in-Some-take.ensures.image)).1

pub loop-page-preserved : goal.loop-page-preserved
loop-page-preserved g c =
    let more = given_more c.args.heap.now.1 c.args.mutator.now c.loop-page.mutator c.give.new.self c.loop-page.pages.images c.take.new.self.images c.in-Some.page
    c.loop-page.invariant.owed c.loop-page.invariant.given c.give.ensures.given c.take.ensures.images in
    let within = c.in-Some.ensures.within in
    record {
      owed = more.0;
      given = more.1;
      kept = c.give.ensures.kept;
      giving = subst (λ (hs : List Hold). AreGiving (holds_of c.args.mutator.now.pass.1.holds) (holds_of hs) c.args.pages.images c.take.new.self.images)
          (sym (ap (λ (m : MutatorState _). m.pass.1.holds) c.give.ensures.given))
          (giving_more (holds_of c.args.mutator.now.pass.1.holds) c.loop-page.mutator.pass.1 c.args.pages.images c.loop-page.pages.images c.take.new.self.images c.in-Some.page
          (ap is_some (sym c.in-Some-take.ensures.image)) c.take.ensures.images c.loop-page.invariant.giving);
      below = λ q low. ap (λ (images : Images). contains_key images q) c.take.ensures.images
          ∙ none_before c.loop-page.pages.images c.loop-page.from c.in-Some.page q c.loop-page.invariant.below c.in-Some.ensures.next.least low;
      low = omega (arith, within);
    }
