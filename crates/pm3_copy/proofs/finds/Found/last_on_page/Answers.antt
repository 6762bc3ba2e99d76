use Rattle.std.proofs.Common.{arith}
use Rattle.pm3_core.specs.declared.naming.TheConstants.{BASE}
use Rattle.pm3_copy.proofs.Picking.{on_one_more}
use Rattle.pm3_copy.proofs.finds.Found.last_on_page.Goals as goal

pub loop-step-preserved : goal.loop-step-preserved
loop-step-preserved c = record {
  behind = omega (arith, c.loop-step.invariant.behind, c.step_on_page-last.ensures.behind);
  low = c.step_on_page-last.ensures.within;
  page = on_one_more BASE c.args.self.now.objects c.args.first c.loop-step.last c.step_on_page-last.result c.requires.rising c.loop-step.invariant.behind c.step_on_page-last.ensures.within c.loop-step.invariant.page c.step_on_page-last.ensures.page;
}
