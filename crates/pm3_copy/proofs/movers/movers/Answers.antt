use Rattle.std.proofs.Common.{sym, subst, arith}
use Rattle.std.proofs.lemmas.List.Elements.{Contains-get_or}
use Rattle.pm3_core.specs.declared.naming.TheConstants.{BASE}
use Rattle.pm3_copy.specs.Spreading.{ArePicked}
use Rattle.pm3_copy.proofs.Passing.{passed_none}
use Rattle.pm3_copy.proofs.Picking.{picked_none, picked_all}
use Rattle.pm3_copy.proofs.movers.movers.Goals as goal

pub loop-first-init : goal.loop-first-init
loop-first-init c = record {
  picked = subst (ArePicked BASE c.args.pinned.now c.args.but.now c.args.found.now 0) (sym c.new-list.ensures.items) (picked_none BASE c.args.pinned.now c.args.but.now c.args.found.now);
  passed = passed_none c.args.found.now.objects c.args.but.now c.requires.others;
  low = omega arith;
}

pub returns-clause-picked : goal.returns-clause-picked
returns-clause-picked c = picked_all BASE c.args.pinned.now c.args.but.now c.args.found.now c.loop-first.first c.loop-first.list.items (omega (arith, c.count.ensures.count)) c.count.ensures.whole c.loop-first.invariant.picked

pub returns-clause-within : goal.returns-clause-within
returns-clause-within c = λ k d low. c.count.ensures.whole _ ((returns-clause-picked c).only _ (Contains-get_or c.loop-first.list.items k d low)).0
