use Rattle.std.proofs.Common.{ℕ, List, Option, get_or, subst}
use Rattle.pm3_core.specs.declared.naming.TheConstants.{BASE}
use Rattle.oo7_dump.specs.Lost.{IsLost}
use Rattle.oo7_dump.specs.Raw.{raw_at}
use Rattle.oo7_dump.proofs.Loading.{among_before, item_among, loads_then}
use Rattle.oo7_dump.proofs.MeetingOne.{meets_more}
use Rattle.oo7_dump.proofs.meeting.meet_all.Goals as goal

pub returns-in-Err-clause-loads : goal.returns-in-Err-clause-loads
returns-in-Err-clause-loads g c = loads_then c.loop-name.invariant.loads c.in-Err.ensures.loads

pub returns-in-Err-clause-damaged : goal.returns-in-Err-clause-damaged
returns-in-Err-clause-damaged g c = λ page word is. record {
  at = get_or c.args.names.now c.loop-name.name-index 0;
  among = item_among c.args.names.now c.loop-name.name-index c.loop-name-test.true;
  lost = subst
      (λ (content : Option (List ℕ)). IsLost c.args.catalog.now c.args.pages content c.meet_one.new.images.images (get_or c.args.names.now c.loop-name.name-index 0) page word)
      c.loop-name.invariant.loads.same (c.in-Err.ensures.damaged page word is);
}

pub loop-name-preserved : goal.loop-name-preserved
loop-name-preserved g c = record {
  loads = loads_then c.loop-name.invariant.loads c.in-Ok.ensures.loads;
  held = c.in-Ok.ensures.held;
  met = λ all among. meets_more (raw_at c.args.catalog.now BASE all) c.args.met.now c.loop-name.met c.meet_one.new.met c.args.names.now c.loop-name.name-index c.loop-name-test.true
      (c.loop-name.invariant.met all (among_before c.in-Ok.ensures.loads all among)) (c.in-Ok.ensures.met all among);
}
