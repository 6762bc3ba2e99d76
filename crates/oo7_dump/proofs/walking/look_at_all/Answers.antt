use Rattle.std.proofs.Common.{rules, ◌≡◌, ℕ, List, Option, None, sym, ap, subst, ◌∙◌, inr}
use Rattle.std.specs.Prelude.{slice_get}
use Rattle.std.specs.FinMap.{get}
use Rattle.pm3_core.specs.declared.naming.TheConstants.{BASE}
use Rattle.pm3_types.specs.Numbering.{is_among}
use Rattle.oo7_dump.specs.Lost.{IsOneLost}
use Rattle.oo7_dump.specs.Raw.{raw_at, root_words}
use Rattle.oo7_dump.proofs.Loading.{among_before, loads_then, none_past, place_among}
use Rattle.oo7_dump.proofs.Rounds.{looked_more}
use Rattle.oo7_dump.proofs.walking.look_at_all.Goals as goal

pub loop-at-preserved : goal.loop-at-preserved
loop-at-preserved g c = record {
  loads = loads_then c.loop-at.invariant.loads c.in-Ok.ensures.loads;
  held = c.in-Ok.ensures.held;
  met = λ all among. looked_more c.args.catalog.now (raw_at c.args.catalog.now BASE all) (root_words (get all 2)) c.loop-at.met c.look_at.new.met c.loop-at.next c.in-Some.at
      (c.loop-at.invariant.met all (among_before c.in-Ok.ensures.loads all among)) (sym c.at.ensures.at ∙ c.in-Some.is) (c.in-Ok.ensures.met all among);
}

pub returns-in-Err-clause-loads : goal.returns-in-Err-clause-loads
returns-in-Err-clause-loads g c = loads_then c.loop-at.invariant.loads c.in-Err.ensures.loads

pub returns-in-Err-clause-damaged : goal.returns-in-Err-clause-damaged
returns-in-Err-clause-damaged g c = λ page word is.
    let (names, are, lost) = c.in-Err.ensures.damaged page word is in (
      names,
      (λ all among.
          let old = among_before c.in-Err.ensures.loads all among in
          let at = place_among c.loop-at.met c.loop-at.next c.in-Some.at (sym c.at.ensures.at ∙ c.in-Some.is) in
          inr (c.loop-at.next, c.in-Some.at, sym (ap (λ (l : List ℕ). is_among l c.in-Some.at) (c.loop-at.invariant.met all old)) ∙ at, sym (are all old))),
      subst (λ (content : Option (List ℕ)). IsOneLost c.args.catalog.now c.args.pages content c.look_at.new.images.images names page word) c.loop-at.invariant.loads.same lost,
    )

pub returns-clause-met : goal.returns-clause-met
returns-clause-met g c =
    let none : slice_get c.loop-at.met c.loop-at.next ≡ None = search rules in
    record { count = c.loop-at.next; are = c.loop-at.invariant.met; enough = none_past c.loop-at.met c.loop-at.next none }
