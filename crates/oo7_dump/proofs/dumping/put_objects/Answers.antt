use Rattle.std.proofs.Common.{◌+◌, ◌++◌, ℕ, List, drop, sym, ap, ◌∙◌}
use Rattle.pm3_core.specs.declared.naming.TheConstants.{BASE}
use Rattle.pm3_types.specs.Dump.{object_lines}
use Rattle.oo7_dump.specs.Raw.{raw_at}
use Rattle.oo7_dump.proofs.Listed.{drop_place, line_more}
use Rattle.oo7_dump.proofs.dumping.put_objects.Goals as goal

pub loop-place-preserved : goal.loop-place-preserved
loop-place-preserved c = λ all among.
    let A = raw_at c.args.catalog.now BASE all in
    let met = c.args.met.now in
    let place = c.loop-place.place in
    let front = drop_place met place c.in-Some.at (sym c.at.ensures.at ∙ c.in-Some.is) in
    line_more c.args.catalog.now A met (place + 1) c.in-Some.at c.loop-place.text c.put_object_at.new.text (drop (place + 1) met) (c.in_ok-put_object_at.ensures all among)
    ∙ sym (ap (λ (l : List ℕ). c.loop-place.text ++ object_lines c.args.catalog.now A met (place + 1) l) front) ∙ c.loop-place.invariant all among
