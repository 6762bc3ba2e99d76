use Rattle.std.proofs.Common.{rules, ◌≡◌, sym, ap, ◌∙◌, arith}
use mathlib.Core.Option.{some}
use lib.ListN.{get_elem?}
use Rattle.std.specs.Mem.Slots.{slots_items, slots_filled, slots_len}
use Rattle.pm3_table.proofs.Gathered.{taken_one, one_emptied, still_filled}
use Rattle.pm3_table.proofs.closing.gathered.Goals as goal

pub loop-at-preserved : goal.loop-at-preserved
loop-at-preserved g c = let k = c.loop-at.invariant in
    let at : get_elem? (slots_items c.args.closed.slots) c.loop-at.at ≡ some c.take-value.result =
    ap (λ l. get_elem? l c.loop-at.at) (sym k.same) ∙ c.take-value.ensures.value in record {
      filled = λ j above below. still_filled (slots_filled c.loop-at.closed.slots) _ c.loop-at.at (slots_len c.loop-at.closed.slots) c.take-value.ensures.others.1 k.filled j above (omega (arith, below, c.take-value.ensures.others.2));
      emptied = one_emptied (slots_filled c.loop-at.closed.slots) _ c.loop-at.at c.take-value.ensures.others.1 k.emptied;
      same = c.take-value.ensures.others.0 ∙ k.same;
      wide = c.take-value.ensures.others.2 ∙ k.wide;
      items = c.add.ensures.items ∙ taken_one (slots_items c.args.closed.slots) c.loop-at.at c.take-value.result c.loop-at.slots.items at k.items;
      room = search rules;
    }
