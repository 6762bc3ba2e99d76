use Rattle.std.proofs.Common.{◌≡◌, ◌<◌, ◌-◌, ℕ, None, length, get_or, sym, ap, ◌∙◌, arith}
use mathlib.Core.Option.{some}
use lib.ListN.{get_elem?}
use Rattle.std.specs.Mem.Slots.{slots_items, slots_filled, slots_len, slots_counts}
use Rattle.pm3_table.proofs.Gathered.{one_emptied, still_filled}
use Rattle.pm3_txn.specs.Draining.{is_turn}
use Rattle.pm3_txn.proofs.ClosingSteps.{ends_at, found_at}
use Rattle.pm3_txn.proofs.gathering.turn_in.Goals as goal

pub take-requires : goal.take-requires
take-requires g c =
    let below = c.loop-at-test.true in let count = c.slot_count-count.ensures in let wide = c.loop-at.invariant.wide in
    let low : c.loop-at.at < slots_len c.loop-at.closed.slots = omega (arith, below, count, wide) in
    (low, c.loop-at.invariant.filled c.loop-at.at (omega arith) low)

pub let_slot_go-requires : goal.let_slot_go-requires
let_slot_go-requires g c =
    let below = c.loop-at-test.true in let count = c.slot_count-count.ensures in
    let items = slots_items c.args.closed.slots in
    let long = (slots_counts c.args.closed.slots).0 in
    let at : get_elem? items c.loop-at.at ≡ some c.take.result = ap (λ l. get_elem? l c.loop-at.at) (sym c.loop-at.invariant.same) ∙ c.take.ensures.value in
    ap is_turn (sym (found_at items c.loop-at.at c.take.result (omega (arith, below, count, long)) at)) ∙ c.requires.last.1.others c.loop-at.at (omega (arith, below, count, long))

pub loop-at-preserved : goal.loop-at-preserved
loop-at-preserved g c = let k = c.loop-at.invariant in record {
  filled = λ j above below. still_filled (slots_filled c.loop-at.closed.slots) _ c.loop-at.at (slots_len c.loop-at.closed.slots) c.take.ensures.others.1 k.filled j above (omega (arith, below, c.take.ensures.others.2));
  emptied = one_emptied (slots_filled c.loop-at.closed.slots) _ c.loop-at.at c.take.ensures.others.1 k.emptied;
  same = c.take.ensures.others.0 ∙ k.same;
  wide = c.take.ensures.others.2 ∙ k.wide;
}

pub take-requires-2 : goal.take-requires-2
take-requires-2 g c =
    let count = c.slot_count-count.ensures in let wide = c.loop-at.invariant.wide in
    let long = (slots_counts c.args.closed.slots).0 in let full = c.requires.last.1.some in
    let end = c.loop-at.auto.at-end in
    let low : c.slot_count-count.result - 1 < slots_len c.loop-at.closed.slots = omega (arith, count, wide, long, full) in
    (low, c.loop-at.invariant.filled (c.slot_count-count.result - 1) (omega (arith, end)) low)

pub turn_of-turn-requires : goal.turn_of-turn-requires
turn_of-turn-requires g c =
    let count = c.slot_count-count.ensures in
    let items = slots_items c.args.closed.slots in
    let long = (slots_counts c.args.closed.slots).0 in let full = c.requires.last.1.some in
    let last : c.slot_count-count.result - 1 ≡ length items - 1 = omega (arith, count, long) in
    let at : get_elem? items (c.slot_count-count.result - 1) ≡ some c.take-2.result = ap (λ l. get_elem? l (c.slot_count-count.result - 1)) (sym c.loop-at.invariant.same) ∙ c.take-2.ensures.value in
    ap is_turn (sym (found_at items (c.slot_count-count.result - 1) c.take-2.result (omega (arith, last, full)) at) ∙ ap (λ (n : ℕ). get_or items n None) last ∙ c.requires.last.1.last)

pub free-requires : goal.free-requires
free-requires g c =
    let k = c.loop-at.invariant in let end = c.loop-at-test.false in
    let count = c.slot_count-count.ensures in let wide = k.wide in let same = c.take-2.ensures.others.2 in
    λ j low. one_emptied (slots_filled c.loop-at.closed.slots) _ (c.slot_count-count.result - 1) c.take-2.ensures.others.1
    (λ i under. k.emptied i (omega (arith, under, end))) j (omega (arith, low, same, count, wide))

pub returns : goal.returns
returns g c =
    let count = c.slot_count-count.ensures in
    let items = slots_items c.args.closed.slots in
    let long = (slots_counts c.args.closed.slots).0 in let full = c.requires.last.1.some in
    let last : c.slot_count-count.result - 1 ≡ length items - 1 = omega (arith, count, long) in
    let at : get_elem? items (c.slot_count-count.result - 1) ≡ some c.take-2.result = ap (λ l. get_elem? l (c.slot_count-count.result - 1)) (sym c.loop-at.invariant.same) ∙ c.take-2.ensures.value in
    ends_at items c.turn_of-turn.result c.requires.last
    (ap (λ (n : ℕ). get_or items n None) (sym last) ∙ found_at items (c.slot_count-count.result - 1) c.take-2.result (omega (arith, last, full)) at ∙ c.turn_of-turn.ensures)
