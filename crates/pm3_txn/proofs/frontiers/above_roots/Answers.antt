use Rattle.std.proofs.Common.{rules, ◌≡◌, ℕ, slice_index, ◌+◌, subst}
use Rattle.pm3_txn.specs.Frontiers.{IsTop, Below, IsSlotNamed}
use Rattle.pm3_txn.proofs.Named.{word_top, roots_top}
use Rattle.pm3_txn.proofs.Topping.{below_none, below_more}
use Rattle.pm3_txn.proofs.frontiers.above_roots.Goals as goal

pub loop-slot-init : goal.loop-slot-init
loop-slot-init c = below_none (IsSlotNamed c.args.image.now.sheet) c.args.least

pub loop-slot-preserved : goal.loop-slot-preserved
loop-slot-preserved c =
    below_more (IsSlotNamed c.args.image.now.sheet) _ _ _ _ c.loop-slot.invariant
    (word_top c.loop-slot.top c.root.result (slice_index c.args.image.now.sheet.words (2 + c.loop-slot.slot)) _ c.root.ensures c.above_word-top.ensures)

pub returns : goal.returns
returns c =
    let done : c.loop-slot.slot ≡ 16 = search rules in
    let roots : c.args.image.now.page ≡ 2 = search rules in
    roots_top c.args.image.now c.args.least c.loop-slot.top roots
    (subst (λ (n : ℕ). IsTop (Below (IsSlotNamed c.args.image.now.sheet) n) c.args.least c.loop-slot.top) done c.loop-slot.invariant)
