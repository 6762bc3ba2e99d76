use Rattle.std.proofs.Common.{rules, ◌≡◌, ◌+◌, ◌++◌, [], ◌∷◌, slice_index}
use Rattle.oo7_dump.proofs.Listed.{listed_more}
use Rattle.oo7_dump.proofs.looking.slots.Goals as goal

pub loop-slot-preserved : goal.loop-slot-preserved
loop-slot-preserved c =
    let pushed : c.push.new.self.items ≡ c.loop-slot.names.items ++ c.root.result ∷ [] = search rules in
    listed_more (λ k. slice_index c.args.image.now.sheet.words (2 + k)) c.loop-slot.names.items c.push.new.self.items c.loop-slot.slot c.root.result c.loop-slot.invariant pushed c.root.ensures
