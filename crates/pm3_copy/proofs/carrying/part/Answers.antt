use Rattle.std.proofs.Common.{[], sym, subst}
use Rattle.std.specs.FinMap as map
use Rattle.std.proofs.lemmas.List.{append-nil}
use Rattle.pm3_copy.specs.Fresh.{AreLeast}
use Rattle.pm3_copy.proofs.Sent.{placed}
use Rattle.pm3_copy.proofs.carrying.part.Goals as goal

pub returns : goal.returns
returns c first second least long longer =
    let out = c.hand_out-next.ensures.sent first second least long in
    let back = c.hand_out.ensures.sent second [] (subst (AreLeast (map.contains_key c.hand_out-next.new.from.images) c.hand_out-next.result) (sym (append-nil second)) out.1) longer in
    placed first second c.args.turned.now c.args.freed.now c.args.volatile.now.images c.args.written.now.images c.args.filled.now.images c.give_up.new.images.images c.send_all.new.from.images c.send_all.new.to.images
    c.hand_out-next.new.from.images c.hand_out-next.new.to.images c.hand_out.new.from.images c.hand_out.new.to.images c.hand_out-next.result c.give_up.ensures.gone c.send_all.ensures.sent out.0 back.0 least out.1
    c.requires.turned c.requires.freed c.requires.filled_apart
