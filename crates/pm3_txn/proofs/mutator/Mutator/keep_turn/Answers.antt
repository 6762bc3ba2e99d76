use Rattle.pm3_txn.proofs.Lives.{value_lives}
use Rattle.pm3_txn.proofs.mutator.Mutator.keep_turn.Goals as goal

pub give_turn-requires : goal.give_turn-requires
give_turn-requires g c κs within =
    let belongs = (rw (← c.heap.view_is, ← c.self.view_is) at c.requires.of) in
    let held = (rw (← c.heap.view_is, ← c.self.view_is) at c.requires.held) in
    let may = (rw (← c.heap.view_is, ← c.self.view_is) at c.requires.may) in
    (value_lives κs.1.1.0 g.row.D.lives g.row.D-Reader.lives within.0 within.1, (belongs.mutator.of, (held, (may.good, (may.heard, may.may)))))
