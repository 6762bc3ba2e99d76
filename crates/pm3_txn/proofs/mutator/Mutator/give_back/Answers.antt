use Rattle.pm3_txn.proofs.Lives.{value_lives}
use Rattle.pm3_txn.proofs.mutator.Mutator.give_back.Goals as goal

pub give_turn-requires : goal.give_turn-requires
give_turn-requires g c κs within =
    let of = (rw (← c.heap.view_is, ← c.self.view_is) at c.requires.1.1.0) in
    let held = (rw (← c.heap.view_is, ← c.self.view_is) at c.requires.1.1.1.0) in
    let may = (rw (← c.heap.view_is, ← c.self.view_is) at c.requires.1.1.1.1) in
    (value_lives κs.1.1.0 g.row.D.lives g.row.D-Reader.lives within.0 within.1, (of, (held, (may.good, (may.heard, may.may)))))
