use Rattle.std.proofs.Common.{inr, subst}
use Rattle.pm3_txn.specs.Spaces.{HasTriedToOpen}
use Rattle.pm3_txn.proofs.Made.{room_drawn}
use Rattle.pm3_txn.proofs.Shortages.{room_refused, short_same}
use Rattle.pm3_txn.proofs.transaction.Txn.make_room.Goals as goal

pub returns-in-Ok-true-open_page-clause-made : goal.returns-in-Ok-true-open_page-clause-made
returns-in-Ok-true-open_page-clause-made g c = room_drawn c.args.self.now c.requires.space c.open_page.new.self (subst (HasTriedToOpen c.args.self.now c.open_page.new.self) c.in-Ok-false.field-0-test c.in-Ok-false.ensures.opened)
    c.draw_page.new.self c.in_default.ensures.drawn c.open_page-2.new.self
    (subst (HasTriedToOpen c.draw_page.new.self c.open_page-2.new.self) c.in-Ok-true-open_page.field-0-test c.in-Ok-true-open_page.ensures.opened)

pub returns-in-Err-clause-refused : goal.returns-in-Err-clause-refused
returns-in-Err-clause-refused g c = inr (short_same c.args.self.now c.open_page.new.self c.in-Err.fault c.requires.space c.in-Err.ensures.refused.0 c.in-Err.ensures.refused.1)

pub returns-in-Err-draw_page-clause-refused : goal.returns-in-Err-draw_page-clause-refused
returns-in-Err-draw_page-clause-refused g c =
    let none = subst (HasTriedToOpen c.args.self.now c.open_page.new.self) c.in-Ok-false.field-0-test c.in-Ok-false.ensures.opened in
    room_refused c.args.self.now c.open_page.new.self c.draw_page.new.self c.in-Err-draw_page.fault none.same none.none c.requires.space c.in-Err-draw_page.ensures.refused
