use Rattle.pm3_page.proofs.Indexes.{index_none}
use Rattle.pm3_page.proofs.slots.Slots.new.Goals as goal

pub returns-clause-index : goal.returns-clause-index
returns-clause-index c = rw (c.new.ensures.items, c.new-2.ensures.items, c.new-3.ensures.none) index_none
