use Rattle.pm3_access.proofs.Homes.{held_none}
use Rattle.pm3_access.proofs.held_pages.HeldPages.new.Goals as goal

pub invariant_of-result : goal.invariant_of-result
invariant_of-result c = held_none _ _ c.new.ensures.images c.new-2.ensures.images
