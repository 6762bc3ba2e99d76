use Rattle.pm3_access.proofs.Homes.{home_none}
use Rattle.pm3_access.proofs.spaces.Space.new.Goals as goal

pub invariant_of-result : goal.invariant_of-result
invariant_of-result c = home_none _ c.new.ensures.images
