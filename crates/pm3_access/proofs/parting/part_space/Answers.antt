use Rattle.pm3_access.proofs.Homes.{home_none}
use Rattle.pm3_access.proofs.parting.part_space.Goals as goal

pub returns-in-Some-clause-home : goal.returns-in-Some-clause-home
returns-in-Some-clause-home c = rw c.of-volatile.ensures.volatile c.of-volatile.ensures.held.left_home

pub returns-in-None-clause-home : goal.returns-in-None-clause-home
returns-in-None-clause-home c = home_none c.new.result.images c.new.ensures.images
