use Rattle.std.proofs.Common.{rules}
use Rattle.pm3_access.proofs.Freed.{joined_least, rejoin_least}
use Rattle.pm3_access.proofs.parted.Parted.least_free.Goals as goal

pub returns-clause-taken : goal.returns-clause-taken
returns-clause-taken c = search rules

pub returns-clause-joined : goal.returns-clause-joined
returns-clause-joined c = joined_least c.take_least.result c.args.self.now _ (returns-clause-taken c)

pub returns-clause-rejoin : goal.returns-clause-rejoin
returns-clause-rejoin c = rejoin_least c.take_least.result c.args.self.now _ (returns-clause-taken c)
