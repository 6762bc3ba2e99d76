use Rattle.std.proofs.Common.{rules, ◌-◌}
use Rattle.std.specs.FinSet as set_of
use Rattle.pm3_access.proofs.Freed.{joined_by, rejoin_by}
use Rattle.pm3_access.proofs.parted.Parted.add_free.Goals as goal

pub returns-clause-added : goal.returns-clause-added
returns-clause-added c = search rules

pub returns-clause-joined : goal.returns-clause-joined
returns-clause-joined c = joined_by (λ free. set_of.insert free c.args.page) (λ room. room - 1) c.args.self.now _ (returns-clause-added c)

pub returns-clause-rejoin : goal.returns-clause-rejoin
returns-clause-rejoin c = rejoin_by (λ free. set_of.insert free c.args.page) (λ room. room - 1) c.args.self.now _ (returns-clause-added c)
