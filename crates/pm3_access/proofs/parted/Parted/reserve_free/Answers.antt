use Rattle.std.proofs.Common.{rules, max}
use Rattle.pm3_access.proofs.Freed.{joined_ok, rejoin_ok, enough_ok}
use Rattle.pm3_access.proofs.parted.Parted.reserve_free.Goals as goal

pub returns-clause-room : goal.returns-clause-room
returns-clause-room c = search rules

pub returns-clause-refused : goal.returns-clause-refused
returns-clause-refused c = search rules

pub returns-clause-joined : goal.returns-clause-joined
returns-clause-joined c = joined_ok (λ free. free) (λ room. max room c.args.more) c.reserve.result c.args.self.now _ (returns-clause-room c)

pub returns-clause-rejoin : goal.returns-clause-rejoin
returns-clause-rejoin c = rejoin_ok (λ free. free) (λ room. max room c.args.more) c.reserve.result c.args.self.now _ (returns-clause-room c) (returns-clause-refused c)

pub returns-clause-enough : goal.returns-clause-enough
returns-clause-enough c = enough_ok c.args.more c.reserve.result c.args.self.now _ (returns-clause-room c)
