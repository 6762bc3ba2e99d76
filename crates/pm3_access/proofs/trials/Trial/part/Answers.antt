use Rattle.std.proofs.Common.{◌≡◌, sym, subst}
use Rattle.pm3_core.specs.declared.naming.TheConstants.{BASE}
use Rattle.pm3_access.specs.Access.{AreSound}
use Rattle.pm3_access.proofs.trials.Trial.part.Goals as goal

pub invariant_of-result : goal.invariant_of-result
invariant_of-result c = (c.in-Ok.ensures.rejoin, λ sound. subst (AreSound c.self.inside.catalog BASE 16384) (sym c.in-Ok.ensures.joined) (c.self.invariant sound))
