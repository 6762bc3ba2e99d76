use Rattle.std.proofs.Common.{rules, ◌≡◌, Some}
use Rattle.pm3_core.specs.declared.naming.TheConstants.{BASE}
use Rattle.pm3_access.specs.Roots.{root_held}
use Rattle.pm3_access.proofs.RootCalls.{root_read}
use Rattle.pm3_access.proofs.held.Held.root.Goals as goal

pub returns-clause-step : goal.returns-clause-step
returns-clause-step c =
    let value : root_held c.args.self.now c.args.slot ≡ Some c.root.result = search rules in
    λ catalog. root_read catalog BASE c.args.self.now c.args.slot c.root.result c.requires.slot value
