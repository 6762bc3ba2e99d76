use Rattle.oo7_schema.proofs.Building.{built_is_design}
use Rattle.oo7_schema.proofs.BuiltClosed.{built_is_closed}
use Rattle.oo7_schema.proofs.laws.builds.Goals as goal

pub returns-clause-design : goal.returns-clause-design
returns-clause-design c = built_is_design

pub returns-clause-closed : goal.returns-clause-closed
returns-clause-closed c = built_is_closed
