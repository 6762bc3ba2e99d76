use Rattle.oo7_schema.proofs.NearDesign.{near_designs_keep}
use Rattle.oo7_schema.proofs.StaysDesign.{near_designs_stay}
use Rattle.oo7_schema.proofs.laws.changed_parts.Goals as goal

pub returns-clause-kept : goal.returns-clause-kept
returns-clause-kept c = λ t v w es near tree. near_designs_keep t v w es near tree

pub returns-clause-design : goal.returns-clause-design
returns-clause-design c = λ g w design near listed dates bounds. near_designs_stay g w design near listed dates bounds
