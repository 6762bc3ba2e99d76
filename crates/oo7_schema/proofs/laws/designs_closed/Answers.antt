use Rattle.oo7_schema.proofs.ClosedDesigns.{designs_are_closed, readings_are_whole}
use Rattle.oo7_schema.proofs.laws.designs_closed.Goals as goal

pub returns-clause-flat : goal.returns-clause-flat
returns-clause-flat c = designs_are_closed

pub returns-clause-part : goal.returns-clause-part
returns-clause-part c = readings_are_whole
