use Rattle.oo7_schema.proofs.TriedIsDesign.{tried_is_a_design}
use Rattle.oo7_schema.proofs.laws.small_design.Goals as goal

pub returns : goal.returns
returns c = tried_is_a_design
