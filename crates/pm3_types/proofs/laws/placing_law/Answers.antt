use Rattle.pm3_types.proofs.Placings.{placed_laid, others_placed}
use Rattle.pm3_types.proofs.laws.placing_law.Goals as goal

pub returns-clause-laid : goal.returns-clause-laid
returns-clause-laid c = λ catalog page sheet size head name laid low two fits sized. placed_laid catalog page sheet size head name laid low two fits sized

pub returns-clause-others : goal.returns-clause-others
returns-clause-others c = λ catalog page sheet size head name book t laid low two fits sized apart.
    others_placed catalog page sheet size head name laid low two fits sized book t apart
