-- The frame law: what an operation does to a part of a graph, it does to the graph.
use Rattle.std.specs.Prelude.{ℕ, List, [], ◌∷◌}
use Rattle.pm3_types.specs.Fields.{Fields}
use Rattle.pm3_types.specs.Graph.{Part, PartOf, with_part}
use Rattle.pm3_graph.specs.declared.operations.Op.{Op}
use Rattle.pm3_graph.specs.Operation.{IsStep, IsRun, IsNewTo}

-- a step on a part is a step, with the same answer, on each graph of which it is part, where a new name is not in the graph
abbrev pub FrameOfSteps : Type 0
FrameOfSteps = (catalog : List Fields) (op : Op) (f g h : Part) (answer : ℕ)
    → PartOf f g → IsNewTo g op → IsStep catalog op f answer h → IsStep catalog op g answer (with_part g h)

-- the names that the operations make are not in g
abbrev pub AreNewTo : Part → List (Op × ℕ) → Type 0
AreNewTo g [] = Unit {0}
AreNewTo g (e ∷ es) = IsNewTo g e.0 × AreNewTo g es

-- the same of a run of operations
abbrev pub FrameOfRuns : Type 0
FrameOfRuns = (catalog : List Fields) (ops : List (Op × ℕ)) (f g h : Part)
    → PartOf f g → AreNewTo g ops → IsRun catalog ops f h → IsRun catalog ops g (with_part g h)

-- what was made of the part is part of what was made of the graph
abbrev pub FrameKeepsParts : Type 0
FrameKeepsParts = (g h : Part) → PartOf h (with_part g h)
