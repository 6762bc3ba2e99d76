-- What steps keep, and that what was written is read.
use Rattle.std.specs.Prelude.{ℕ, List}
use Rattle.pm3_types.specs.Fields.{Fields}
use Rattle.pm3_types.specs.Graph.{Part, IsPart, IsGraph}
use Rattle.pm3_graph.specs.declared.operations.Op.{Op}
use Rattle.pm3_graph.specs.declared.operations.Op.TheVariants.{Word, SetWord, Reference, SetReference, TailRef, SetTailRef, Byte, SetByte}
use Rattle.pm3_graph.specs.Operation.{IsStep, IsAllowed, AllFit}

-- an allowed step from a graph leads to a graph, and from a part to a part
abbrev pub KeepsGraphs : Type 0
KeepsGraphs = (catalog : List Fields) (op : Op) (g h : Part) (answer : ℕ) → IsAllowed catalog op → IsStep catalog op g answer h → IsGraph g → IsGraph h

abbrev pub KeepsParts : Type 0
KeepsParts = (catalog : List Fields) (op : Op) (g h : Part) (answer : ℕ) → IsAllowed catalog op → IsStep catalog op g answer h → IsPart g → IsPart h

-- from records that fit the catalog it leads to such records
abbrev pub KeepsFits : Type 0
KeepsFits = (catalog : List Fields) (op : Op) (g h : Part) (answer : ℕ) → IsAllowed catalog op → IsStep catalog op g answer h → AllFit catalog g → AllFit catalog h

-- after a write the read of that place is a step, and answers what was written
abbrev pub ReadsWhatWasWritten : List Fields → Op → Op → ℕ → Type 0
ReadsWhatWasWritten catalog write read v = (g h : Part) (answer : ℕ) → IsStep catalog write g answer h → IsStep catalog read h v h

abbrev pub WritesStand : Type 0
WritesStand = (catalog : List Fields) (name place v : ℕ)
    → ReadsWhatWasWritten catalog (SetWord name place v) (Word name place) v
    × ReadsWhatWasWritten catalog (SetReference name place v) (Reference name place) v
    × ReadsWhatWasWritten catalog (SetTailRef name place v) (TailRef name place) v
    × ReadsWhatWasWritten catalog (SetByte name place v) (Byte name place) v
