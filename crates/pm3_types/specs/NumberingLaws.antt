-- Laws of the numbering: it numbers just the reached names, each once.
use Rattle.std.specs.Prelude.{ℕ, ◌≡◌, ◌↔◌, List, Some, IsTrue, slice_get}
use Rattle.pm3_types.specs.Fields.{Fields}
use Rattle.pm3_types.specs.Graph.{Part}
use Rattle.pm3_types.specs.Reached.{Reached, IsClosure}
use Rattle.pm3_types.specs.Numbering.{met_names, is_among, closure}

-- the names that are met are those that are reached
abbrev pub MeetsTheReached : Type 0
MeetsTheReached = (catalog : List Fields) (g : Part) (n : ℕ) → IsTrue (is_among (met_names catalog g) n) ↔ Reached catalog g n

-- no name is met twice
abbrev pub MeetsOnce : Type 0
MeetsOnce = (catalog : List Fields) (g : Part) (i j n : ℕ) → slice_get (met_names catalog g) i ≡ Some n → slice_get (met_names catalog g) j ≡ Some n → i ≡ j

-- so the closure that is computed is the closure
abbrev pub ComputesTheClosure : Type 0
ComputesTheClosure = (catalog : List Fields) (g : Part) → IsClosure catalog g (closure catalog g)
