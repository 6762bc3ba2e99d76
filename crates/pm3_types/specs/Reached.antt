-- What the roots of a graph lead to, and the closure.
use Rattle.std.specs.Prelude.{ℕ, ◌≡◌, List, Some, IsSome, Contains}
use Rattle.std.specs.FinMap.{get}
use Rattle.pm3_types.specs.Fields.{Fields}
use Rattle.pm3_types.specs.Record.{Record}
use Rattle.pm3_types.specs.Places.{Refers}
use Rattle.pm3_types.specs.Graph.{Part}

-- a name of g that is a root, or that stands in a reference place of a record that is reached
pub data Reached (catalog : List Fields) (g : Part) : ℕ → Type 0 where
  root : (names : List ℕ) (n : ℕ) → g.roots ≡ Some names → Contains names n → IsSome (get g.records n) → Reached catalog g n
  next : (m n : ℕ) (r : Record) → Reached catalog g m → get g.records m ≡ Some r → Refers catalog r n → IsSome (get g.records n) → Reached catalog g n

-- c is g cut to the names that are reached, with its roots
pub record IsClosure (catalog : List Fields) (g c : Part) : Type 0 where
  pub kept : (n : ℕ) (r : Record) → Reached catalog g n → get g.records n ≡ Some r → get c.records n ≡ Some r
  pub only : (n : ℕ) (r : Record) → get c.records n ≡ Some r → Reached catalog g n × (get g.records n ≡ Some r)
  pub roots : c.roots ≡ g.roots
