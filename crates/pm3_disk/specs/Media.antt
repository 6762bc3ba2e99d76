-- What clauses see of the bytes of a disk in memory: as they were at first, and as they are.
use Rattle.std.specs.Prelude.{ℕ, List}

pub record Media : Type 0 where
  pub began : List ℕ
  pub present : List ℕ
