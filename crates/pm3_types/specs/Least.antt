-- The least set that holds some first members and whatever its members lead to.
use Rattle.std.specs.Prelude.{ℕ}

pub data Least (Begins : ℕ → Type 0) (Leads : ℕ → ℕ → Type 0) : ℕ → Type 0 where
  begin : (a : ℕ) → Begins a → Least Begins Leads a
  next : (a b : ℕ) → Least Begins Leads a → Leads a b → Least Begins Leads b
