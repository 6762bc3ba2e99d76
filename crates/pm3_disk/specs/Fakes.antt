-- What clauses see of a reader, a source and a sink in memory.
use Rattle.std.specs.Prelude.{◌≡◌, ◌⊎◌, ℕ, ◌/◌, List, ◌++◌, length, take, Contains, Result, Ok, Err}
use Rattle.pm3_disk.specs.Plan.{Plan, passed, failed, blamed, raised_32}

-- a reader's bytes
pub record Reading : Type 0 where
  pub content : List ℕ
  pub plan : Plan

-- the bytes that a source has left
pub record Giving : Type 0 where
  pub left : List ℕ
  pub plan : Plan

-- the bytes that a sink has taken, and how often it wanted memory
pub record Taking : Type 0 where
  pub taken : List ℕ
  pub plan : Plan
  pub wanted : ℕ

-- A sink was given a piece. It takes it whole. Where the call's number is in the list it takes the first half
-- and fails, and where it wants memory it takes nothing, fails and has no number.
abbrev pub IsTaken : {E : Type 0} → List ℕ → Taking → Taking → Result ℕ E → Type 0
IsTaken piece old new (Ok count) =
    (Contains old.plan.fails old.plan.next → ⊥) × (count ≡ length piece) × (new ≡ record old { taken = old.taken ++ piece; plan = passed old.plan })
IsTaken piece old new (Err _) =
    (Contains old.plan.fails old.plan.next × (new ≡ record old { taken = old.taken ++ take (length piece / 2) piece; plan = failed old.plan }))
    ⊎ (new ≡ record old { plan = blamed old.plan; wanted = raised_32 old.wanted })
