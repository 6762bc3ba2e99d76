-- The part of the rule on the commit whose append failed.
use Rattle.std.specs.Prelude.{◌≡◌, ◌≢◌, ◌⊎◌, ℕ, ◌+◌, Bool, true, List, []}
use Rattle.pm3_history.specs.Entry.{Done}

pub record LostView : Type 0 where
  pub live : Bool
  pub failed : List Done
  pub lost : List Done

-- One live view keeps the failed commits, where there are any, and no other keeps one. Who holds the turn knows them.
pub record LostRule (turn_holder : ℕ) (lost : List Done) (crew : ℕ → LostView) : Type 0 where
  pub bearer : ℕ
  pub lives : (lost ≡ []) ⊎ ((crew bearer).live ≡ true)
  pub bears : (crew bearer).live ≡ true → (crew bearer).failed ≡ lost
  pub others : (k : ℕ) → (crew k).live ≡ true → k ≢ bearer → (crew k).failed ≡ []
  pub turn_knows : (k : ℕ) → turn_holder ≡ k + 1 → (crew k).lost ≡ lost
