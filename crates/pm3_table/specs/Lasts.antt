-- The part of the rule on a mutator that saw that it is the last one.
use Rattle.std.specs.Prelude.{◌≡◌, ℕ, Bool, true}

pub record LastView : Type 0 where
  pub live : Bool
  pub last : Bool

-- where one saw that it is the last, no other lives
abbrev pub LastRule : (ℕ → LastView) → Type 0
LastRule crew = (k : ℕ) → (crew k).live ≡ true → (crew k).last ≡ true → (j : ℕ) → (crew j).live ≡ true → j ≡ k
