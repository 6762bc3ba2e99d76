-- The moments of a disk, and what a crash at each of them may leave.
use Rattle.std.specs.Prelude.{◌≡◌, ℕ, ◌<◌, ◌≤◌, List, Option, Some}

-- Time has passed from the moment `before` to the moment `now`. What a crash at an earlier moment may leave has
-- stayed the same, and whatever it may leave at a moment since has P.
pub record Passes (before now : ℕ) (was is : ℕ → List ℕ → Type 0) (P : List ℕ → Type 0) : Type 0 where
  pub later : before ≤ now
  pub stays : (t : ℕ) (left : List ℕ) → t ≤ before → was t left → is t left
  pub no_other : (t : ℕ) (left : List ℕ) → t ≤ before → is t left → was t left
  pub since : (t : ℕ) (left : List ℕ) → before < t → t ≤ now → is t left → P left

-- it comes from one of these by a step
abbrev pub After : (List ℕ → Type 0) → (List ℕ → List ℕ → Type 0) → List ℕ → Type 0
After was step left = (earlier : List ℕ) × was earlier × step earlier left

-- a crash leaves what a read gives
pub record IsSettled (content : Option (List ℕ)) (may_leave : List ℕ → Type 0) : Type 0 where
  pub only : (left : List ℕ) → may_leave left → content ≡ Some left

-- whatever a crash at a moment from `from` to `now` may leave has P
pub record HoldsSince (from now : ℕ) (may_leave : ℕ → List ℕ → Type 0) (P : List ℕ → Type 0) : Type 0 where
  pub each : (t : ℕ) (left : List ℕ) → from ≤ t → t ≤ now → may_leave t left → P left
