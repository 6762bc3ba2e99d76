-- What calls do to the bytes of a device. A device may keep its bytes to itself: its content is an option.
use Rattle.std.specs.Prelude.{◌≡◌, ℕ, ◌+◌, ◌-◌, ◌≤◌, min, max, List, ◌++◌, length, take, drop, Option, Some}

-- P holds of the bytes, where the device tells them
abbrev pub IfTold : Option (List ℕ) → (List ℕ → Type 0) → Type 0
IfTold content P = (bytes : List ℕ) → content ≡ Some bytes → P bytes

-- the content has taken a step, and is told exactly where it was told before
pub record Steps (step : List ℕ → List ℕ → Type 0) (old new : Option (List ℕ)) : Type 0 where
  pub onward : (before : List ℕ) → old ≡ Some before → (after : List ℕ) × (new ≡ Some after) × step before after
  pub back : (after : List ℕ) → new ≡ Some after → (before : List ℕ) × (old ≡ Some before) × step before after

-- as many bytes as there are from this offset on, and no more than `out` has, are the first of `out`
pub record IsRead (bytes : List ℕ) (at count : ℕ) (out : List ℕ) : Type 0 where
  pub size : count ≡ min (length out) (length bytes - at)
  pub given : take count out ≡ take count (drop at bytes)

-- the old bytes with these in place of those from this offset on
abbrev pub overwrite : ℕ → List ℕ → List ℕ → List ℕ
overwrite at bytes old = take at old ++ bytes ++ drop (at + length bytes) old

-- A write of n bytes was torn: its range holds any bytes, of what lies past the old end any end may be
-- missing, and all else stands.
pub record TornWrite (at n : ℕ) (old new : List ℕ) : Type 0 where
  pub before : take at new ≡ take at old
  pub behind : drop (at + n) new ≡ drop (at + n) old
  pub no_shorter : length old ≤ length new
  pub no_longer : length new ≤ max (length old) (at + n)

-- a cut to n bytes was torn: these stand, and behind them stand any bytes or none
pub record TornCut (n : ℕ) (old new : List ℕ) : Type 0 where
  pub front : take n new ≡ take n old
  pub no_longer : length new ≤ length old

-- any bytes may stand there now
abbrev pub Anything : List ℕ → List ℕ → Type 0
Anything old new = Unit {0}

-- no byte has changed
abbrev pub Unchanged : List ℕ → List ℕ → Type 0
Unchanged old new = new ≡ old
