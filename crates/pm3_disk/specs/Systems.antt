-- What writes do to an open file of a system, where it tells its bytes and its position.
use Rattle.std.specs.Prelude.{◌≡◌, ℕ, ◌+◌, ◌≤◌, List, length, Option, Some}
use Rattle.pm3_disk.specs.Content.{overwrite}

-- the bytes of an open file, and where its next transfer begins
pub record Spot : Type 0 where
  pub bytes : List ℕ
  pub position : ℕ

-- P holds of the file, where it tells what it has
abbrev pub IfSeen : Option Spot → (Spot → Type 0) → Type 0
IfSeen seen P = (spot : Spot) → seen ≡ Some spot → P spot

-- the next transfer begins at this offset
abbrev pub Moves : ℕ → Option Spot → Option Spot → Type 0
Moves at old new = IfSeen old (λ spot. new ≡ Some (record spot { position = at }))

-- these bytes were written where the position was, and it stands behind them now
abbrev pub Puts : List ℕ → Option Spot → Option Spot → Type 0
Puts bytes old new = IfSeen old (λ spot. new ≡ Some (record { bytes = overwrite spot.position bytes spot.bytes; position = spot.position + length bytes }))

-- a file that has so many bytes has these from an offset on
abbrev pub Writes : ℕ → List ℕ → Option Spot → Option Spot → Type 0
Writes at bytes old new = IfSeen old (λ spot. at ≤ length spot.bytes → (now : Spot) × (new ≡ Some now) × (now.bytes ≡ overwrite at bytes spot.bytes))
