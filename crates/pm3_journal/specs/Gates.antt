-- Bytes behind a gate: they count once the gate, the byte before them, is 1.
use Rattle.std.specs.Prelude.{◌≡◌, ◌≢◌, ◌⊎◌, ℕ, ◌+◌, ◌<◌, Bool, true, false, List, ◌∷◌, ◌++◌, length, take, drop, slice_index}
use Rattle.pm3_disk.specs.Content.{overwrite, TornWrite}

-- the gate at an offset is there, and is closed
pub record IsClosed (at : ℕ) (bytes : List ℕ) : Type 0 where
  pub within : at < length bytes
  pub closed : slice_index bytes at ≢ 1

-- It is known of the gate at an offset whether it is there and closed. If not, the bytes end there, or it is open.
pub record IsGate (is_closed : Bool) (at : ℕ) (bytes : List ℕ) : Type 0 where
  pub closed : is_closed ≡ true → IsClosed at bytes
  pub unclosed : is_closed ≡ false → (length bytes ≡ at) ⊎ (slice_index bytes at ≡ 1)

-- all before the gate is as it was, and the gate is closed
pub record Closes (at : ℕ) (old new : List ℕ) : Type 0 where
  pub before : take at new ≡ take at old
  pub gate : IsClosed at new

-- the gate is open, and this body stands behind it
abbrev pub entered : ℕ → List ℕ → List ℕ → List ℕ
entered at body old = overwrite at (1 ∷ body) old

-- the whole body stands behind a gate of any kind
pub record IsStaged (at : ℕ) (body old new : List ℕ) : Type 0 where
  pub before : take at new ≡ take at old
  pub within : at < length new
  pub behind : drop (at + 1) new ≡ body ++ drop (at + 1 + length body) old

-- A crash, while a body is put behind a closed gate which is then opened, leaves the gate and all before it as they
-- were, or the whole body.
abbrev pub EntryLeaves : ℕ → List ℕ → List ℕ → List ℕ → Type 0
EntryLeaves at body old left = (take (at + 1) left ≡ take (at + 1) old) ⊎ IsStaged at body old left

-- a crash while a gate is closed leaves any byte there, and what was there where it is closed already
pub record ClosingLeaves (at : ℕ) (is_closed : Bool) (old left : List ℕ) : Type 0 where
  pub torn : TornWrite at 1 old left
  pub same : is_closed ≡ true → left ≡ old

-- the gate is being closed, or it was closed and the body is being put
abbrev pub AppendLeaves : ℕ → Bool → List ℕ → List ℕ → List ℕ → Type 0
AppendLeaves at is_closed body old left =
    ClosingLeaves at is_closed old left ⊎ ((mid : List ℕ) × Closes at old mid × EntryLeaves at body mid left)
