-- What a record of calls says: what a read gives after them, and what a crash may have left. The newest call
-- comes first.
use Rattle.std.specs.Prelude.{◌≡◌, ◌⊎◌, ℕ, ◌/◌, ◌<◌, ◌≤◌, Bool, true, false, List, [], ◌∷◌, length, take}
use Rattle.pm3_disk.specs.Content.{overwrite, TornCut, TornWrite}
use Rattle.pm3_disk.specs.declared.call.Call.{Call}
use Rattle.pm3_disk.specs.declared.call.Call.TheVariants.{Looked, Wrote, Shortened, Synced}

-- the bytes that a write has put: all, or the first half
abbrev pub part_put : Bool → List ℕ → List ℕ
part_put true bytes = bytes
part_put false bytes = take (length bytes / 2) bytes

-- what a call makes of the bytes
abbrev pub content_step : Call → List ℕ → List ℕ
content_step Looked content = content
content_step (Wrote at bytes whole) content = overwrite at (part_put whole bytes) content
content_step (Shortened len) content = take len content
content_step Synced content = content

-- what a read gives
abbrev pub content_after : List ℕ → List Call → List ℕ
content_after began [] = began
content_after began (call ∷ calls) = content_step call (content_after began calls)

-- a crash after which each write and cut since the last sync may be torn leaves this
abbrev pub IsTorn : List ℕ → List Call → List ℕ → Type 0
IsTorn began [] left = left ≡ began
IsTorn began (Looked ∷ calls) left = IsTorn began calls left
IsTorn began (Wrote at bytes whole ∷ calls) left = (earlier : List ℕ) × IsTorn began calls earlier × TornWrite at (length bytes) earlier left
IsTorn began (Shortened len ∷ calls) left = (earlier : List ℕ) × IsTorn began calls earlier × TornCut len earlier left
IsTorn began (Synced ∷ calls) left = left ≡ content_after began calls

-- a crash after these calls leaves this: all that was written, or what is torn
abbrev pub MayLeave : List ℕ → List Call → List ℕ → Type 0
MayLeave began calls left = (left ≡ content_after began calls) ⊎ IsTorn began calls left

-- a crash at a moment, the number of calls that were made by then, leaves this
abbrev pub MayLeaveAt : List ℕ → List Call → ℕ → List ℕ → Type 0
MayLeaveAt began [] moment left = MayLeave began [] left
MayLeaveAt began (call ∷ calls) moment left =
    ((moment ≤ length calls) × MayLeaveAt began calls moment left) ⊎ ((length calls < moment) × MayLeave began (call ∷ calls) left)
