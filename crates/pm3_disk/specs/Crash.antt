-- The bytes that one crash leaves: a number chooses what becomes of each write since the last sync.
use Rattle.std.specs.Prelude.{ℕ, ◌+◌, ◌-◌, ◌*◌, ◌/◌, ◌%◌, ◌^◌, ◌==◌, Bool, if◌then◌else◌, nat_le, List, [], ◌∷◌, length, take, drop, replicate}
use Rattle.pm3_disk.specs.Content.{overwrite}
use Rattle.pm3_disk.specs.Replay.{part_put, content_after}
use Rattle.pm3_disk.specs.declared.call.Call.{Call}
use Rattle.pm3_disk.specs.declared.call.Call.TheVariants.{Looked, Wrote, Shortened, Synced}
use Rattle.pm3_disk.specs.declared.fate.Fate.{Fate}
use Rattle.pm3_disk.specs.declared.fate.Fate.TheVariants.{Written, Missing, Half, Ones}

-- the fate that the two lowest bits stand for
abbrev pub fate_of_bits : ℕ → Fate
fate_of_bits bits = if bits == 0 then Written else if bits == 1 then Missing else if bits == 2 then Half else Ones

-- the fate of the write with this number, from 0 on since the last sync: two bits, and after 32 writes the same again
abbrev pub fate_of : ℕ → ℕ → Fate
fate_of choice number = fate_of_bits (choice / 2 ^ (2 * (number % 32)) % 4)

-- what a write of this fate makes of the bytes that are left without it
abbrev pub meets : Fate → ℕ → List ℕ → Bool → List ℕ → List ℕ
meets Written at bytes whole left = overwrite at (part_put whole bytes) left
meets Missing at bytes whole left = left
meets Half at bytes whole left = overwrite at (take (length bytes / 2) bytes) left
meets Ones at bytes whole left = overwrite at (replicate (length bytes) 1) left

-- what a call makes of what is left, where a read gives this content before it; a write past the end is not done
abbrev pub left_step : Call → Fate → List ℕ → List ℕ → List ℕ
left_step Looked fate content left = left
left_step (Wrote at bytes whole) fate content left = if nat_le at (length left) then meets fate at bytes whole left else left
left_step (Shortened len) fate content left = take len left
left_step Synced fate content left = content

-- how many writes there are since the last sync
abbrev pub writes_step : Call → ℕ → ℕ
writes_step Looked writes = writes
writes_step (Wrote at bytes whole) writes = writes + 1
writes_step (Shortened len) writes = writes
writes_step Synced writes = 0

abbrev pub writes_after : List Call → ℕ
writes_after [] = 0
writes_after (call ∷ calls) = writes_step call (writes_after calls)

-- the bytes that a crash after these calls leaves
abbrev pub left_after : ℕ → List ℕ → List Call → List ℕ
left_after choice began [] = began
left_after choice began (call ∷ calls) = left_step call (fate_of choice (writes_after calls)) (content_after began calls) (left_after choice began calls)

-- the first so many of the calls
abbrev pub oldest : ℕ → List Call → List Call
oldest count calls = drop (length calls - count) calls
