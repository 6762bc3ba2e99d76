-- Writes and cuts that were done, in part or not at all, as torn ones.
use Rattle.std.proofs.Common.{ℕ, ◌+◌, ◌/◌, ◌≤◌, Bool, true, false, List, ◌++◌, length, take, refl, arith}
use Rattle.std.proofs.lemmas.Grind.{common_steps}
use Rattle.std.proofs.lemmas.Slice.{drop-append-drop}
use Rattle.pm3_disk.specs.Content.{overwrite, TornCut, TornWrite}
use Rattle.pm3_disk.specs.Replay.{part_put}

-- a write of some bytes is a torn write of more
pub torn_by : (at n : ℕ) (bytes old : List ℕ) → at ≤ length old → length bytes ≤ n → TornWrite at n old (overwrite at bytes old)
torn_by at n bytes old within few = record {
  before = grind (arith, common_steps);
  behind = drop-append-drop (at + length bytes) old (take at old ++ bytes) (at + n) (omega arith) (grind (arith, common_steps));
  no_shorter = grind (arith, common_steps);
  no_longer = grind (arith, common_steps);
}

pub torn_not : (at n : ℕ) (old : List ℕ) → TornWrite at n old old
torn_not at n old = record { before = refl; behind = refl; no_shorter = omega arith; no_longer = omega arith }

half_is_less : (bytes : List ℕ) → length (take (length bytes / 2) bytes) ≤ length bytes
half_is_less bytes = grind (arith, common_steps)

pub torn_by_part : (at : ℕ) (bytes : List ℕ) (whole : Bool) (old : List ℕ) → at ≤ length old → TornWrite at (length bytes) old (overwrite at (part_put whole bytes) old)
torn_by_part at bytes true old within = torn_by at (length bytes) bytes old within (omega arith)
torn_by_part at bytes false old within = torn_by at (length bytes) (take (length bytes / 2) bytes) old within (half_is_less bytes)

pub cut_by : (len : ℕ) (old : List ℕ) → TornCut len old (take len old)
cut_by len old = record { front = grind (arith, common_steps); no_longer = grind (arith, common_steps) }

pub cut_not : (len : ℕ) (old : List ℕ) → TornCut len old old
cut_not len old = record { front = refl; no_longer = omega arith }
