use Rattle.std.proofs.Common.{◌≡◌, ◌+◌, ◌-◌, ◌≤◌, length, take, Some}
use Rattle.pm3_disk.specs.Content.{overwrite}
use Rattle.pm3_disk.specs.Systems.{IfSeen}
use Rattle.pm3_disk.proofs.transfer.write_to.Given as goal

-- the first `done` bytes are written, and the position stands behind them
abbrev pub invariant-loop-done : goal.invariant-loop-done
invariant-loop-done g l = record {
  within : l.done ≤ length l.bytes;
  written : IfSeen (g.F.Taker.seen l.fn.file) (λ spot. l.at ≤ length spot.bytes
      → g.F.Taker.seen l.file ≡ Some (record { bytes = overwrite l.at (take l.done l.bytes) spot.bytes; position = l.at + l.done }));
}

abbrev pub decreases-loop-done : goal.decreases-loop-done
decreases-loop-done g l = length l.bytes - l.done
