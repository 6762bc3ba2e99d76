use Rattle.std.proofs.Common.{◌≡◌, ◌-◌, ◌≤◌, length, take}
use Rattle.pm3_disk.specs.Printing.{HasTaken}
use Rattle.oo7.proofs.report.print.Given as goal

-- the sink has taken what was handed to it, and has counted no fault
abbrev pub invariant-loop-done : goal.invariant-loop-done
invariant-loop-done g l = record {
  taken : HasTaken g.K.Sink (take l.done l.bytes) l.fn.sink l.sink;
  faults : g.K.Sink.faults l.sink ≡ g.K.Sink.faults l.fn.sink;
  within : l.done ≤ length l.bytes;
}

abbrev pub decreases-loop-done : goal.decreases-loop-done
decreases-loop-done g l = length l.bytes - l.done
