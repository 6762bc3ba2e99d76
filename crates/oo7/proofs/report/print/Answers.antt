use Rattle.std.proofs.Common.{◌+◌, ◌∙◌, arith}
use Rattle.pm3_disk.specs.Faults.{Rose}
use Rattle.oo7.proofs.Pieces.{taken_so_far}
use Rattle.oo7.proofs.report.print.Goals as goal

pub loop-done-preserved : goal.loop-done-preserved
loop-done-preserved g c = record {
  taken = taken_so_far _ _ _ c.args.bytes.now c.loop-done.done c.in-Ok.count c.loop-done.invariant.taken (rw c.split_at.ensures.back at c.in-Ok.ensures.bytes);
  faults = c.in-Ok.ensures.calm (λ none. absurd (c.in-Ok.count-test.1 none)) ∙ c.loop-done.invariant.faults;
  within = omega (arith, c.in-Ok.ensures.bound, c.split_at.ensures.back_len);
}

pub returns-in-Err : goal.returns-in-Err
returns-in-Err g c =
    let part = c.in-Err.ensures.part in
    let rose : Rose (g.K.Sink.faults c.args.sink.now) (g.K.Sink.faults c.write.new.self) = omega (arith, c.loop-done.invariant.faults, c.in-Err.ensures.failed) in
    record { output = (rose, (c.loop-done.done + part.0, taken_so_far _ _ _ c.args.bytes.now c.loop-done.done part.0 c.loop-done.invariant.taken (rw c.split_at.ensures.back at part.2))) }
