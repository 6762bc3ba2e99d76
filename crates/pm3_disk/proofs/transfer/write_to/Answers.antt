use Rattle.std.proofs.Common.{arith}
use Rattle.pm3_disk.proofs.Overwriting.{puts_more}
use Rattle.pm3_disk.proofs.transfer.write_to.Goals as goal

pub loop-done-preserved : goal.loop-done-preserved
loop-done-preserved g c = record {
  within = omega (arith, c.in_ok-done.ensures.bound, c.split_at.ensures.back_len);
  written = λ spot told fits.
      puts_more c.args.at c.loop-done.done c.in_ok-done.field-0 c.args.bytes.now c.split_at.result.1.now spot _ _ fits c.loop-done.invariant.within
      c.split_at.ensures.back c.in_ok-done.ensures.bound (c.loop-done.invariant.written spot told fits) c.in_ok-done.ensures.put;
}
