use Rattle.std.proofs.Common.{◌≡◌, length}
use Rattle.pm3_table.specs.Passes.{Becomes}
use Rattle.pm3_rows.specs.Scans.{scanned}
use Rattle.pm3_rows.proofs.scans.scan.Given as goal

abbrev pub invariant-loop-n : goal.invariant-loop-n
invariant-loop-n g l = record {
  long : length l.out ≡ l.n;
  view : Becomes l.initial.pass l.pass (record l.initial.pass.1 { log = scanned 0 l.out l.initial.pass.1.log });
}
