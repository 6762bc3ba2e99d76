use Rattle.std.proofs.Common.{◌≤◌, ◌-◌}
use Rattle.pm3_copy.proofs.pass_tests.expect_images.Given as goal

abbrev pub invariant-loop-page : goal.invariant-loop-page
invariant-loop-page l = record { low : l.from ≤ 16384 }

abbrev pub decreases-loop-page : goal.decreases-loop-page
decreases-loop-page l = 16384 - l.from
