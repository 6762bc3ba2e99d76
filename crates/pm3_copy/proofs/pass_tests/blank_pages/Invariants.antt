use Rattle.pm3_copy.specs.Fresh.{AreBlank}
use Rattle.pm3_copy.proofs.pass_tests.blank_pages.Given as goal

abbrev pub invariant-loop-i : goal.invariant-loop-i
invariant-loop-i l = record { blank : AreBlank l.pages.images }
