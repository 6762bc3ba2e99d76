use Rattle.std.proofs.Common.{sym, subst}
use Rattle.pm3_copy.specs.Fresh.{AreBlank}
use Rattle.pm3_copy.proofs.FreshPages.{blank_none}
use Rattle.pm3_copy.proofs.pass_tests.blank_pages.Goals as goal

pub loop-i-init : goal.loop-i-init
loop-i-init c = record { blank = subst AreBlank (sym c.new-pages.ensures.images) blank_none }
