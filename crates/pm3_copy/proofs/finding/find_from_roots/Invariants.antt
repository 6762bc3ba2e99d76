use Rattle.std.proofs.Common.{◌+◌, ◌≡◌, true, slice_index}
use Rattle.pm3_copy.specs.Finds.{Adds}
use Rattle.pm3_copy.proofs.References.{LeadsBelow}
use Rattle.pm3_copy.proofs.finding.find_from_roots.Given as goal

abbrev pub invariant-loop-slot : goal.invariant-loop-slot
invariant-loop-slot l = Adds (LeadsBelow (λ p. true) (λ slot b. b ≡ slice_index l.image.sheet.words (2 + slot)) l.slot) l.fn.found l.found
