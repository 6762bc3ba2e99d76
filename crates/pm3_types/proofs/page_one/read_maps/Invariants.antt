use Rattle.pm3_types.proofs.Reading.{SoFar}
use Rattle.pm3_types.proofs.page_one.read_maps.Given as goal

abbrev pub invariant-loop-i : goal.invariant-loop-i
invariant-loop-i l = SoFar l.count l.i l.fn.bytes l.maps.items l.rest
