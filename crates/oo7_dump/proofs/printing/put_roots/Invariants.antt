use Rattle.std.proofs.Common.{◌≡◌, ◌++◌, drop}
use Rattle.pm3_types.specs.Dump.{root_lines}
use Rattle.oo7_dump.proofs.printing.put_roots.Given as goal

abbrev pub invariant-loop-slot : goal.invariant-loop-slot
invariant-loop-slot l = l.text ++ root_lines l.met l.slot (drop l.slot l.roots) ≡ l.initial.text ++ root_lines l.met 0 l.roots
