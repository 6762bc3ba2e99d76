use Rattle.std.proofs.Common.{◌≡◌, ◌+◌, slice_index}
use Rattle.pm3_types.specs.Shown.{list_of}
use Rattle.oo7_dump.proofs.looking.slots.Given as goal

abbrev pub invariant-loop-slot : goal.invariant-loop-slot
invariant-loop-slot l = l.names.items ≡ list_of l.slot (λ slot. slice_index l.image.sheet.words (2 + slot))
