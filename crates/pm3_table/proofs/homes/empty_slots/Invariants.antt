use Rattle.std.proofs.Common.{◌≡◌, ◌≤◌, None, replicate, vec_capacity}
use Rattle.pm3_table.proofs.homes.empty_slots.Given as goal

abbrev pub invariant-loop-n : goal.invariant-loop-n
invariant-loop-n g l = (l.slots.items ≡ replicate l.n None) × (l.count ≤ vec_capacity l.slots)
