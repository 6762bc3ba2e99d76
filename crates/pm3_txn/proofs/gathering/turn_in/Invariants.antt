use Rattle.std.proofs.Common.{◌≡◌, ℕ, ◌<◌, false, get_or}
use Rattle.std.specs.Mem.Slots.{slots_items, slots_filled, slots_len}
use Rattle.std.specs.Mem.Slots.Ownership.{Filled}
use Rattle.pm3_txn.proofs.gathering.turn_in.Given as goal

abbrev pub invariant-loop-at : goal.invariant-loop-at
invariant-loop-at g l = record {
  filled : Filled (slots_filled l.closed.slots) l.at (slots_len l.closed.slots);
  emptied : (k : ℕ) → k < l.at → get_or (slots_filled l.closed.slots) k false ≡ false;
  same : slots_items l.closed.slots ≡ slots_items l.initial.closed.slots;
  wide : slots_len l.closed.slots ≡ slots_len l.initial.closed.slots;
}
