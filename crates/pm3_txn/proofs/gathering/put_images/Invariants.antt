use Rattle.std.proofs.Common.{◌≡◌, ◌+◌, ◌≤◌, length}
use Rattle.pm3_txn.specs.Draining.{AreNoTurns}
use Rattle.pm3_txn.specs.Gathering.{IsGathered}
use Rattle.pm3_txn.proofs.gathering.put_images.Given as goal

abbrev pub invariant-loop-n : goal.invariant-loop-n
invariant-loop-n g l = record {
  long : length l.slots.items + l.n ≡ length l.initial.slots.items;
  none : AreNoTurns l.slots.items (length l.slots.items);
  room : length l.slots.items ≤ l.images.spare;
  gathered : IsGathered l.initial.slots.items l.slots.items l.images.images;
}
