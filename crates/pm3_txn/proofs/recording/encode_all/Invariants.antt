use Rattle.std.proofs.Common.{◌≡◌, ◌<◌, ◌≤◌, ◌+◌, ◌-◌, ℕ, Some, length, map}
use Rattle.std.specs.FinMap as images
use Rattle.pm3_types.specs.Layout.{PageImage}
use Rattle.pm3_txn.specs.Committing.{IsFiled}
use Rattle.pm3_txn.proofs.Filed.{item_of}
use Rattle.pm3_txn.proofs.Rises.{below}
use Rattle.pm3_txn.proofs.recording.encode_all.Given as goal

abbrev pub invariant-loop-page : goal.invariant-loop-page
invariant-loop-page l = record {
  items : l.pages.items ≡ map (item_of l.catalog) (below l.from (images.entries l.written.images));
  room : images.len l.written.images ≤ l.pages.room + length l.pages.items;
  filed : (q : ℕ) (image : PageImage) → q < l.from → images.get l.written.images q ≡ Some image → IsFiled l.catalog image;
  low : l.from ≤ 16384;
}

abbrev pub decreases-loop-page : goal.decreases-loop-page
decreases-loop-page l = 16384 - l.from
