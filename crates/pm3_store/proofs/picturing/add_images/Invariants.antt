use Rattle.std.proofs.Common.{◌≤◌, ◌+◌}
use Rattle.pm3_core.specs.declared.naming.TheConstants.{BASE}
use Rattle.pm3_store.specs.Recovering.{ArePictures}
use Rattle.pm3_store.proofs.picturing.add_images.Given as goal

abbrev pub invariant-loop-index : goal.invariant-loop-index
invariant-loop-index g l = record {
  pictures : ArePictures l.catalog BASE l.journal.pages l.items.items l.index l.images.images;
  room : l.journal.pages ≤ l.images.spare + l.index;
}
