use Rattle.std.proofs.Common.{◌≡◌, ◌<◌, ◌≤◌, ◌+◌, ◌++◌, ℕ, List, Some, length, drop, vec_capacity}
use Rattle.std.specs.FinMap as map
use Rattle.pm3_core.specs.declared.naming.TheConstants.{BASE}
use Rattle.pm3_types.specs.Layout.{PageImage, end_of}
use Rattle.pm3_types.specs.PassMoves.{sizes, pages_wanted}
use Rattle.pm3_page.specs.PageSheets.{AreSoundPages, sheets_of}
use Rattle.pm3_copy.specs.Fresh.{AreNext}
use Rattle.pm3_copy.specs.Moving.{AreCopied}
use Rattle.pm3_copy.proofs.Spots.{AreSettling}
use Rattle.pm3_copy.proofs.moving.move_all.Given as goal

abbrev pub invariant-loop-i : goal.invariant-loop-i
invariant-loop-i l = record {
  olds : l.table.olds.items ≡ l.fn.leaving;
  count : length l.table.news.items ≡ l.i;
  room : length l.fn.leaving ≤ vec_capacity l.table.news;
  sound : AreSoundPages l.catalog BASE 16384 l.fresh.images;
  spot : l.spot.end < 512 → (target : PageImage) × (map.get l.fresh.images l.spot.page ≡ Some target) × (end_of target.sheet ≡ l.spot.end) × (3 ≤ l.spot.page) × (2 ≤ l.spot.end);
  within : l.spot.end ≤ 512;
  low : l.spot.page < 16384;
  copied : AreCopied l.catalog BASE l.volatile.images l.fn.leaving l.table.news.items l.fn.fresh.images l.fresh.images;
  settling : (pages more : List ℕ) → AreNext l.fn.fresh.images (l.after + 1) (pages ++ more) → length pages ≡ pages_wanted (sizes l.catalog BASE (sheets_of l.volatile.images) l.fn.leaving)
      → AreSettling BASE (sizes l.catalog BASE (sheets_of l.volatile.images) l.fn.leaving) pages more l.after l.fresh.images
      (sizes l.catalog BASE (sheets_of l.volatile.images) (drop l.i l.fn.leaving)) l.table.news.items l.spot.page l.spot.end;
  before : (p : ℕ) → p ≤ l.after → map.get l.fresh.images p ≡ map.get l.fn.fresh.images p;
}
