use Rattle.std.proofs.Common.{◌≡◌, ◌≤◌, ◌+◌, drop}
use Rattle.pm3_core.specs.declared.naming.TheConstants.{BASE}
use Rattle.pm3_types.specs.PassMoves.{sizes, pages_behind, pages_wanted}
use Rattle.pm3_page.specs.PageSheets.{sheets_of}
use Rattle.pm3_copy.proofs.wanted.pages_for.Given as goal

abbrev pub invariant-loop-at : goal.invariant-loop-at
invariant-loop-at l = record {
  so_far : l.pages + pages_behind (sizes l.catalog BASE (sheets_of l.images.images) (drop l.at-index l.list)) l.end ≡ pages_wanted (sizes l.catalog BASE (sheets_of l.images.images) l.list);
  few : l.pages ≤ l.at-index;
  within : l.end ≤ 512;
}
