use Rattle.std.proofs.Common.{◌≤◌, ◌-◌}
use Rattle.std.specs.FinMap as map
use Rattle.pm3_page.specs.PageMap.{IsAtHome}
use Rattle.pm3_journal.specs.Summaries.{has_page}
use Rattle.pm3_store.proofs.Moving.{IsPartedTo}
use Rattle.pm3_store.proofs.parting.set_apart.Given as goal

abbrev pub invariant-loop-page : goal.invariant-loop-page
invariant-loop-page l = record {
  parted : IsPartedTo (has_page l.entries.summaries) l.fn.images.images l.images.images l.others.images l.start;
  at_home : IsAtHome l.images.images;
  room : map.len l.images.images ≤ l.others.spare;
  others_room : map.len l.others.images ≤ l.images.spare;
  fewer : map.len l.images.images ≤ map.len l.fn.images.images;
  low : l.start ≤ 16384;
}

abbrev pub decreases-loop-page : goal.decreases-loop-page
decreases-loop-page l = 16384 - l.start
