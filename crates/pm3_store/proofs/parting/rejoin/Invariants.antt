use Rattle.std.proofs.Common.{◌≤◌, ◌-◌}
use Rattle.std.specs.FinMap as map
use Rattle.pm3_page.specs.PageMap.{IsAtHome}
use Rattle.pm3_store.proofs.Moving.{IsJoinedTo}
use Rattle.pm3_store.proofs.parting.rejoin.Given as goal

abbrev pub invariant-loop-page : goal.invariant-loop-page
invariant-loop-page l = record {
  joined : IsJoinedTo l.fn.images.images l.fn.others.images l.images.images l.others.images l.start;
  at_home : IsAtHome l.others.images;
  room : map.len l.others.images ≤ l.images.spare;
  low : l.start ≤ 16384;
}

abbrev pub decreases-loop-page : goal.decreases-loop-page
decreases-loop-page l = 16384 - l.start
