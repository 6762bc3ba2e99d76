use Rattle.std.proofs.Common.{◌≤◌, ◌-◌}
use Rattle.std.specs.FinMap as map
use Rattle.pm3_access.proofs.Moved.{IsPutTo}
use Rattle.pm3_access.proofs.moving.put_all.Given as goal

abbrev pub invariant-loop-page : goal.invariant-loop-page
invariant-loop-page l = record {
  put : IsPutTo l.fn.pages.images l.fn.others.images l.pages.images l.others.images l.from;
  room : map.len l.others.images ≤ l.pages.spare;
  others_room : map.len l.pages.images ≤ l.others.spare;
  low : l.from ≤ 16384;
}

abbrev pub decreases-loop-page : goal.decreases-loop-page
decreases-loop-page l = 16384 - l.from
