use Rattle.std.proofs.Common.{◌≤◌, ◌-◌}
use Rattle.pm3_access.proofs.Homes.{IsCopiedTo}
use Rattle.pm3_access.proofs.held_pages.copy_all.Given as goal

abbrev pub invariant-loop-page : goal.invariant-loop-page
invariant-loop-page l = record { copied : IsCopiedTo l.copies.images l.pages.images l.from; low : l.from ≤ 16384 }

abbrev pub decreases-loop-page : goal.decreases-loop-page
decreases-loop-page l = 16384 - l.from
