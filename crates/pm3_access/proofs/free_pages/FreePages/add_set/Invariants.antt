use Rattle.std.proofs.Common.{◌≤◌, ◌-◌}
use Rattle.pm3_access.proofs.FreeSets.{IsAddedTo}
use Rattle.pm3_access.proofs.free_pages.FreePages.add_set.Given as goal

abbrev pub invariant-loop-page : goal.invariant-loop-page
invariant-loop-page l = record { added : IsAddedTo l.fn.self.pages l.fn.self.room l.pages l.self.pages l.self.room l.from; low : l.from ≤ 16384 }

abbrev pub decreases-loop-page : goal.decreases-loop-page
decreases-loop-page l = 16384 - l.from
