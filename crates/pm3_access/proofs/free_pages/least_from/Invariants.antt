use Rattle.std.proofs.Common.{take}
use Rattle.std.specs.FinSet as set_of
use Rattle.std.specs.Ordering.{nat_cmp}
use Rattle.pm3_page.specs.Next.{IsNext}
use Rattle.pm3_access.proofs.free_pages.least_from.Given as goal

abbrev pub invariant-loop-page : goal.invariant-loop-page
invariant-loop-page l = IsNext (set_of.contains (set_of.from_list {R = nat_cmp} (take l.page-index l.pages))) l.start l.least
