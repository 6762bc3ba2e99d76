use Rattle.std.proofs.Common.{◌≡◌, ◌+◌, take}
use Rattle.pm3_access.specs.FreeList.{with_pages}
use Rattle.pm3_access.proofs.free_pages.FreePages.add_all.Given as goal

abbrev pub invariant-loop-page : goal.invariant-loop-page
invariant-loop-page l = record { pages : l.self.pages ≡ with_pages l.fn.self.pages (take l.page-index l.pages); room : l.self.room + l.page-index ≡ l.fn.self.room }
