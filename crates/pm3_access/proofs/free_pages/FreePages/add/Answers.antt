use Rattle.std.proofs.Common.{ap, ◌∙◌}
use Rattle.std.specs.FinSet as set_of
use Rattle.pm3_access.specs.FreeList.{FreeList}
use Rattle.pm3_access.proofs.FreeLists.{pushed}
use Rattle.pm3_access.proofs.free_pages.FreePages.add.Goals as goal

pub returns-clause-pages : goal.returns-clause-pages
returns-clause-pages c = ap set_of.from_list c.in-Ok.ensures.items ∙ pushed c.self.inside.pages.items c.args.page ∙ ap (λ (f : FreeList). set_of.insert f.pages c.args.page) c.self.view_is
