use Rattle.std.proofs.Common.{arith}
use Rattle.pm3_page.proofs.Bitmaps.{few_pages}
use Rattle.pm3_page.proofs.page_set.PageSet.len.Goals as goal

pub returns-clause-few : goal.returns-clause-few
returns-clause-few c = omega (arith, few_pages c.self.inside.bits.words.items c.self.invariant.0)
