use Rattle.std.proofs.Common.{sym, ap, ◌∙◌, arith}
use Rattle.std.specs.FinSet as set_of
use Rattle.pm3_page.specs.Bits.{pages_of}
use Rattle.pm3_page.proofs.Bitmaps.{no_pages}
use Rattle.std.specs.Ordering.{nat_cmp}
use Rattle.pm3_page.proofs.page_set.PageSet.new.Goals as goal

pub invariant_of-result : goal.invariant_of-result
invariant_of-result c = rw c.new.ensures.none (omega arith, sym (ap set_of.len no_pages ∙ set_of.len-empty nat_cmp))

pub returns : goal.returns
returns c = ap pages_of c.new.ensures.none ∙ no_pages
