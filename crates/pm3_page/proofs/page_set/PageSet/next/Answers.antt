use Rattle.std.proofs.Common.{sym, ap, ◌∙◌}
use Rattle.std.specs.FinSet as set_of
use Rattle.pm3_page.specs.Bits.{has_bit}
use Rattle.pm3_page.proofs.Bitmaps.{contains-pages_of, next_same}
use Rattle.pm3_page.proofs.page_set.PageSet.next.Goals as goal

pub returns-clause-next : goal.returns-clause-next
returns-clause-next c =
    next_same (has_bit c.self.inside.bits.words.items) (set_of.contains c.args.self.now) c.args.start c.next.result
    (λ q. ap (λ s. set_of.contains s q) (sym c.self.view_is) ∙ contains-pages_of c.self.inside.bits.words.items q) c.next.ensures.next
