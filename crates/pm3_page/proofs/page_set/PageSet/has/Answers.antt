use Rattle.std.proofs.Common.{sym, ap, ◌∙◌}
use Rattle.std.specs.FinSet as set_of
use Rattle.pm3_page.proofs.Bitmaps.{contains-pages_of}
use Rattle.pm3_page.proofs.page_set.PageSet.has.Goals as goal

pub returns : goal.returns
returns c = c.has.ensures ∙ sym (contains-pages_of c.self.inside.bits.words.items c.args.page) ∙ ap (λ s. set_of.contains s c.args.page) c.self.view_is
