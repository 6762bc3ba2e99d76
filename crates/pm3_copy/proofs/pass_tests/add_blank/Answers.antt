use Rattle.std.proofs.Common.{◌∙◌, ap, sym, subst}
use Rattle.std.specs.FinMap as map
use Rattle.pm3_page.specs.PageMap.{Images}
use Rattle.pm3_copy.specs.Fresh.{AreBlank}
use Rattle.pm3_copy.proofs.FreshPages.{blank_more}
use Rattle.pm3_copy.proofs.pass_tests.add_blank.Goals as goal

pub returns : goal.returns
returns c =
    subst AreBlank (sym (c.put.ensures.images ∙ ap (λ (m : Images). map.insert m c.in_ok-image.image.page c.in_ok-image.image) c.in_ok-reserve.ensures.images))
    (blank_more c.args.pages.now.images c.args.page c.in_ok-image.image c.requires.blank c.requires.low c.requires.high c.in_ok-image.ensures)
