use Rattle.std.proofs.Common.{◌<◌, ◌∙◌, ap, sym, subst, refl, arith}
use Rattle.std.specs.FinMap as map
use Rattle.pm3_core.specs.declared.naming.TheConstants.{BASE}
use Rattle.pm3_page.specs.PageSheets.{AreSoundPages}
use Rattle.pm3_copy.proofs.SoundPages.{sound_put}
use Rattle.pm3_copy.proofs.sample_pages.add_page.Goals as goal

pub returns : goal.returns
returns c =
    let low : c.in-Ok.image.page < 16384 = omega (arith, c.in-Ok.ensures.page) in
    subst (AreSoundPages c.args.catalog.now BASE 16384) (sym (c.put.ensures.images ∙ ap (λ images. map.insert images c.in-Ok.image.page c.in-Ok.image) c.in_ok-reserve.ensures.images))
    (sound_put c.args.catalog.now BASE 16384 c.args.pages.now.images c.in-Ok.image.page c.in-Ok.image c.requires.sound refl low c.in-Ok.ensures.sound)
