use Rattle.std.proofs.Common.{sym, subst}
use Rattle.pm3_core.specs.declared.naming.TheConstants.{BASE}
use Rattle.pm3_page.specs.PageSheets.{AreSoundPages}
use Rattle.pm3_copy.proofs.SoundPages.{sound_none}
use Rattle.pm3_copy.proofs.sample_pages.pages_between.Goals as goal

pub add_roots-requires : goal.add_roots-requires
add_roots-requires c = subst (AreSoundPages c.args.catalog.now BASE 16384) (sym c.new-pages.ensures.images) (sound_none c.args.catalog.now BASE 16384)
