use Rattle.std.proofs.Common.{◌≡◌, ◌∙◌, Some, sym}
use Rattle.std.specs.FinMap as map
use Rattle.pm3_core.specs.declared.naming.TheConstants.{BASE}
use Rattle.pm3_copy.specs.Tables.{follows}
use Rattle.pm3_copy.proofs.SoundPages.{sound_put}
use Rattle.pm3_copy.proofs.UpdatedPages.{sound_long, changed_here}
use Rattle.pm3_copy.proofs.update_pages.update_page.Goals as goal

pub update-requires-clause-sound : goal.update-requires-clause-sound
update-requires-clause-sound c = c.requires.sound.form c.args.page c.in-Some.image.now (sym c.in-Some.ensures.value)

pub update-requires-clause-long : goal.update-requires-clause-long
update-requires-clause-long c = sound_long c.args.catalog.now BASE c.in-Some.image.now (c.requires.sound.form c.args.page c.in-Some.image.now (sym c.in-Some.ensures.value))

pub returns-clause-updated : goal.returns-clause-updated
returns-clause-updated c =
    changed_here c.args.catalog.now BASE (follows c.args.tables.now) c.args.pages.now.images c.args.page c.in-Some.image.now c.update.new.image (sym c.in-Some.ensures.value) c.update.ensures.page c.update.ensures.updated

pub returns-clause-sound : goal.returns-clause-sound
returns-clause-sound c =
    let on : map.get c.args.pages.now.images c.args.page ≡ Some c.in-Some.image.now = sym c.in-Some.ensures.value in
    let home : c.in-Some.image.now.page ≡ c.args.page = c.requires.sound.home c.args.page c.in-Some.image.now on in
    sound_put c.args.catalog.now BASE 16384 c.args.pages.now.images c.args.page c.update.new.image c.requires.sound (c.update.ensures.page ∙ home) (c.requires.sound.low c.args.page c.requires.there) c.update.ensures.sound
