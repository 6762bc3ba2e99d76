use Rattle.std.proofs.Common.{sym, ◌∙◌}
use Rattle.pm3_types.specs.Layout.{word_in}
use Rattle.pm3_core.specs.declared.naming.TheConstants.{BASE}
use Rattle.pm3_access.proofs.Homes.{held_insert}
use Rattle.pm3_access.proofs.Writing.{written_page, written_among}
use Rattle.pm3_access.proofs.held_pages.HeldPages.write.Goals as goal

pub invariant_of-self : goal.invariant_of-self
invariant_of-self c =
    held_insert c.self.inside.left.images c.self.inside.found.images c.args.page c.write_place.new.image
    (written_page c.args.catalog.now c.in-Some.image.now (word_in BASE c.args.at) c.args.place c.args.value c.write_place.result c.write_place.new.image c.write_place.ensures
    ∙ c.self.invariant.left_home c.args.page c.in-Some.image.now (sym c.in-Some.ensures.value))
    c.self.invariant

pub returns : goal.returns
returns c =
    rw (← c.self.view_is) (written_among BASE c.args.catalog.now c.self.inside.left.images c.self.inside.found.images c.args.page c.args.at c.args.place c.args.value c.write_place.result c.in-Some.image.now
    c.write_place.new.image (sym c.in-Some.ensures.value) c.write_place.ensures)
