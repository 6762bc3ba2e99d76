use Rattle.std.proofs.Common.{sym, ◌∙◌}
use Rattle.pm3_core.specs.declared.naming.TheConstants.{BASE}
use Rattle.pm3_access.proofs.Homes.{held_insert}
use Rattle.pm3_access.proofs.Writing.{placed_page, made_among}
use Rattle.pm3_access.proofs.held_pages.HeldPages.make.Goals as goal

pub invariant_of-self-2 : goal.invariant_of-self-2
invariant_of-self-2 c =
    held_insert c.self.inside.left.images c.self.inside.found.images c.args.page c.place_object.new.image
    (placed_page BASE c.args.catalog.now c.in-Some.image.now c.args.ty c.args.tail c.args.name c.place_object.result c.place_object.new.image c.place_object.ensures
    ∙ c.self.invariant.left_home c.args.page c.in-Some.image.now (sym c.in-Some.ensures.value))
    c.self.invariant

pub returns-clause-made : goal.returns-clause-made
returns-clause-made c =
    rw (← c.self.view_is) (made_among BASE c.args.catalog.now c.self.inside.left.images c.self.inside.found.images c.args.page c.args.ty c.args.tail c.args.name c.place_object.result c.in-Some.image.now
    c.place_object.new.image (sym c.in-Some.ensures.value) c.place_object.ensures)
