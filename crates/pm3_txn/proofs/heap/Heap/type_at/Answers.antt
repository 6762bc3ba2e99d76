use Rattle.std.proofs.Common.{◌∙◌, ap}
use Rattle.pm3_types.specs.PageForm.{is_memory_reference}
use Rattle.pm3_core.specs.declared.naming.TheConstants.{BASE}
use Rattle.pm3_access.specs.Holding.{image_in}
use Rattle.pm3_txn.proofs.ObjectsHeld.{object_some, object_unmoved}
use Rattle.pm3_txn.proofs.heap.Heap.type_at.Goals as goal

pub page_of-requires-clause-some : goal.page_of-requires-clause-some
page_of-requires-clause-some g c = object_some c.args.held.now c.args.at c.requires.object

pub type_of-requires-clause-unmoved : goal.type_of-requires-clause-unmoved
type_of-requires-clause-unmoved g c =
    object_unmoved c.args.self.now.1.opening.catalog (is_memory_reference BASE c.args.self.now.1.pages) c.args.held.now c.args.at c.requires.form c.requires.object
    c.in-Some.image.now (c.in-Some.ensures ∙ ap (image_in c.args.held.now) c.page_of.ensures)
