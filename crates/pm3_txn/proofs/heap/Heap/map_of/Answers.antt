use Rattle.std.proofs.Common.{◌∙◌, sym}
use Rattle.pm3_types.specs.PageForm.{is_memory_reference}
use Rattle.pm3_core.specs.declared.naming.TheConstants.{BASE}
use Rattle.pm3_txn.proofs.ObjectsHeld.{type_there}
use Rattle.pm3_txn.proofs.heap.Heap.map_of.Goals as goal

pub unreachable-requires : goal.unreachable-requires
unreachable-requires g c =
    type_there c.self.inside.catalog (is_memory_reference BASE c.self.inside.shared.1.pages) c.args.held.now c.args.at
    (rw (← c.self.invariant.catalog_is) (rw (← c.self.view_is) at c.requires.form)) c.requires.object c.args.ty c.requires.number (sym c.get.ensures ∙ c.in_default.is)
