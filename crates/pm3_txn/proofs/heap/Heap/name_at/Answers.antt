use Rattle.pm3_types.specs.PageForm.{is_memory_reference}
use Rattle.pm3_core.specs.declared.naming.TheConstants.{BASE}
use Rattle.pm3_txn.proofs.ObjectsHeld.{object_some, name_within}
use Rattle.pm3_txn.proofs.heap.Heap.name_at.Goals as goal

pub page_of-requires-clause-some : goal.page_of-requires-clause-some
page_of-requires-clause-some g c = object_some c.args.held.now c.args.at c.requires.object

pub name_of-requires-clause-within : goal.name_of-requires-clause-within
name_of-requires-clause-within g c =
    name_within c.args.self.now.1.opening.catalog (is_memory_reference BASE c.args.self.now.1.pages) c.args.held.now c.args.at c.requires.form c.requires.object
