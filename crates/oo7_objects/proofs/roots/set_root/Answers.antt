use Rattle.oo7_objects.proofs.Rooting.{root_sets, root_store_refused}
use Rattle.oo7_objects.proofs.roots.set_root.Goals as goal

pub returns-clause-made : goal.returns-clause-made
returns-clause-made g c = (root_sets g.D.Reader.Reader.content c.args.txn.now c.stand.ensures.underway c.stand.ensures.frame c.set_root.new.self c.set_root.ensures.heap c.args.slot c.args.i c.requires.tagged c.in_default.ensures.written).made

pub returns-clause-row : goal.returns-clause-row
returns-clause-row g c = (root_sets g.D.Reader.Reader.content c.args.txn.now c.stand.ensures.underway c.stand.ensures.frame c.set_root.new.self c.set_root.ensures.heap c.args.slot c.args.i c.requires.tagged c.in_default.ensures.written).row

pub returns-in-Err-clause-kept : goal.returns-in-Err-clause-kept
returns-in-Err-clause-kept g c = (root_store_refused g.D.Reader.Reader.content g.D.Reader.Reader.faults c.args.txn.now c.set_root.new.self c.set_root.ensures.heap c.stand.ensures.underway c.args.i c.in-Err.fault c.requires.tagged c.in-Err.ensures.refused).kept

pub returns-in-Err-clause-row : goal.returns-in-Err-clause-row
returns-in-Err-clause-row g c = (root_store_refused g.D.Reader.Reader.content g.D.Reader.Reader.faults c.args.txn.now c.set_root.new.self c.set_root.ensures.heap c.stand.ensures.underway c.args.i c.in-Err.fault c.requires.tagged c.in-Err.ensures.refused).row

pub returns-in-Err-clause-refused : goal.returns-in-Err-clause-refused
returns-in-Err-clause-refused g c = (root_store_refused g.D.Reader.Reader.content g.D.Reader.Reader.faults c.args.txn.now c.set_root.new.self c.set_root.ensures.heap c.stand.ensures.underway c.args.i c.in-Err.fault c.requires.tagged c.in-Err.ensures.refused).refused
