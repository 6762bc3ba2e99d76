use Rattle.oo7_objects.proofs.Rooting.{root_refused, root_told}
use Rattle.oo7_objects.proofs.roots.root.Goals as goal

pub returns-clause-told : goal.returns-clause-told
returns-clause-told g c = (root_told g.D.Reader.Reader.content c.args.txn.now c.stand.ensures.underway c.stand.ensures.frame c.root.new.self c.args.slot c.args.j c.requires.low.1 c.in_default.ensures.read).told

pub returns-clause-kept : goal.returns-clause-kept
returns-clause-kept g c = (root_told g.D.Reader.Reader.content c.args.txn.now c.stand.ensures.underway c.stand.ensures.frame c.root.new.self c.args.slot c.args.j c.requires.low.1 c.in_default.ensures.read).kept

pub returns-clause-tag : goal.returns-clause-tag
returns-clause-tag g c = (root_told g.D.Reader.Reader.content c.args.txn.now c.stand.ensures.underway c.stand.ensures.frame c.root.new.self c.args.slot c.args.j c.requires.low.1 c.in_default.ensures.read).tag

pub returns-clause-row : goal.returns-clause-row
returns-clause-row g c = (root_told g.D.Reader.Reader.content c.args.txn.now c.stand.ensures.underway c.stand.ensures.frame c.root.new.self c.args.slot c.args.j c.requires.low.1 c.in_default.ensures.read).row

pub returns-in-Err-clause-kept : goal.returns-in-Err-clause-kept
returns-in-Err-clause-kept g c = (root_refused g.D.Reader.Reader.content g.D.Reader.Reader.faults c.args.txn.now c.root.new.self c.root.ensures.heap c.stand.ensures.underway c.args.slot c.args.j c.in-Err.fault c.in-Err.ensures.refused).kept

pub returns-in-Err-clause-row : goal.returns-in-Err-clause-row
returns-in-Err-clause-row g c = (root_refused g.D.Reader.Reader.content g.D.Reader.Reader.faults c.args.txn.now c.root.new.self c.root.ensures.heap c.stand.ensures.underway c.args.slot c.args.j c.in-Err.fault c.in-Err.ensures.refused).row

pub returns-in-Err-clause-refused : goal.returns-in-Err-clause-refused
returns-in-Err-clause-refused g c = (root_refused g.D.Reader.Reader.content g.D.Reader.Reader.faults c.args.txn.now c.root.new.self c.root.ensures.heap c.stand.ensures.underway c.args.slot c.args.j c.in-Err.fault c.in-Err.ensures.refused).refused
