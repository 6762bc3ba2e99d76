use Rattle.oo7_objects.proofs.Excluding.{described_refusal}
use Rattle.oo7_objects.proofs.Stays.{object_stayed, stayed_by, stayed_kept, stayed_row}
use Rattle.oo7_objects.proofs.Spotting.{name_told}
use Rattle.oo7_objects.proofs.kinds.name_of.Goals as goal

pub returns-clause-told : goal.returns-clause-told
returns-clause-told g c = name_told g.D.Reader.Reader.content c.args.txn.now c.stand.ensures.underway c.name_of.new.self c.name_of.ensures.heap c.args.i c.in-Ok.name c.in-Ok.ensures.name c.in-Ok.ensures.named (stayed_kept c.args.txn.now c.name_of.new.self c.name_of.ensures.heap (stayed_by c.args.txn.now c.name_of.new.self c.in-Ok.ensures.name.object.touched.same c.in-Ok.ensures.name.object.touched.goes_on))

pub returns-clause-kept : goal.returns-clause-kept
returns-clause-kept g c = stayed_kept c.args.txn.now c.name_of.new.self c.name_of.ensures.heap (stayed_by c.args.txn.now c.name_of.new.self c.in-Ok.ensures.name.object.touched.same c.in-Ok.ensures.name.object.touched.goes_on)

pub returns-clause-row : goal.returns-clause-row
returns-clause-row g c = stayed_row g.D.Reader.Reader.content c.args.txn.now c.name_of.new.self c.name_of.ensures.heap c.stand.ensures.underway (stayed_by c.args.txn.now c.name_of.new.self c.in-Ok.ensures.name.object.touched.same c.in-Ok.ensures.name.object.touched.goes_on) 0 0

pub returns-in-Err-clause-kept : goal.returns-in-Err-clause-kept
returns-in-Err-clause-kept g c = stayed_kept c.args.txn.now c.name_of.new.self c.name_of.ensures.heap (object_stayed g.D.Reader.Reader.faults c.args.txn.now c.name_of.new.self c.args.i c.in-Err.fault c.in-Err.ensures.refused)

pub returns-in-Err-clause-row : goal.returns-in-Err-clause-row
returns-in-Err-clause-row g c = stayed_row g.D.Reader.Reader.content c.args.txn.now c.name_of.new.self c.name_of.ensures.heap c.stand.ensures.underway (object_stayed g.D.Reader.Reader.faults c.args.txn.now c.name_of.new.self c.args.i c.in-Err.fault c.in-Err.ensures.refused) 0 0

pub returns-in-Err-clause-refused : goal.returns-in-Err-clause-refused
returns-in-Err-clause-refused g c = described_refusal c.stand.ensures.frame g.D.Reader.Reader.content c.args.txn.now c.name_of.new.self c.name_of.ensures.heap c.stand.ensures.underway c.stand-in-Err.ensures.underway c.requires.classes g.D.Reader.Reader.faults c.args.i c.in-Err.fault c.requires.some c.in-Err.ensures.refused
