use Rattle.pm3_types.specs.declared.places.Place.TheVariants as places
use Rattle.pm3_access.specs.declared.places.Place.TheVariants.{Field}
use Rattle.oo7_objects.proofs.Excluding.{read_refused, reference_spot}
use Rattle.oo7_objects.proofs.Reading.{field_told}
use Rattle.oo7_objects.proofs.fields.reference.Goals as goal

pub returns-clause-told : goal.returns-clause-told
returns-clause-told g c = (field_told g.D.Reader.Reader.content c.args.txn.now c.stand.ensures.underway c.stand.ensures.frame c.requires.classes c.reference.new.self c.args.i c.args.f c.args.j c.requires.low.1 c.in_default.ensures.read).told

pub returns-clause-kept : goal.returns-clause-kept
returns-clause-kept g c = (field_told g.D.Reader.Reader.content c.args.txn.now c.stand.ensures.underway c.stand.ensures.frame c.requires.classes c.reference.new.self c.args.i c.args.f c.args.j c.requires.low.1 c.in_default.ensures.read).kept

pub returns-clause-tag : goal.returns-clause-tag
returns-clause-tag g c = (field_told g.D.Reader.Reader.content c.args.txn.now c.stand.ensures.underway c.stand.ensures.frame c.requires.classes c.reference.new.self c.args.i c.args.f c.args.j c.requires.low.1 c.in_default.ensures.read).tag

pub returns-clause-row : goal.returns-clause-row
returns-clause-row g c = (field_told g.D.Reader.Reader.content c.args.txn.now c.stand.ensures.underway c.stand.ensures.frame c.requires.classes c.reference.new.self c.args.i c.args.f c.args.j c.requires.low.1 c.in_default.ensures.read).row

pub returns-in-Err-clause-kept : goal.returns-in-Err-clause-kept
returns-in-Err-clause-kept g c = (read_refused c.stand.ensures.frame g.D.Reader.Reader.content c.args.txn.now c.reference.new.self c.reference.ensures.heap c.stand.ensures.underway c.stand-in-Err.ensures.underway c.requires.classes g.D.Reader.Reader.faults c.args.i c.args.j (Field c.args.f) (places.Reference c.args.f) c.in-Err.fault (reference_spot c.args.f) c.requires.there c.in-Err.ensures.refused).kept

pub returns-in-Err-clause-row : goal.returns-in-Err-clause-row
returns-in-Err-clause-row g c = (read_refused c.stand.ensures.frame g.D.Reader.Reader.content c.args.txn.now c.reference.new.self c.reference.ensures.heap c.stand.ensures.underway c.stand-in-Err.ensures.underway c.requires.classes g.D.Reader.Reader.faults c.args.i c.args.j (Field c.args.f) (places.Reference c.args.f) c.in-Err.fault (reference_spot c.args.f) c.requires.there c.in-Err.ensures.refused).row

pub returns-in-Err-clause-refused : goal.returns-in-Err-clause-refused
returns-in-Err-clause-refused g c = (read_refused c.stand.ensures.frame g.D.Reader.Reader.content c.args.txn.now c.reference.new.self c.reference.ensures.heap c.stand.ensures.underway c.stand-in-Err.ensures.underway c.requires.classes g.D.Reader.Reader.faults c.args.i c.args.j (Field c.args.f) (places.Reference c.args.f) c.in-Err.fault (reference_spot c.args.f) c.requires.there c.in-Err.ensures.refused).refused
