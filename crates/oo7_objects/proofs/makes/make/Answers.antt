use Rattle.std.proofs.Common.{List, subst, sym}
use Rattle.pm3_types.specs.Fields.{Fields}
use Rattle.pm3_txn.specs.Making.{MayMake}
use Rattle.oo7_objects.proofs.Adding.{make_refused, object_made}
use Rattle.oo7_objects.proofs.makes.make.Goals as goal

pub returns-clause-made : goal.returns-clause-made
returns-clause-made g c = (object_made g.D.Reader.Reader.content c.args.txn.now c.stand.ensures.underway c.stand.ensures.frame c.requires.classes c.make.new.self c.make.ensures.heap c.args.ty c.args.tail c.args.j c.requires.low c.in_default.ensures.made).made

pub returns-clause-tag : goal.returns-clause-tag
returns-clause-tag g c = (object_made g.D.Reader.Reader.content c.args.txn.now c.stand.ensures.underway c.stand.ensures.frame c.requires.classes c.make.new.self c.make.ensures.heap c.args.ty c.args.tail c.args.j c.requires.low c.in_default.ensures.made).tag

pub returns-clause-row : goal.returns-clause-row
returns-clause-row g c = (object_made g.D.Reader.Reader.content c.args.txn.now c.stand.ensures.underway c.stand.ensures.frame c.requires.classes c.make.new.self c.make.ensures.heap c.args.ty c.args.tail c.args.j c.requires.low c.in_default.ensures.made).row

pub returns-in-Err-clause-kept : goal.returns-in-Err-clause-kept
returns-in-Err-clause-kept g c = (make_refused g.D.Reader.Reader.content c.args.txn.now c.make.new.self c.make.ensures.heap c.stand.ensures.underway c.args.j _ c.in-Err.fault c.in-Err.ensures.refused).kept

pub returns-in-Err-clause-row : goal.returns-in-Err-clause-row
returns-in-Err-clause-row g c = (make_refused g.D.Reader.Reader.content c.args.txn.now c.make.new.self c.make.ensures.heap c.stand.ensures.underway c.args.j _ c.in-Err.fault c.in-Err.ensures.refused).row

pub returns-in-Err-clause-refused : goal.returns-in-Err-clause-refused
returns-in-Err-clause-refused g c = (make_refused g.D.Reader.Reader.content c.args.txn.now c.make.new.self c.make.ensures.heap c.stand.ensures.underway c.args.j _ c.in-Err.fault c.in-Err.ensures.refused).refused

pub make-requires-clause-may : goal.make-requires-clause-may
make-requires-clause-may g c = subst (λ (catalog : List Fields). MayMake catalog c.args.ty c.args.tail) (sym c.requires.classes) c.requires.may
